-- A byte takes two hexadecimal digits: `hex_long`.
use Prim.Native.Nat.{ℕ}
use mathlib.Core.Path.{◌≡◌, refl}
use lib.ListN.{length}
use Rattle.text.specs.Hex.{hex}

pub hex_long : (b : ℕ) → length (hex b) ≡ 2
unfolding hex
hex_long b = refl
