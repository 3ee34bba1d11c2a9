-- Laws by cases of tests and options: `both_hold`, `none_some`.
use Prim.Native.Nat.{ℕ}
use mathlib.Core.Path.{◌≡◌, refl}
use mathlib.Core.Bool.{Bool, true, false, ◌&&◌}
use Rattle.std.specs.Prelude.{Some, None}
use native.Mathlib.Omega.{arith}

-- of two tests that hold together each holds
pub both_hold : (a b : Bool) → a && b ≡ true → (a ≡ true) × (b ≡ true)
both_hold true b e = (refl, e)
both_hold false b e = let z : ◌≡◌ {A = ℕ} 0 1 = cc in absurd (omega arith)

-- None is not Some
pub none_some : {A : Type 0} {a : A} → None ≡ Some a → ⊥
none_some e = let z : ◌≡◌ {A = ℕ} 0 1 = cc in omega arith
