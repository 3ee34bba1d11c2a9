-- Steps of the exclusive or along a list: `xor_step` and `xor_from-end` carry a loop over it.
use Prim.Native.Nat.{ℕ, ◌+◌, ◌<◌}
use mathlib.Core.Path.{◌≡◌, refl}
use mathlib.Core.List.{List, [], ◌∷◌, ◌++◌}
use lib.Bits.{bit_xor}
use lib.ListN.{length, get_or, drop}
use lib.Seq.{drop-cons, drop-length}
use native.Mathlib.Numerals.{add-one}
use Rattle.paper.specs.Sum.{xor_from}

pub xor_step : (xs : List ℕ) (acc i : ℕ) → i < length xs → xor_from (bit_xor acc (get_or xs i 0)) (drop (i + 1) xs) ≡ xor_from acc (drop i xs)
unfolding xor_from
xor_step xs acc i h = rw (add-one, drop-cons xs i 0)

pub xor_from-end : (xs : List ℕ) (acc i : ℕ) → i ≡ length xs → xor_from acc (drop i xs) ≡ acc
unfolding xor_from
xor_from-end xs acc i h = rw (h, drop-length)

pub xor_from-append : (acc : ℕ) (xs ys : List ℕ) → xor_from acc (xs ++ ys) ≡ xor_from (xor_from acc xs) ys
unfolding xor_from
xor_from-append acc [] ys = refl
xor_from-append acc (x ∷ xs) ys = xor_from-append (bit_xor acc x) xs ys
