-- A list is its elements one by one: `listed_whole`, for lists of a known length that are read by their places.
use Prim.Native.Nat.{ℕ, zero, suc, ◌+◌}
use mathlib.Core.Path.{◌≡◌, sym, ap, ◌∙◌}
use mathlib.Core.List.{List, [], ◌∷◌}
use native.Mathlib.Omega.{arith}
use lib.ListN.{length, get_or, drop, drop_of_length-le}
use lib.Seq.{drop-cons}

-- n elements from place i on
abbrev pub listed : ℕ → ℕ → List ℕ → List ℕ
listed zero i xs = []
listed (suc n) i xs = get_or xs i 0 ∷ listed n (suc i) xs

listed_drop : (n i : ℕ) (xs : List ℕ) → i + n ≡ length xs → listed n i xs ≡ drop i xs
listed_drop zero i xs h = sym (drop_of_length-le xs {i = i} (omega arith))
listed_drop (suc n) i xs h = ap (λ (ys : List ℕ). get_or xs i 0 ∷ ys) (listed_drop n (suc i) xs (omega arith)) ∙ sym (drop-cons xs i 0 (omega arith))

pub listed_whole : (n : ℕ) (xs : List ℕ) → length xs ≡ n → listed n 0 xs ≡ xs
listed_whole n xs h = listed_drop n 0 xs (omega arith)
