-- Decimal numbers as text: the digits of a number in ASCII, with no zero in front.
use Rattle.std.specs.Prelude.{ℕ, zero, suc, ◌+◌, ◌-◌, ◌*◌, ◌/◌, ◌%◌, cond, List, [], ◌∷◌, ◌++◌, ltb}

-- the last digits of n, at most so many
unfoldable pub digits : ℕ → ℕ → List ℕ
digits zero n = []
digits (suc most) n = cond (ltb n 10) ((48 + n) ∷ []) (digits most (n / 10) ++ (48 + n % 10) ∷ [])

-- all of them: a number has no more digits than it counts, and one where it is 0
unfoldable pub decimal : ℕ → List ℕ
decimal n = digits (suc n) n

-- the number that digits tell, from one that stands before them
unfoldable pub told_from : ℕ → List ℕ → ℕ
told_from n [] = n
told_from n (d ∷ ds) = told_from (n * 10 + (d - 48)) ds
