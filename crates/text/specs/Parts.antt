-- Texts taken apart: a digit's value, and whether a piece stands at a place.
use Rattle.std.specs.Prelude.{ℕ, ◌-◌, ◌≤◌, ◌≡◌, cond, List, Option, Some, None, ltb, length, take, drop}

-- `0` to `9`, `A` to `F` and `a` to `f`; no other byte is one
unfoldable pub digit_in : ℕ → Option ℕ
digit_in b =
    cond (ltb b 48) None (cond (ltb b 58) (Some (b - 48)) (cond (ltb b 65) None (cond (ltb b 71) (Some (b - 55)) (cond (ltb b 97) None (cond (ltb b 103) (Some (b - 87)) None)))))

-- the piece stands in the text from the place on
abbrev pub StandsAt : List ℕ → ℕ → List ℕ → Type 0
StandsAt xs place piece = (place ≤ length xs) × (take (length piece) (drop place xs) ≡ piece)
