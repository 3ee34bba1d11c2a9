-- Little-endian words, over the width in bytes, and the bytes of a list.
use Rattle.std.specs.Prelude.{ℕ, zero, suc, ◌+◌, ◌*◌, ◌/◌, ◌%◌, ◌<◌, List, [], ◌∷◌}

-- the number that bytes hold, the lowest first
unfoldable pub value_of : List ℕ → ℕ
value_of [] = 0
value_of (b ∷ xs) = b + value_of xs * 256

-- the w lowest bytes of a number, the lowest first
unfoldable pub bytes_of : ℕ → ℕ → List ℕ
bytes_of zero v = []
bytes_of (suc w) v = v % 256 ∷ bytes_of w (v / 256)

-- P holds of each
unfoldable pub Each : {A : Type 0} → (A → Type 0) → List A → Type 0
Each P [] = Unit {0}
Each P (x ∷ xs) = P x × Each P xs

-- a list whose elements are bytes
abbrev pub Bytes : List ℕ → Type 0
Bytes xs = Each (λ (b : ℕ). b < 256) xs
