-- The exclusive or of bytes.
use Rattle.std.specs.Prelude.{ℕ, List, [], ◌∷◌}
use Rattle.std.specs.Int.Bits.{bit_xor}

-- of a byte and all bytes of a list, from the front
unfoldable pub xor_from : ℕ → List ℕ → ℕ
xor_from acc [] = acc
xor_from acc (b ∷ xs) = xor_from (bit_xor acc b) xs

-- the exclusive or of all bytes of a list
unfoldable pub sum_of : List ℕ → ℕ
sum_of xs = xor_from 0 xs
