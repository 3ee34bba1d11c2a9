-- The last 14 bytes of each slot, and memories that agree everywhere else.
use Rattle.std.specs.Prelude.{ℕ, ◌-◌, ◌%◌, ◌≡◌, Bool, false, ◌&&◌, List, ltb, leb, length, get_or}
use Rattle.ring.specs.Answers.{counting, storing, reading, reading_all, erasing}

-- does byte j of a memory stand in the last 14 of its slot? Byte 0 is the head, and slots of 768 bytes follow.
unfoldable pub in_tail : ℕ → Bool
in_tail j = ltb 0 j && leb 754 ((j - 1) % 768)

-- two memories of one length that agree at every other byte
pub record SameButTails (mem other : List ℕ) : Type 0 where
  pub size : length mem ≡ length other
  pub bytes : (j : ℕ) → in_tail j ≡ false → get_or mem j 0 ≡ get_or other j 0

-- two memories of which every question and every attempt is answered alike
pub record SameAnswers (S : ℕ) (mem other : List ℕ) : Type 0 where
  pub count : counting S mem ≡ counting S other
  pub stored : (rec : List ℕ) (k : ℕ) → storing S mem rec k ≡ storing S other rec k
  pub read : (i : ℕ) → reading S mem i ≡ reading S other i
  pub read_all : reading_all S mem ≡ reading_all S other
  pub erase : erasing S mem ≡ erasing S other
