-- What each public function of the crate promises, over the bytes of its piece.
use Rattle.std.specs.Prelude.{ℕ, ◌+◌, min, Bool, true, cond, ◌≡◌, List, Option, leb, length, take}
use Rattle.paper.specs.Promises.{put_at}
use Rattle.text.specs.declared.Text.{Text}
use Rattle.text.specs.Parts.{digit_in, StandsAt}

-- the piece xs has room behind the first `from` bytes
unfoldable pub fits : List ℕ → ℕ → List ℕ → Bool
fits was from xs = leb (from + length xs) (length was)

-- a piece put behind the first `from` bytes: with room it stands there, and the next goes behind it; without, nothing is written and the next goes
-- there too
pub record Puts (was : List ℕ) (from : ℕ) (xs : List ℕ) (r : ℕ) (is : List ℕ) : Type 0 where
  pub next : r ≡ cond (fits was from xs) (from + length xs) from
  pub output : is ≡ cond (fits was from xs) (put_at from xs was) was

-- `Text::byte`, `Text::bytes`, `Text::number`, `Text::hex`, `Text::refused`: the piece is put into the same buffer
pub record PiecePut (was : Text) (xs : List ℕ) (is : Text) : Type 0 where
  pub same : is.bytes.ghost_name ≡ was.bytes.ghost_name
  pub puts : Puts was.bytes.now was.end xs is.end is.bytes.now

-- `Text::as_bytes`
pub record TextShown (text : Text) (r : List ℕ) : Type 0 where
  pub front : r ≡ take text.end text.bytes.now

-- `digit_value`
pub record DigitRead (b : ℕ) (r : Option ℕ) : Type 0 where
  pub value : r ≡ digit_in b

-- `stands`: yes exactly where the piece stands there
pub record StandsTold (xs : List ℕ) (place : ℕ) (piece : List ℕ) (r : Bool) : Type 0 where
  pub there : r ≡ true → StandsAt xs place piece
  pub told : StandsAt xs place piece → r ≡ true

-- `front`: so many bytes, or all
pub record FrontTold (n : ℕ) (xs : List ℕ) (r : ℕ) : Type 0 where
  pub least : r ≡ min n (length xs)
