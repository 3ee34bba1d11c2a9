-- What a writer of a piece comes to where there is room: bytes stand behind those already written.
use Rattle.std.specs.Prelude.{ℕ, ◌+◌, ◌≤◌, ◌≡◌, List, ◌++◌, length, take, drop}
use Rattle.text.specs.declared.Text.{Text}

-- the first r bytes of `is` are the first `from` of `was`, followed by xs; those behind stay
pub record Appends (was : List ℕ) (from : ℕ) (xs : List ℕ) (r : ℕ) (is : List ℕ) : Type 0 where
  pub end : r ≡ from + length xs
  pub size : length is ≡ length was
  pub front : take r is ≡ take from was ++ xs
  pub behind : drop r is ≡ drop r was

-- pieces put into a text one by one, which are xs together: they stand in its buffer so, where all of them have room
pub record PieceAdded (was : Text) (xs : List ℕ) (is : Text) : Type 0 where
  pub same : is.bytes.ghost_name ≡ was.bytes.ghost_name
  pub adds : was.end + length xs ≤ length was.bytes.now → Appends was.bytes.now was.end xs is.end is.bytes.now
