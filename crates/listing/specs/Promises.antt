-- What each public function of the crate promises.
use Rattle.std.specs.Prelude.{ℕ, ◌≤◌, List, length, Result}
use Rattle.paper.specs.Outcome.{gives}
use Rattle.paper.specs.Writing.{Writes}
use Rattle.paper.specs.declared.refusal.Refusal.{Refusal}
use Rattle.record.specs.Record.{turn_of}
use Rattle.listing.specs.Text.{line_by, text_of, room_for}

-- `list`: the text stands at the front of the output, or the output is too short and stays; and so long an output never is too short
pub record ListGiven (S : ℕ) (mem was : List ℕ) (r : Result ℕ Refusal) (is : List ℕ) : Type 0 where
  pub text : Writes (gives (text_of S mem)) was r is
  pub short : length (text_of S mem) ≤ room_for S

-- `list_turn`: the line of a record stands at the front of the output, or the output is too short and stays; and 27 bytes never are too short
pub record LineGiven (rec was : List ℕ) (r : Result ℕ Refusal) (is : List ℕ) : Type 0 where
  pub line : Writes (gives (line_by (turn_of rec))) was r is
  pub short : length (line_by (turn_of rec)) ≤ 27
