-- `text::Text::add_number`, which calls itself with one digit less, meets its contract.
use native.Mathlib.Omega.{arith}
use Rattle.text.proofs.Pieces.{number_more}
use Rattle.text.proofs.Text.+add_number.Goals as goal

pub returns : goal.returns
returns t c = number_more _ (omega arith) c.add_number.ensures c.byte-2.ensures
