-- `text::Text::number` meets its contract.
use native.Mathlib.Omega.{arith}
use Rattle.text.proofs.Pieces.{added_put, piece_not}
use Rattle.text.proofs.Text.number.Goals as goal

pub returns-then-has_room : goal.returns-then-has_room
returns-then-has_room c = added_put (omega (arith, c.digits.ensures, c.if-has_room.ensures)) c.add_number.ensures

pub returns-else-has_room : goal.returns-else-has_room
returns-else-has_room c = piece_not _ _ (omega (arith, c.digits.ensures, c.if-has_room.ensures))
