-- `text::Text::bytes` meets its contract.
use mathlib.Core.Path.{refl}
use Rattle.std.proofs.Common.{arith}
use Rattle.paper.proofs.Writing.{written_whole}
use Rattle.text.proofs.Pieces.{piece_there, piece_not}
use Rattle.text.proofs.Text.bytes.Goals as goal

pub returns-then-not-has_room : goal.returns-then-not-has_room
returns-then-not-has_room c = piece_not _ _ c.if-not-has_room.ensures

pub returns : goal.returns
returns c = piece_there _ _ _ c.if-not-has_room.ensures refl (written_whole _ _ _ _ (omega arith) c.write.ensures)
