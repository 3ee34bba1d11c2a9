-- `scantext::line::put_reply` meets its contract.
use Rattle.text.proofs.Pieces.{added_first, added_more, added_then}
use Rattle.scantext.specs.Lines.{reply_line}
use Rattle.scantext.proofs.line.put_reply.Goals as goal

pub returns : goal.returns
unfolding reply_line
returns c = added_then (added_more (added_first c.bytes.ensures) c.put_hexes.ensures) c.byte.ensures
