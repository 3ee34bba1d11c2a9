use Rattle.std.proofs.Common.{length}
use Rattle.stream.specs.declared.Reader.{Reader}
use Rattle.scantext.specs.Listing.{Lists}
use Rattle.scanlist.proofs.lister.Lister.list_piece.Given as goal

-- what lists the rest lists the piece
abbrev pub invariant-loop-rest : goal.invariant-loop-rest
invariant-loop-rest l = (z : Reader) → Lists l.next l.rest z → Lists l.fn.reader l.piece z

abbrev pub decreases-loop-rest : goal.decreases-loop-rest
decreases-loop-rest l = length l.rest
