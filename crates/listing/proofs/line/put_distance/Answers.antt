-- `listing::line::put_distance` meets its contract.
use Rattle.std.proofs.Common.{ne_eqb}
use Rattle.text.proofs.Pieces.{added_first, added_is}
use Rattle.listing.specs.Text.{distance}
use Rattle.listing.proofs.line.put_distance.Goals as goal

pub returns-then-q-eq0 : goal.returns-then-q-eq0
unfolding distance
returns-then-q-eq0 c = added_is (added_first c.byte.ensures) (rw c.if-q-eq0.true)

pub returns : goal.returns
unfolding distance
returns c = added_is (added_first c.number.ensures) (rw (c.from.ensures, ne_eqb _ 0 c.if-q-eq0.false))
