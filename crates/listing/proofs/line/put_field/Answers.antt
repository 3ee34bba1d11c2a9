-- `listing::line::put_field` meets its contract.
use Rattle.text.proofs.Pieces.{added_first, added_then}
use Rattle.listing.proofs.line.put_field.Goals as goal

pub returns : goal.returns
returns c = added_then (added_first c.number.ensures) c.byte.ensures
