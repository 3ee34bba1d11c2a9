-- `listing::image::put_held` meets its contract.
use Rattle.text.proofs.Pieces.{added_first, added_then}
use Rattle.listing.specs.Text.{held_line}
use Rattle.listing.proofs.image.put_held.Goals as goal

pub returns : goal.returns
unfolding held_line
returns c = added_then (added_then (added_first c.bytes.ensures) c.number.ensures) c.byte.ensures
