-- `listing::image::list` meets its contract.
use Rattle.std.proofs.Common.{ap, refl}
use Rattle.paper.specs.Outcome.{gives}
use Rattle.paper.proofs.Writing.{writes_same}
use Rattle.text.proofs.Pieces.{added_shown}
use Rattle.listing.proofs.image.list.Goals as goal

pub returns : goal.returns
returns c = let made = c.compose.ensures in
    record { text = writes_same (ap gives (added_shown made.added refl made.short c.as_bytes.ensures)) c.write.ensures; short = made.short }
