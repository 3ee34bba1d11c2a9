-- `listing::line::list_turn` meets its contract.
use Rattle.std.proofs.Common.{ap, refl}
use Rattle.paper.specs.Outcome.{gives}
use Rattle.paper.proofs.Writing.{writes_same}
use Rattle.text.proofs.Pieces.{added_shown}
use Rattle.listing.proofs.line.list_turn.Goals as goal

pub returns : goal.returns
returns c = let line = c.put_line.ensures in
    record { line = writes_same (ap gives (added_shown line.added refl line.short c.as_bytes.ensures)) c.write.ensures; short = line.short }
