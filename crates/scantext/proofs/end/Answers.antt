-- `scantext::end` meets its contract.
use mathlib.Core.Path.{refl, ap}
use native.Mathlib.Omega.{arith}
use Rattle.paper.specs.Outcome.{gives}
use Rattle.paper.proofs.Writing.{writes_same}
use Rattle.text.proofs.Pieces.{added_shown}
use Rattle.scantext.proofs.Room.{end_short}
use Rattle.scantext.proofs.end.Goals as goal

pub returns : goal.returns
returns c =
    let few = end_short c.args.taken c.args.skipped c.args.held (omega arith) (omega arith) (omega arith) in
    writes_same (ap gives (added_shown c.put_end.ensures refl few c.as_bytes.ensures)) c.write.ensures
