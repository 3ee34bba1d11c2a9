-- `scantext::refused` meets its contract.
use mathlib.Core.Path.{refl, ap}
use native.Mathlib.Omega.{arith}
use Rattle.paper.specs.Outcome.{gives}
use Rattle.paper.proofs.Writing.{writes_same}
use Rattle.text.proofs.Pieces.{added_first, added_shown}
use Rattle.text.proofs.Refused.{refused_short}
use Rattle.scantext.proofs.refused.Goals as goal

pub returns : goal.returns
returns c =
    writes_same (ap gives (added_shown (added_first c.refused.ensures) refl (refused_short c.args.number (omega arith)) c.as_bytes.ensures)) c.write.ensures
