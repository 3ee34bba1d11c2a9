-- `listing::image::put_turns` meets its contract.
use Rattle.std.proofs.Common.{arith}
use Rattle.ring.specs.Ring.{slots}
use Rattle.listing.proofs.Lines.{lines_none, lines_next, lines_end, turns_counted, turn_same}
use Rattle.listing.proofs.image.put_turns.Goals as goal

pub loop-i-init : goal.loop-i-init
loop-i-init c = lines_none slots _ _

pub loop-i-preserved : goal.loop-i-preserved
loop-i-preserved c =
    let w = turns_counted slots _ _ (omega arith) (omega arith) c.requires in
    lines_next slots _ _ _ (turn_same slots _ _ _ w.0 (omega (arith, w.1)) c.turn.ensures) c.loop-i.invariant c.put_line.ensures

pub returns : goal.returns
returns c =
    let w = turns_counted slots _ _ (omega arith) (omega arith) c.requires in
    lines_end slots _ _ _ w.1 (omega arith) c.loop-i.invariant
