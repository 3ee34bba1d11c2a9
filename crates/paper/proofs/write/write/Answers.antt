-- `paper::write::write` meets its promise.
use mathlib.Core.Path.{refl, ap}
use mathlib.Core.List.{◌++◌}
use lib.ListN.{length, drop}
use Rattle.paper.specs.Writing.{over}
use Rattle.paper.proofs.Writing.{writes_short, writes_all}
use Rattle.paper.proofs.write.write.Goals as goal

pub returns-then-out-n : goal.returns-then-out-n
returns-then-out-n c = writes_short _ _ c.if-out-n.true

pub returns : goal.returns
unfolding over
returns c = writes_all _ _ _ _ c.if-out-n.false refl (ap (λ xs. xs ++ drop (length c.args.bytes.now) c.args.out.now) c.copy.ensures)
