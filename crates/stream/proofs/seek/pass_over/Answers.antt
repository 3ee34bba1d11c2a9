-- `seek::pass_over` meets its promise.
use mathlib.Core.Path.{sym, ◌∙◌}
use native.Mathlib.Omega.{arith}
use Rattle.stream.proofs.inner.Seek.{sought_block}
use Rattle.stream.proofs.seek.pass_over.Goals as goal

pub loop-at-preserved : goal.loop-at-preserved
loop-at-preserved c = (sought_block 32 c.loop-at.invariant.0 (omega arith) (sym c.is_near.ensures ∙ c.if-is_near.false), omega arith)
