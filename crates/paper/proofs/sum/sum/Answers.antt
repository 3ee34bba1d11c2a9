-- `paper::sum::sum` meets its promise.
use mathlib.Core.Path.{refl, sym, ◌∙◌}
use native.Mathlib.Omega.{arith}
use Rattle.paper.specs.Sum.{sum_of}
use Rattle.paper.proofs.Xor.{xor_step, xor_from-end}
use Rattle.paper.proofs.sum.sum.Goals as goal

pub loop-b-init : goal.loop-b-init
unfolding sum_of
loop-b-init c = refl

pub loop-b-preserved : goal.loop-b-preserved
loop-b-preserved c = xor_step c.args.bytes.now c.loop-b.acc c.loop-b.b-index (omega arith) ∙ c.loop-b.invariant

pub returns : goal.returns
returns c = record { answer = sym (xor_from-end c.args.bytes.now c.loop-b.acc c.loop-b.b-index (omega arith)) ∙ c.loop-b.invariant }
