-- `paper::write::copy` meets its contract.
use Rattle.std.proofs.Common.{arith, refl, length-set, ◌∙◌}
use Rattle.paper.proofs.Writing.{copy_step, copy_end}
use Rattle.paper.proofs.write.copy.Goals as goal

pub loop-i-preserved : goal.loop-i-preserved
loop-i-preserved c =
    let inv = c.loop-i.invariant in
    (length-set _ _ _ ∙ inv.0, copy_step _ _ _ _ (omega (arith, inv.0)) inv.1 refl)

pub returns : goal.returns
returns c = let inv = c.loop-i.invariant in copy_end _ _ inv.0 (λ k h. inv.1 k (omega arith))
