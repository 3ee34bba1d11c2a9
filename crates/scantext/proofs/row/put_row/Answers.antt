-- `scantext::row::put_row` meets its contract.
use Rattle.std.proofs.Common.{rules, arith}
use Rattle.std.proofs.lemmas.Grind.{common_steps}
use Rattle.scantext.proofs.Lines.{row_start, row_next, row_end}
use Rattle.scantext.proofs.row.put_row.Goals as goal

pub loop-sample-init : goal.loop-sample-init
loop-sample-init c = row_start _ (search rules) (grind (arith, common_steps))

pub loop-sample-preserved : goal.loop-sample-preserved
loop-sample-preserved c = let n = c.in-Some.ensures.steps in row_next _ c.loop-sample.invariant n.0 n.1.0 n.1.1 c.put_sample.ensures

pub returns : goal.returns
returns c = row_end c.loop-sample.invariant c.in-None.ensures.steps.1.0
