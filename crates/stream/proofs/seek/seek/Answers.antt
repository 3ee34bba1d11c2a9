-- `seek::seek` meets its promise.
use native.Mathlib.Omega.{arith}
use Rattle.stream.proofs.inner.Seek.{sought_on, sought_there, sought_end}
use Rattle.stream.proofs.seek.seek.Goals as goal

pub returns-in-Some : goal.returns-in-Some
returns-in-Some c = sought_there (sought_on c.loop-at.invariant c.pass_over-near.ensures.0) c.in-Some.ensures

pub loop-at-preserved : goal.loop-at-preserved
loop-at-preserved c = sought_on c.loop-at.invariant (sought_on c.pass_over-near.ensures.0 c.in_default.ensures)

pub returns : goal.returns
returns c = sought_end c.loop-at.invariant (omega arith)
