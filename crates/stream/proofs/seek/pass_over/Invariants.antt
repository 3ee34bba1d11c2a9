-- `seek::pass_over` meets its promise.
use Prim.Native.Nat.{◌+◌, ◌-◌, ◌≤◌}
use lib.ListN.{length}
use Rattle.stream.specs.inner.Seek.{Sought}
use Rattle.stream.proofs.seek.pass_over.Given as goal

abbrev pub invariant-loop-at : goal.invariant-loop-at
invariant-loop-at l = Sought l.head l.part l.from l.at × (l.at + 6 ≤ length l.part)

abbrev pub decreases-loop-at : goal.decreases-loop-at
decreases-loop-at l = length l.part - l.at
