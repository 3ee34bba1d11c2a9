-- `seek::seek` meets its promise.
use Prim.Native.Nat.{◌-◌}
use lib.ListN.{length}
use Rattle.stream.specs.inner.Seek.{Sought}
use Rattle.stream.proofs.seek.seek.Given as goal

abbrev pub invariant-loop-at : goal.invariant-loop-at
invariant-loop-at l = Sought l.head l.part l.from l.at

abbrev pub decreases-loop-at : goal.decreases-loop-at
decreases-loop-at l = length l.part - l.at
