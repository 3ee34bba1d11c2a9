-- `seek::is_near` meets its promise.
use mathlib.Core.Path.{◌≡◌}
use Rattle.stream.specs.inner.Seek.{near_by}
use Rattle.stream.proofs.seek.is_near.Given as goal

abbrev pub invariant-loop-k : goal.invariant-loop-k
invariant-loop-k l = l.near ≡ near_by l.head l.part l.at l.k
