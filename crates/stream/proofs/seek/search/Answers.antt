-- `seek::search` meets its promise.
use native.Mathlib.Omega.{arith}
use Rattle.stream.proofs.inner.Seek.{sought_next}
use Rattle.stream.proofs.seek.search.Goals as goal
use Rattle.stream.proofs.seek.search.Goals.{else-loop-k-test, then-loop-k-test+then-part-at}

pub places-preserved : goal.places-preserved
places-preserved c = let l = c.loop-k.invariant in let p = c.places.invariant in (
  l.0,
  elim c.loop-k-test.branch [
    | else-loop-k-test w ↦ absurd (omega (arith, l.1))
    | then-loop-k-test+then-part-at w ↦ sought_next p.1 (omega arith) c.loop-k.k l.1 w.if-part-at.true
  ],
)
