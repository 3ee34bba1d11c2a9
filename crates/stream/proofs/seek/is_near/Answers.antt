-- `seek::is_near` meets its promise.
use mathlib.Core.Path.{refl}
use Rattle.stream.specs.inner.Seek.{near_by}
use Rattle.stream.proofs.inner.Seek.{near_next}
use Rattle.stream.proofs.seek.is_near.Goals as goal

pub loop-k-init : goal.loop-k-init
unfolding near_by
loop-k-init c = refl

pub loop-k-preserved : goal.loop-k-preserved
loop-k-preserved c = near_next _ _ _ c.loop-k.k c.loop-k.invariant
