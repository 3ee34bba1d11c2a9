use Rattle.std.proofs.Common.{◌≡◌}
use Rattle.ring.specs.Ring.{slots, stores}
use Rattle.recorder.proofs.file.keep.Given as goal

-- so many stores of the record are made in the image
abbrev pub invariant-loop-k : goal.invariant-loop-k
invariant-loop-k l = l.image ≡ stores slots l.initial.image l.rec l.k
