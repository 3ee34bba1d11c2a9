-- `ring::storing::add` meets its contract.
use mathlib.Core.Path.{◌≡◌}
use Rattle.ring.specs.Ring.{slots, stores}
use Rattle.ring.proofs.storing.add.Given as goal

abbrev pub invariant-loop-k : goal.invariant-loop-k
invariant-loop-k l = l.mem ≡ stores slots l.initial.mem l.rec l.k
