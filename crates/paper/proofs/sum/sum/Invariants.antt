-- `paper::sum::sum` meets its promise.
use mathlib.Core.Path.{◌≡◌}
use lib.ListN.{drop}
use Rattle.paper.specs.Sum.{xor_from, sum_of}
use Rattle.paper.proofs.sum.sum.Given as goal

abbrev pub invariant-loop-b : goal.invariant-loop-b
invariant-loop-b l = xor_from l.acc (drop l.b-index l.bytes) ≡ sum_of l.bytes
