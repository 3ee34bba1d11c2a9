use Rattle.std.proofs.Common.{length, ◌≤◌}
use Rattle.edge_scans.proofs.Tally.read.Given as goal

abbrev pub invariant-loop-rest : goal.invariant-loop-rest
invariant-loop-rest l = 3 ≤ length l.words

abbrev pub decreases-loop-rest : goal.decreases-loop-rest
decreases-loop-rest l = length l.rest
