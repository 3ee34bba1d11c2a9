-- `paper::write::copy` meets its contract.
use Rattle.std.proofs.Common.{◌≡◌, ℕ, ◌<◌, get_or, length}
use Rattle.paper.proofs.write.copy.Given as goal

abbrev pub invariant-loop-i : goal.invariant-loop-i
invariant-loop-i l = (length l.to ≡ length l.from) × ((k : ℕ) → k < l.i → get_or l.to k 0 ≡ get_or l.from k 0)
