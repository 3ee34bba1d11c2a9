-- `ring::reading::all_read` meets its contract.
use mathlib.Core.Path.{◌≡◌}
use mathlib.Core.Bool.{true}
use Rattle.ring.specs.Ring.{slots, first_turns}
use Rattle.ring.specs.Answers.{is_all_read}
use Rattle.ring.proofs.reading.all_read.Given as goal

abbrev pub invariant-loop-i : goal.invariant-loop-i
invariant-loop-i l = is_all_read (first_turns slots l.mem l.i) ≡ true
