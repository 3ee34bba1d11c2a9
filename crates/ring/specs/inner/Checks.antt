-- What the private checks answer: the front of the orders of checks in specs/Answers.antt.
use Rattle.std.specs.Prelude.{ℕ, List, leb}
use Rattle.paper.specs.Outcome.{Outcome, gives, refuse_if}
use Rattle.paper.specs.Refusals.{number_of}
use Rattle.paper.specs.declared.refusal.Refusal.TheVariants.{NoSuchNumber}
use Rattle.ring.specs.Ring.{head_of, held}
use Rattle.ring.specs.Answers.{of_ring}

-- is the memory a ring?
abbrev pub ringing : ℕ → List ℕ → Outcome (Unit {0})
ringing S mem = of_ring S mem (gives tt)

-- is there a turn i in it?
unfoldable pub asking : ℕ → List ℕ → ℕ → Outcome (Unit {0})
asking S mem i = of_ring S mem (refuse_if (leb (held S (head_of mem)) i) (number_of NoSuchNumber) (gives tt))
