-- Turn numbers: the next turn's goes on from that of the newest turn held.
use Rattle.std.specs.Prelude.{ℕ, zero, suc, ◌+◌, cond, List, eqb}
use Rattle.paper.specs.Outcome.{Outcome, gives, mapped}
use Rattle.record.specs.Record.{Turn, turn_of}
use Rattle.ring.specs.Ring.{head_of, held, turn_at}
use Rattle.ring.specs.Answers.{of_ring}

-- one more, and 0 after the largest 32-bit number
unfoldable pub following : ℕ → ℕ
following n = cond (eqb n 4294967295) 0 (n + 1)

-- with so many turns held: 1 where there is none; 9 where the newest does not read
unfoldable pub number_behind : ℕ → List ℕ → ℕ → Outcome ℕ
number_behind S mem zero = gives 1
number_behind S mem (suc n) = mapped (λ (t : Turn). following t.number) (turn_of (turn_at S mem n))

-- 10, 11, and then 9
unfoldable pub next_number : ℕ → List ℕ → Outcome ℕ
next_number S mem = of_ring S mem (number_behind S mem (held S (head_of mem)))
