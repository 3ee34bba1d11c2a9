-- The C form of the answers that the crates share: 0 for none, or the number of the refusal.
use Rattle.std.specs.Prelude.{ℕ, Bool, cond, not, eqb, Result, Ok, Err}
use Rattle.paper.specs.Refusals.{number_of}
use Rattle.paper.specs.declared.refusal.Refusal.{Refusal}
use Rattle.bernkessel.specs.declared.answer.BkWritten.{BkWritten}

-- the value and 0, or what stands beside a refusal and the refusal's number
unfoldable pub split : {A : Type 0} → Result A Refusal → A → A × ℕ
split (Ok a) blank = (a, 0)
split (Err q) blank = (blank, number_of q)

unfoldable pub answer_out : Result (Unit {0}) Refusal → ℕ
answer_out (Ok a) = 0
answer_out (Err q) = number_of q

unfoldable pub written_out : Result ℕ Refusal → BkWritten
written_out (Ok n) = record { bytes = n; refusal = 0 }
written_out (Err q) = record { bytes = 0; refusal = number_of q }

-- a flag is a byte: off where it is 0, and on for every other byte
unfoldable pub flag_in : ℕ → Bool
flag_in b = not (eqb b 0)

unfoldable pub flag_out : Bool → ℕ
flag_out t = cond t 1 0
