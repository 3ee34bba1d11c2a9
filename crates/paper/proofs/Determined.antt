-- Two answers that a promise allows are equal: one theorem for each promise of the crate.
use Prim.Native.Nat.{ℕ}
use mathlib.Core.Path.{◌≡◌, sym, ◌∙◌}
use mathlib.Core.List.{List}
use Rattle.std.specs.Prelude.{Result}
use Rattle.paper.specs.Outcome.{Outcome}
use Rattle.paper.specs.Writing.{Writes}
use Rattle.paper.specs.Promises.{NumberGiven, SumGiven, WordRead, WordBytes, BytesPut}
use Rattle.paper.specs.declared.refusal.Refusal.{Refusal}
use Rattle.paper.proofs.Refusals.{outcome_one}

pub number_determined : {a : Refusal} {r s : ℕ} → NumberGiven a r → NumberGiven a s → r ≡ s
number_determined p q = p.answer ∙ sym q.answer

pub sum_determined : {xs : List ℕ} {r s : ℕ} → SumGiven xs r → SumGiven xs s → r ≡ s
sum_determined p q = p.answer ∙ sym q.answer

pub word_determined : {xs : List ℕ} {r s : ℕ} → WordRead xs r → WordRead xs s → r ≡ s
word_determined p q = p.answer ∙ sym q.answer

pub bytes_determined : {w v : ℕ} {r s : List ℕ} → WordBytes w v r → WordBytes w v s → r ≡ s
bytes_determined p q = p.answer ∙ sym q.answer

pub put_determined : {place : ℕ} {xs was : List ℕ} {r s : Result (Unit {0}) Refusal} {is js : List ℕ} → BytesPut xs place was r is → BytesPut xs place was s js → (r ≡ s) × (is ≡ js)
put_determined {r = r} {s = s} p q = (outcome_one r s (p.answer ∙ sym q.answer), p.output ∙ sym q.output)

-- of every writer, in this crate and above it
pub writes_determined : {o : Outcome (List ℕ)} {was : List ℕ} {r s : Result ℕ Refusal} {is js : List ℕ} → Writes o was r is → Writes o was s js → (r ≡ s) × (is ≡ js)
writes_determined {r = r} {s = s} p q = (outcome_one r s (p.answer ∙ sym q.answer), p.output ∙ sym q.output)
