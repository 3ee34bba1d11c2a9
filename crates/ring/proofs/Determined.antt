-- Two answers, and two memories at exit, that a promise allows are equal: one theorem for each public function.
use Prim.Native.Nat.{ℕ}
use mathlib.Core.Path.{◌≡◌, sym, ◌∙◌}
use mathlib.Core.List.{List}
use Rattle.std.specs.Prelude.{Result}
use Rattle.paper.specs.declared.refusal.Refusal.{Refusal}
use Rattle.paper.proofs.Refusals.{outcome_one}
use Rattle.ring.specs.Promises.{HeldGiven, StoreGiven, AddGiven, TurnGiven, TurnStartGiven, TurnRefusalGiven, AllReadGiven, EraseGiven}

module _ {S : ℕ} {was : List ℕ} where
  pub held_determined : {r s : Result ℕ Refusal} → HeldGiven S was r → HeldGiven S was s → r ≡ s
  held_determined {r} {s} p q = outcome_one r s (p.answer ∙ sym q.answer)

  pub store_determined : {rec : List ℕ} {k : ℕ} {r s : Result (Unit {0}) Refusal} {is js : List ℕ} → StoreGiven S was rec k r is → StoreGiven S was rec k s js
      → (r ≡ s) × (is ≡ js)
  store_determined {r = r} {s = s} p q = (outcome_one r s (p.answer ∙ sym q.answer), p.memory ∙ sym q.memory)

  pub add_determined : {rec : List ℕ} {r s : Result (Unit {0}) Refusal} {is js : List ℕ} → AddGiven S was rec r is → AddGiven S was rec s js → (r ≡ s) × (is ≡ js)
  add_determined {r = r} {s = s} p q = (outcome_one r s (p.answer ∙ sym q.answer), p.memory ∙ sym q.memory)

  pub turn_determined : {i : ℕ} {part other : List ℕ} → TurnGiven S was i part → TurnGiven S was i other → part ≡ other
  turn_determined p q = p.answer ∙ sym q.answer

  pub start_determined : {i : ℕ} {r s : Result ℕ Refusal} → TurnStartGiven S was i r → TurnStartGiven S was i s → r ≡ s
  start_determined {r = r} {s = s} p q = outcome_one r s (p.answer ∙ sym q.answer)

  pub refusal_determined : {i : ℕ} {r s : Result (Unit {0}) Refusal} → TurnRefusalGiven S was i r → TurnRefusalGiven S was i s → r ≡ s
  refusal_determined {r = r} {s = s} p q = outcome_one r s (p.answer ∙ sym q.answer)

  pub all_read_determined : {r s : Result (Unit {0}) Refusal} → AllReadGiven S was r → AllReadGiven S was s → r ≡ s
  all_read_determined {r} {s} p q = outcome_one r s (p.answer ∙ sym q.answer)

  pub erase_determined : {r s : Result (Unit {0}) Refusal} {is js : List ℕ} → EraseGiven S was r is → EraseGiven S was s js → (r ≡ s) × (is ≡ js)
  erase_determined {r} {s} p q = (outcome_one r s (p.answer ∙ sym q.answer), p.memory ∙ sym q.memory)
