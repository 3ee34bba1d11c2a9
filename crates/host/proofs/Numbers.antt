-- The number of the next turn, by what the ring and its newest turn answer: `number_refused`, `number_first`, `number_behind_lem`, `number_unread`, `number_next`.
use Prim.Native.Nat.{ℕ, zero, suc, ◌+◌, ◌-◌, ◌%◌, ◌<◌, ◌≤◌}
use mathlib.Core.Path.{◌≡◌, refl, sym, ap, ◌∙◌}
use mathlib.Core.Bool.{Bool, true, false, not, cond}
use mathlib.Core.List.{List, []}
use native.Mathlib.Omega.{arith}
use lib.Dec.{eqb}
use borrow.Author.Tests.{eqb-true, eqb-false}
use Rattle.paper.specs.Outcome.{Outcome, gives, refuses, mapped}
use Rattle.std.specs.Prelude.{Result, Ok, Err}
use Rattle.paper.specs.Refusals.{number_of, outcome}
use Rattle.paper.specs.declared.refusal.Refusal.{Refusal}
use Rattle.paper.specs.declared.refusal.Refusal.TheVariants.{NotARecord}
use Rattle.paper.proofs.Outcome.{gives_one, gives_refuses, refuse_yes, refused_as, given_as}
use Rattle.record.specs.Record.{Turn, reads, turn_of}
use Rattle.record.specs.Promises.{NumberGiven}
use Rattle.record.proofs.Reading.{reads_long}
use Rattle.ring.specs.Ring.{head_of, held, turn_at}
use Rattle.ring.specs.Answers.{counting}
use Rattle.ring.specs.inner.Checks.{asking}
use Rattle.ring.specs.Promises.{HeldGiven, TurnGiven}
use Rattle.ring.proofs.Answered.{given_yes, given_no, ring_ok, ring_means, ring_same, asking_ok, reading_ok, reading_record}
use Rattle.host.specs.Number.{following, number_behind, next_number}
use Rattle.host.specs.Promises.{NumberNext}

mapped_twice : {A B C : Type 0} (f : A → B) (g : B → C) (o : Outcome A) → mapped g (mapped f o) ≡ mapped (λ a. g (f a)) o
unfolding mapped
mapped_twice f g (gives a) = refl
mapped_twice f g (refuses n) = refl

-- ---- one number behind another

pub following_is : (n : ℕ) → n < 4294967296 → (n + 1) % 4294967296 ≡ following n
unfolding following
following_is n h = go (eqb n 4294967295) refl
  where
    go : (t : Bool) → eqb n 4294967295 ≡ t → (n + 1) % 4294967296 ≡ cond t 0 (n + 1)
    go true e = let k : n ≡ 4294967295 = eqb-true n 4294967295 e in omega arith
    go false e = let k : n ≡ 4294967295 → ⊥ = eqb-false n 4294967295 e in omega arith

-- ---- the next number

module _ (S : ℕ) (mem : List ℕ) where
  -- no ring
  pub number_refused : {q : Refusal} → HeldGiven S mem (Err q) → NumberNext S mem (Err q)
  unfolding outcome counting next_number
  number_refused p = record { answer = sym (ring_same S mem (λ z. absurd (gives_refuses z)) (sym p.answer)) }

  -- a ring of so many turns
  behind_is : (n : ℕ) → HeldGiven S mem (Ok n) → next_number S mem ≡ number_behind S mem n
  unfolding outcome counting next_number
  behind_is n p =
      let w = ring_means S mem (gives (held S (head_of mem))) (sym p.answer) in
      ring_ok S mem _ w.0 w.1 ∙ ap (number_behind S mem) (gives_one w.2)

  pub number_first : (n : ℕ) → HeldGiven S mem (Ok n) → n ≡ 0 → NumberNext S mem (Ok 1)
  unfolding outcome number_behind
  number_first n p e = record { answer = sym (behind_is n p ∙ ap (number_behind S mem) e) }

  not_there : (rec : List ℕ) → reads rec ≡ false → turn_of rec ≡ refuses (number_of NotARecord)
  unfolding turn_of
  not_there rec r = refuse_yes _ _ (ap not r)

  -- the part that is handed out reads as the newest turn does
  newest_same : (n : ℕ) (part : List ℕ) → HeldGiven S mem (Ok (suc n)) → TurnGiven S mem n part → turn_of part ≡ turn_of (turn_at S mem n)
  unfolding outcome counting
  newest_same n part p q =
      let w = ring_means S mem (gives (held S (head_of mem))) (sym p.answer) in
      let asked = asking_ok S mem n (ring_ok S mem (gives tt) w.0 w.1) (omega (arith, gives_one w.2)) in
      go asked (reads (turn_at S mem n)) refl
    where
      go : asking S mem n ≡ gives tt → (t : Bool) → reads (turn_at S mem n) ≡ t → turn_of part ≡ turn_of (turn_at S mem n)
      go a true r = ap turn_of (q.answer ∙ given_yes (λ t. t) [] (reading_ok S mem n a r))
      go a false r =
          let none : part ≡ [] = q.answer ∙ given_no (λ t. t) [] (reading_record S mem n a r) in
          ap turn_of none ∙ not_there [] (sym (reads_long [] (λ e. omega arith))) ∙ sym (not_there (turn_at S mem n) r)

  -- what the newest turn's number is answered, and what is answered of the one behind it
  behind_newest : (n : ℕ) (part : List ℕ) → 1 ≤ n → HeldGiven S mem (Ok n) → TurnGiven S mem (n - 1) part
      → next_number S mem ≡ mapped (λ (t : Turn). following t.number) (turn_of part)
  unfolding number_behind
  behind_newest zero part l p q = absurd (omega arith)
  behind_newest (suc n) part l p q =
      let k : suc n - 1 ≡ n = omega arith in
      behind_is (suc n) p ∙ sym (ap (mapped (λ (t : Turn). following t.number)) (newest_same n part p (rw k at q)))

  -- by what the newest turn's number is answered, and one behind that
  pub number_behind_lem : (n : ℕ) (part : List ℕ) {newest r : Result ℕ Refusal} → HeldGiven S mem (Ok n) → (n ≡ 0 → ⊥) → TurnGiven S mem (n - 1) part
      → NumberGiven part newest → outcome r ≡ mapped following (outcome newest) → NumberNext S mem r
  number_behind_lem n part p l t g e = record {
    answer = e ∙ ap (mapped following) g.answer ∙ mapped_twice (λ (t : Turn). t.number) following (turn_of part) ∙ sym (behind_newest n part (some n l) p t);
  }
    where
      some : (n : ℕ) → (n ≡ 0 → ⊥) → 1 ≤ n
      some zero l = absurd (l refl)
      some (suc n) l = omega arith

  pub number_unread : (n : ℕ) (part : List ℕ) {q : Refusal} → 1 ≤ n → HeldGiven S mem (Ok n) → TurnGiven S mem (n - 1) part → NumberGiven part (Err q) → NumberNext S mem (Err q)
  unfolding outcome
  number_unread n part l p t g = record { answer = refused_as _ _ _ g.answer ∙ sym (behind_newest n part l p t) }

  pub number_next : (n : ℕ) (part : List ℕ) {newest : ℕ} → 1 ≤ n → newest < 4294967296 → HeldGiven S mem (Ok n) → TurnGiven S mem (n - 1) part → NumberGiven part (Ok newest)
      → NumberNext S mem (Ok ((newest + 1) % 4294967296))
  unfolding outcome
  number_next n part {newest} l h p t g = record {
    answer = ap gives (following_is newest h) ∙ given_as _ _ following _ (λ a. refl) g.answer ∙ sym (behind_newest n part l p t);
  }
