-- What C's fields mean: the bytes at the offset and of the length that are told are the turn (`turn_there`), and a turn that closed has one sample
-- at least, so that 0 says that none did (`closed_some`, `row_closed_some`).
use Rattle.std.proofs.Common.{◌≡◌, ℕ, ◌+◌, ◌≤◌, Bool, true, false, List, [], ◌∷◌, length, take, drop, Option, Some, Ok, refl, sym, ap, ◌∙◌, arith}
use Rattle.std.specs.Result.{result_unwrap_or}
use borrow.Author.Tests.{leb-true}
use lib.Dec.{leb}
use Rattle.paper.proofs.Cases.{both_hold, none_some}
use Rattle.paper.specs.Outcome.{Outcome, gives, refuses, mapped}
use Rattle.paper.specs.Refusals.{outcome}
use Rattle.paper.proofs.Outcome.{mapped_given}
use Rattle.paper.proofs.Refusals.{outcome_one}
use Rattle.record.proofs.Reading.{reads_length}
use Rattle.ring.specs.Ring.{slots, head_of, slot_of, slot_start, turn_at}
use Rattle.ring.specs.Answers.{reading}
use Rattle.ring.specs.Promises.{TurnGiven}
use Rattle.ring.proofs.Answered.{given_yes, given_no, reading_means}
use Rattle.wire.specs.declared.sample.Sample.{Sample}
use Rattle.turn.specs.Gather.{Held, End, next, closes, taken, told_by, row_told_by}
use Rattle.turn.specs.Promises.{gathering, Gathers}
use Rattle.turn.proofs.Gathering.{taken_closed, taken_more}
use Rattle.turn.specs.declared.gather.Gatherer.{Gatherer}
use Rattle.turn.specs.declared.gather.Gathered.{Gathered}
use Rattle.turn.specs.declared.gather.RowGathered.{RowGathered}
use Rattle.bernkessel.specs.Promises.{RingTurn}
use Rattle.bernkessel.specs.declared.rings.BkPart.{BkPart}

module _ {mem : List ℕ} {i : ℕ} {r : BkPart} (p : RingTurn mem i r) where
  there : {t : List ℕ} → reading slots mem i ≡ gives t → take r.length (drop r.offset mem) ≡ t
  unfolding turn_at outcome mapped
  there {t} e =
      let m = reading_means slots mem i (omega arith) (omega arith) e in
      let part : p.size.answer ≡ t = p.size.kept.answer ∙ given_yes (λ x. x) [] e in
      let size : length t ≡ 754 = ap length m.3 ∙ reads_length (turn_at slots mem i) m.2 in
      let whole : r.length ≡ 754 = p.size.handed ∙ ap length part ∙ size in
      let at = slot_start (slot_of slots (head_of mem) i) in
      let place : p.offset.answer ≡ Ok at = outcome_one p.offset.answer (Ok at) (p.offset.kept.answer ∙ ap (mapped (λ _. at)) e) in
      let start : r.offset ≡ at = p.offset.handed ∙ ap (λ a. result_unwrap_or a 0) place in
      ap (λ n. take n (drop r.offset mem)) whole ∙ ap (λ n. take 754 (drop n mem)) start ∙ sym m.3

  nowhere : {n : ℕ} → reading slots mem i ≡ refuses n → take r.length (drop r.offset mem) ≡ []
  nowhere e =
      let part : p.size.answer ≡ [] = p.size.kept.answer ∙ given_no (λ x. x) [] e in
      let size : r.length ≡ 0 = p.size.handed ∙ ap length part in
      ap (λ n. take n (drop r.offset mem)) size

  told : (o : Outcome (List ℕ)) → reading slots mem i ≡ o → TurnGiven slots mem i (take r.length (drop r.offset mem))
  told (gives t) e = record { answer = there e ∙ sym (given_yes (λ x. x) [] e) }
  told (refuses n) e = record { answer = nowhere e ∙ sym (given_no (λ x. x) [] e) }

  pub turn_there : TurnGiven slots mem i (take r.length (drop r.offset mem))
  turn_there = told (reading slots mem i) refl

-- ---- a turn that closed

closing : (n : ℕ) (m : Sample) → closes n m ≡ true → 1 ≤ n
unfolding closes
closing n m e = leb-true 1 n (both_hold m.start (leb 1 n) e).1

some_one : {m n : ℕ} → ◌≡◌ {A = Option ℕ} (Some m) (Some n) → m ≡ n
some_one e = cc

step : (h : Held) (m : Sample) (ms : List Sample) (k : ℕ) {n : ℕ} → ((taken (next h m) (k + 3) ms).turn ≡ Some n → 1 ≤ n) → (b : Bool) → closes h.count m ≡ b
    → (taken h k (m ∷ ms)).turn ≡ Some n → 1 ≤ n
step h m ms k more true c e =
    let is = some_one (sym (ap (λ (x : End). x.turn) (taken_closed h m ms k c)) ∙ e) in
    rw (sym is) (closing h.count m c)
step h m ms k more false c e = more (sym (ap (λ (x : End). x.turn) (taken_more h m ms k c)) ∙ e)

turn_some : (h : Held) (k : ℕ) (ms : List Sample) {n : ℕ} → (taken h k ms).turn ≡ Some n → 1 ≤ n
unfolding taken
turn_some h k [] e = absurd (none_some e)
turn_some h k (m ∷ ms) e = step h m ms k (turn_some (next h m) (k + 3) ms) (closes h.count m) refl e

module _ {o : Outcome (List Sample)} {s : Gatherer} {f c f' c' : List ℕ} {n : ℕ} where
  -- by one sample, and by a row
  pub closed_some : {r : Gathered} → Gathers told_by o s f c (Ok r) f' c' → r.turn ≡ Some n → 1 ≤ n
  unfolding outcome told_by gathering
  closed_some p e =
      let (ms, (_, is)) = mapped_given (λ (ms : List Sample). told_by (gathering s f c ms)) o p.answer in
      turn_some _ 0 ms (sym (ap (λ (x : Gathered). x.turn) is) ∙ e)

  pub row_closed_some : {r : RowGathered} → Gathers row_told_by o s f c (Ok r) f' c' → r.gathered.turn ≡ Some n → 1 ≤ n
  unfolding outcome row_told_by told_by gathering
  row_closed_some p e =
      let (ms, (_, is)) = mapped_given (λ (ms : List Sample). row_told_by (gathering s f c ms)) o p.answer in
      turn_some _ 0 ms (sym (ap (λ (x : RowGathered). x.gathered.turn) is) ∙ e)
