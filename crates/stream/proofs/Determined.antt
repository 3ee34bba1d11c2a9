-- Two answers that a promise allows are equal: `made_determined`, `reads_determined`, `tells_determined`.
use mathlib.Core.Path.{◌≡◌, refl, sym, ap, ◌∙◌}
use mathlib.Core.List.{List, [], ◌∷◌}
use Prim.Native.Nat.{ℕ}
use lib.ListN.{get_or}
use Rattle.std.specs.Prelude.{Result}
use Rattle.paper.specs.declared.refusal.Refusal.{Refusal}
use Rattle.paper.proofs.Refusals.{outcome_one}
use Rattle.wire.specs.declared.request.Request.{Request}
use Rattle.stream.specs.declared.Stop.{Stop}
use Rattle.stream.specs.declared.Stop.TheVariants.{AllTaken, NoRoom, Descriptor, Reply, BadHealth}
use Rattle.stream.specs.declared.Reader.{Reader}
use Rattle.stream.specs.declared.Reading.{Reading}
use Rattle.stream.specs.Stops.{stop_number}
use Rattle.stream.specs.Promises.{Made, Reads, Tells}

-- the stop of a number
stop_at : ℕ → Stop
stop_at n = get_or (AllTaken ∷ NoRoom ∷ Descriptor ∷ Reply ∷ BadHealth ∷ []) n AllTaken

stop_back : (s : Stop) → stop_at (stop_number s) ≡ s
unfolding stop_number stop_at
stop_back AllTaken = refl
stop_back NoRoom = refl
stop_back Descriptor = refl
stop_back Reply = refl
stop_back BadHealth = refl

-- two stops with one number are the same
pub stop_one : (s t : Stop) → stop_number s ≡ stop_number t → s ≡ t
stop_one s t e = sym (stop_back s) ∙ ap stop_at e ∙ stop_back t

pub made_determined : {r s : Reader} → Made r → Made s → r ≡ s
made_determined p q = p.answer ∙ sym q.answer

same_reading : (r s : Reading) → r.reader ≡ s.reader → r.taken ≡ s.taken → r.words ≡ s.words → r.stop ≡ s.stop → r.reply ≡ s.reply → r ≡ s
same_reading r s a b c d e =
    ap (λ (x : Reader). record { reader = x; taken = r.taken; words = r.words; stop = r.stop; reply = r.reply }) a
    ∙ ap (λ (x : ℕ). record { reader = s.reader; taken = x; words = r.words; stop = r.stop; reply = r.reply }) b
    ∙ ap (λ (x : ℕ). record { reader = s.reader; taken = s.taken; words = x; stop = r.stop; reply = r.reply }) c
    ∙ ap (λ (x : Stop). record { reader = s.reader; taken = s.taken; words = s.words; stop = x; reply = r.reply }) d
    ∙ ap (λ (x : List ℕ). record { reader = s.reader; taken = s.taken; words = s.words; stop = s.stop; reply = x }) e

pub reads_determined : {self : Reader} {input was is js : List ℕ} {r s : Reading} → Reads self input was r is → Reads self input was s js → (r ≡ s) × (is ≡ js)
reads_determined {r = r} {s = s} p q = (
  same_reading r s (p.reader ∙ sym q.reader) (p.taken ∙ sym q.taken) (p.words ∙ sym q.words)
      (stop_one r.stop s.stop (p.stop ∙ sym q.stop)) (p.reply ∙ sym q.reply),
  p.row ∙ sym q.row,
)

pub tells_determined : {self : Reader} {q : Request} {r s : Result Reader Refusal} → Tells self q r → Tells self q s → r ≡ s
tells_determined {r = r} {s = s} p q = outcome_one r s (p.answer ∙ sym q.answer)
