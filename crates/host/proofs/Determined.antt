-- Two answers that a promise allows are equal: `made_determined`, `asks_determined`, `hears_determined`, `turns_determined`, `number_determined`.
use Prim.Native.Nat.{ℕ}
use mathlib.Core.Path.{◌≡◌, refl, sym, ap, ◌∙◌}
use mathlib.Core.List.{List}
use Rattle.std.specs.Prelude.{Result}
use Rattle.paper.specs.declared.refusal.Refusal.{Refusal}
use Rattle.paper.proofs.Refusals.{outcome_one}
use Rattle.wire.specs.declared.request.Request.{Request}
use Rattle.session.specs.declared.Session.{Session}
use Rattle.stream.specs.declared.Reading.{Reading}
use Rattle.stream.proofs.Determined.{reads_determined}
use Rattle.turn.specs.declared.gather.Gatherer.{Gatherer}
use Rattle.host.specs.Host.{reading_of}
use Rattle.host.specs.Promises.{Made, Asks, Hears, Turns, NumberNext}
use Rattle.host.specs.declared.Host.{Host}
use Rattle.host.specs.declared.Asked.{Asked}
use Rattle.host.specs.declared.Heard.{Heard}
use Rattle.host.specs.declared.Turned.{Turned}

pub made_determined : {r s : Host} → Made r → Made s → r ≡ s
made_determined p q = p.answer ∙ sym q.answer

pub asks_determined : {h : Host} {time : ℕ} {q : Request} {payload was is js : List ℕ} {r s : Result Asked Refusal} → Asks h time q payload was r is → Asks h time q payload was s js
    → (r ≡ s) × (is ≡ js)
asks_determined {r = r} {s = s} p q = (outcome_one r s (p.answer ∙ sym q.answer), p.output ∙ sym q.output)

-- a reading, and what was noted beside it
heard_of : Reading → Session → Gatherer → List ℕ → Heard
heard_of r s g serial = record {
  host = record { session = s; reader = r.reader; gatherer = g; serial = serial };
  taken = r.taken;
  words = r.words;
  stop = r.stop;
  reply = r.reply;
}

heard_is : (r : Heard) → heard_of (reading_of r) r.host.session r.host.gatherer r.host.serial ≡ r
unfolding heard_of reading_of
heard_is r = refl

pub hears_determined : {h : Host} {input was is js : List ℕ} {r s : Heard} → Hears h input was r is → Hears h input was s js → (r ≡ s) × (is ≡ js)
hears_determined {r = r} {s = s} p q =
    let d = reads_determined p.reads q.reads in (
      sym (heard_is r)
          ∙ ap (λ (x : Reading). heard_of x r.host.session r.host.gatherer r.host.serial) d.0
          ∙ ap (λ (x : Session). heard_of (reading_of s) x r.host.gatherer r.host.serial) (p.session ∙ sym q.session)
          ∙ ap (λ (x : Gatherer). heard_of (reading_of s) s.host.session x r.host.serial) (p.gatherer ∙ sym q.gatherer)
          ∙ ap (λ (x : List ℕ). heard_of (reading_of s) s.host.session s.host.gatherer x) (p.serial ∙ sym q.serial)
          ∙ heard_is s,
      d.1,
    )

pub turns_determined : {h : Host} {row : List ℕ} {number : ℕ} {f c rec f₁ c₁ rec₁ f₂ c₂ rec₂ : List ℕ} {r s : Result Turned Refusal}
    → Turns h row number f c rec r f₁ c₁ rec₁ → Turns h row number f c rec s f₂ c₂ rec₂ → (r ≡ s) × (f₁ ≡ f₂) × (c₁ ≡ c₂) × (rec₁ ≡ rec₂)
turns_determined {r = r} {s = s} p q =
    let c = p.shown ∙ sym q.shown in
    (outcome_one r s (p.answer ∙ sym q.answer), p.filled ∙ sym q.filled, c, p.ready ∙ sym (rw (sym c) at q.ready))

pub number_determined : {S : ℕ} {mem : List ℕ} {r s : Result ℕ Refusal} → NumberNext S mem r → NumberNext S mem s → r ≡ s
number_determined {r = r} {s = s} p q = outcome_one r s (p.answer ∙ sym q.answer)
