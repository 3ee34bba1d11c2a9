-- What stands after a call (`byte_after`, `request_after`, `setting_after`): a byte's call is a step of feeding (`call_fed`), and where a call is refused,
-- the state and what is lent are as they were (`byte_refused`, `request_refused`, `setting_refused`).
use Prim.Native.Nat.{ℕ, suc}
use mathlib.Core.Path.{◌≡◌, refl, sym, ap, ◌∙◌}
use mathlib.Core.List.{List, ◌∷◌}
use lib.ListN.{length}
use Rattle.std.specs.Prelude.{Option, Result, Ok, Err}
use Rattle.paper.specs.Outcome.{Outcome, gives, refuses, if_given, mapped}
use Rattle.paper.specs.Refusals.{outcome}
use Rattle.paper.specs.Writing.{fitting}
use Rattle.paper.specs.declared.refusal.Refusal.{Refusal}
use Rattle.paper.proofs.Outcome.{mapped_given, refused_other}
use Rattle.wire.specs.Request.{kind_of}
use Rattle.wire.specs.declared.request.Request.{Request}
use Rattle.device.specs.Collector.{Taken, told, collecting, collected, answer_to, collector_after, memory_after, after}
use Rattle.device.specs.Model.{in_state, state_after, sent, setting, with_health, set_after}
use Rattle.device.specs.Model as model
use Rattle.device.specs.Feeding.{onward, feeding}
use Rattle.device.specs.Promises.{ByteCollected, Asking, HealthSetting}
use Rattle.device.specs.declared.collector.Packet.{Packet}
use Rattle.device.specs.declared.collector.Collector.{Collector}
use Rattle.device.specs.declared.collector.Collected.{Collected}
use Rattle.device.specs.declared.model.Model.{Model}
use Rattle.device.specs.declared.model.Asked.{Asked}

-- the packet of what a byte comes to
abbrev its_packet : Collected → Option Packet
its_packet x = x.packet

packet_told : (time : ℕ) (o : Outcome Taken) → mapped its_packet (mapped (collected time) o) ≡ mapped told o
unfolding mapped collected
packet_told time (gives t) = refl
packet_told time (refuses n) = refl

module _ {s : Collector} {time b : ℕ} {was is : List ℕ} where
  pub byte_answer : {r : Result Collected Refusal} → ByteCollected s time b was r is → mapped its_packet (outcome r) ≡ answer_to s was time b
  unfolding answer_to
  byte_answer p = rw p.answer (packet_told time (collecting s was time b))

  pub byte_after : (r : Result Collected Refusal) → ByteCollected s time b was r is → after s r ≡ collector_after s was time b
  unfolding outcome after collector_after if_given collected
  byte_after (Ok x) p = let g = mapped_given _ _ p.answer in rw g.1.0 (ap (λ (y : Collected). y.collector) g.1.1)
  byte_after (Err q) p = refused_other _ _ _ _ p.answer

  pub byte_refused : {r : Result Collected Refusal} {q : Refusal} → ByteCollected s time b was r is → r ≡ Err q → (after s r ≡ s) × (is ≡ was)
  unfolding outcome after memory_after
  byte_refused p e = (rw e, p.memory ∙ sym (refused_other _ _ _ _ (rw e at p.answer)))

pub call_fed : {s : Collector} {b : ℕ} {was is : List ℕ} {r : Result Collected Refusal} (t : ℕ → ℕ) (bs : List ℕ) → ByteCollected s (t 0) b was r is
    → feeding s was t (b ∷ bs) ≡ onward (mapped its_packet (outcome r)) (feeding (after s r) is (λ k. t (suc k)) bs)
unfolding feeding
call_fed {r = r} t bs p = rw (byte_answer p, byte_after r p, p.memory)

-- the model behind a request and behind a setting: another one, or the very model
pub request_after : {m : Model} {q : Request} {was is : List ℕ} (r : Result Asked Refusal) → Asking m q was r is
    → model.after m r ≡ if_given (fitting (length was) (sent m (kind_of q.0))) (λ _. in_state m (state_after (kind_of q.0) m.state)) m
unfolding outcome model.after if_given
request_after (Ok x) p = let g = mapped_given _ _ p.answer in rw g.1.0 (ap (λ (y : Asked). y.model) g.1.1)
request_after (Err q) p = refused_other _ _ _ _ p.answer

pub setting_after : {m : Model} {status error : ℕ} (r : Result Model Refusal) → HealthSetting m status error r
    → set_after m r ≡ if_given (setting status) (λ _. with_health m status error) m
unfolding outcome set_after if_given
setting_after (Ok x) p = let g = mapped_given _ _ p.answer in rw g.1.0 g.1.1
setting_after (Err q) p = refused_other _ _ _ _ p.answer

pub request_refused : {m : Model} {q : Request} {was is : List ℕ} {r : Result Asked Refusal} {a : Refusal} → Asking m q was r is → r ≡ Err a → (model.after m r ≡ m) × (is ≡ was)
unfolding outcome model.after
request_refused p e = (rw e, p.output ∙ sym (refused_other _ _ _ _ (rw e at p.answer)))

pub setting_refused : {m : Model} {status error : ℕ} {r : Result Model Refusal} {a : Refusal} → HealthSetting m status error r → r ≡ Err a → set_after m r ≡ m
unfolding set_after
setting_refused p e = rw e
