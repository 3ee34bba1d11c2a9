-- Two answers that a promise allows are equal: one theorem for each public function.
use Prim.Native.Nat.{ℕ}
use mathlib.Core.Bool.{Bool}
use mathlib.Core.Path.{◌≡◌, sym, ◌∙◌}
use mathlib.Core.List.{List}
use Rattle.paper.proofs.Refusals.{outcome_one}
use Rattle.paper.specs.Writing.{Writes}
use Rattle.paper.specs.declared.refusal.Refusal.{Refusal}
use Rattle.std.specs.Prelude.{Result}
use Rattle.paper.proofs.Determined.{writes_determined}
use Rattle.wire.specs.declared.request.Request.{Request}
use Rattle.wire.specs.declared.reply.Info.{Info}
use Rattle.wire.specs.declared.sample.Sample.{Sample}
use Rattle.device.specs.Model.{sample_sent}
use Rattle.device.specs.Promises.{FreshCollector, ByteCollected, FreshModel, Asking, InAnother, MotorSet, ErrorSet, HealthSetting}
use Rattle.device.specs.declared.collector.Collector.{Collector}
use Rattle.device.specs.declared.collector.Collected.{Collected}
use Rattle.device.specs.declared.model.State.{State}
use Rattle.device.specs.declared.model.Model.{Model}
use Rattle.device.specs.declared.model.Asked.{Asked}

pub collector_new_determined : {r s : Collector} → FreshCollector r → FreshCollector s → r ≡ s
collector_new_determined p q = p.answer ∙ sym q.answer

pub byte_determined : {s : Collector} {time b : ℕ} {was : List ℕ} {r q : Result Collected Refusal} {is js : List ℕ} → ByteCollected s time b was r is
    → ByteCollected s time b was q js → (r ≡ q) × (is ≡ js)
byte_determined {r = r} {q = q} x y = (outcome_one r q (x.answer ∙ sym y.answer), x.memory ∙ sym y.memory)

pub model_new_determined : {info : Info} {r s : Model} → FreshModel info r → FreshModel info s → r ≡ s
model_new_determined p q = p.answer ∙ sym q.answer

pub request_determined : {m : Model} {request : Request} {was : List ℕ} {r q : Result Asked Refusal} {is js : List ℕ} → Asking m request was r is
    → Asking m request was q js → (r ≡ q) × (is ≡ js)
request_determined {r = r} {q = q} x y = (outcome_one r q (x.answer ∙ sym y.answer), x.output ∙ sym y.output)

pub sample_determined : (m : Model) (x : Sample) {was : List ℕ} {r q : Result ℕ Refusal} {is js : List ℕ} → Writes (sample_sent m x) was r is
    → Writes (sample_sent m x) was q js → (r ≡ q) × (is ≡ js)
sample_determined m x p q = writes_determined p q

pub fault_determined : {m : Model} {s : State} {r q : Model} → InAnother m s r → InAnother m s q → r ≡ q
fault_determined p q = p.answer ∙ sym q.answer

pub motor_determined : {m : Model} {stable : Bool} {r q : Model} → MotorSet m stable r → MotorSet m stable q → r ≡ q
motor_determined p q = p.answer ∙ sym q.answer

pub error_determined : {m : Model} {error : ℕ} {r q : Model} → ErrorSet m error r → ErrorSet m error q → r ≡ q
error_determined p q = p.answer ∙ sym q.answer

-- of `Model::set_status` and `Model::set_health`
pub setting_determined : {m : Model} {status error : ℕ} {r q : Result Model Refusal} → HealthSetting m status error r → HealthSetting m status error q → r ≡ q
setting_determined {r = r} {q = q} x y = outcome_one r q (x.answer ∙ sym y.answer)
