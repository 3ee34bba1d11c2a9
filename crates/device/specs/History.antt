-- Histories of a model: made by the bench with an info, and then asked and set in any order.
use Rattle.std.specs.Prelude.{ℕ, Bool, List, Result}
use Rattle.paper.specs.declared.refusal.Refusal.{Refusal}
use Rattle.wire.specs.declared.request.Request.{Request}
use Rattle.wire.specs.declared.reply.Info.{Info}
use Rattle.device.specs.Model.{after, set_after}
use Rattle.device.specs.Promises.{FreshModel, Asking, InAnother, MotorSet, ErrorSet, HealthSetting}
use Rattle.device.specs.declared.model.State.{State}
use Rattle.device.specs.declared.model.Model.{Model}
use Rattle.device.specs.declared.model.Asked.{Asked}

-- The calls that led from the start to a model, each as its promise says.
pub data Led (info : Info) : Model → Type 0 where
  begun : {m : Model} → FreshModel info m → Led info m
  asked : {m : Model} {q : Request} {was is : List ℕ} {r : Result Asked Refusal} → Led info m → Asking m q was r is → Led info (after m r)
  faulted : {m r : Model} {s : State} → Led info m → InAnother m s r → Led info r
  motor_set : {m r : Model} {stable : Bool} → Led info m → MotorSet m stable r → Led info r
  error_set : {m r : Model} {error : ℕ} → Led info m → ErrorSet m error r → Led info r
  health_set : {m : Model} {status error : ℕ} {r : Result Model Refusal} → Led info m → HealthSetting m status error r → Led info (set_after m r)
