-- What each public function of the crate promises.
use Rattle.std.specs.Prelude.{ℕ, ◌≡◌, Bool, List, length, Result}
use Rattle.paper.specs.Outcome.{mapped, if_given}
use Rattle.paper.specs.Refusals.{outcome}
use Rattle.paper.specs.Writing.{fitting, over}
use Rattle.paper.specs.declared.refusal.Refusal.{Refusal}
use Rattle.wire.specs.Request.{kind_of}
use Rattle.wire.specs.declared.request.Request.{Request}
use Rattle.wire.specs.declared.reply.Info.{Info}
use Rattle.device.specs.Collector.{collecting, collected, memory_after}
use Rattle.device.specs.Model.{fresh, in_state, state_after, sent, setting, with_health}
use Rattle.device.specs.declared.collector.Stage.TheVariants.{Empty}
use Rattle.device.specs.declared.collector.Collector.{Collector}
use Rattle.device.specs.declared.collector.Collected.{Collected}
use Rattle.device.specs.declared.model.State.{State}
use Rattle.device.specs.declared.model.Model.{Model}
use Rattle.device.specs.declared.model.Asked.{Asked}

-- `Collector::new`
pub record FreshCollector (r : Collector) : Type 0 where
  pub answer : r ≡ record { stage = Empty; begun = 0; last = 0 }

-- `Collector::byte`, with the lent memory before and after
pub record ByteCollected (s : Collector) (time b : ℕ) (was : List ℕ) (r : Result Collected Refusal) (is : List ℕ) : Type 0 where
  pub answer : outcome r ≡ mapped (collected time) (collecting s was time b)
  pub memory : is ≡ memory_after s was time b

-- `Model::new`
pub record FreshModel (info : Info) (r : Model) : Type 0 where
  pub answer : r ≡ fresh info

-- `Model::request`: what is sent is written, or refused with the output as it was
pub record Asking (m : Model) (request : Request) (was : List ℕ) (r : Result Asked Refusal) (is : List ℕ) : Type 0 where
  pub answer : outcome r
      ≡ mapped (λ xs. record { model = in_state m (state_after (kind_of request.0) m.state); bytes = length xs })
      (fitting (length was) (sent m (kind_of request.0)))
  pub output : is ≡ if_given (fitting (length was) (sent m (kind_of request.0))) (over was) was

-- `Model::fault`
pub record InAnother (m : Model) (s : State) (r : Model) : Type 0 where
  pub answer : r ≡ in_state m s

-- `Model::set_motor`
pub record MotorSet (m : Model) (stable : Bool) (r : Model) : Type 0 where
  pub answer : r ≡ record { state = m.state; stable = stable; warning = m.warning; error = m.error; info = m.info }

-- `Model::set_error`
pub record ErrorSet (m : Model) (error : ℕ) (r : Model) : Type 0 where
  pub answer : r ≡ record { state = m.state; stable = m.stable; warning = m.warning; error = error; info = m.info }

-- `Model::set_health`, and `Model::set_status` with the error code as it is
pub record HealthSetting (m : Model) (status error : ℕ) (r : Result Model Refusal) : Type 0 where
  pub answer : outcome r ≡ mapped (λ _. with_health m status error) (setting status)
