-- The C form of the scanner's model and of what it answers.
use Rattle.std.specs.Prelude.{ℕ, cond, eqb, Result, Ok, Err}
use Rattle.paper.specs.Refusals.{number_of}
use Rattle.paper.specs.declared.refusal.Refusal.{Refusal}
use Rattle.device.specs.declared.model.State.{State}
use Rattle.device.specs.declared.model.State.TheVariants.{Idle, Scanning, ForceScanning, ProtectionStop}
use Rattle.device.specs.declared.model.Model.{Model}
use Rattle.device.specs.declared.model.Asked.{Asked}
use Rattle.bernkessel.specs.Answers.{flag_in, flag_out}
use Rattle.bernkessel.specs.Reply.{info_in, info_out}
use Rattle.bernkessel.specs.declared.model.BkModel.{BkModel}
use Rattle.bernkessel.specs.declared.model.BkAsked.{BkAsked}
use Rattle.bernkessel.specs.declared.model.BkHealthSet.{BkHealthSet}

-- the bytes of the states
unfoldable pub state_out : State → ℕ
state_out Idle = 0
state_out Scanning = 1
state_out ForceScanning = 2
state_out ProtectionStop = 3

-- and back; any other byte is idle
unfoldable pub state_in : ℕ → State
state_in b =
    cond (eqb b (state_out Scanning)) Scanning
    (cond (eqb b (state_out ForceScanning)) ForceScanning
    (cond (eqb b (state_out ProtectionStop)) ProtectionStop
    Idle))

unfoldable pub model_in : BkModel → Model
model_in c = record { state = state_in c.state; stable = flag_in c.stable; warning = flag_in c.warning; error = c.error; info = info_in c.info }

unfoldable pub model_out : Model → BkModel
model_out m = record { info = info_out m.info; error = m.error; state = state_out m.state; stable = flag_out m.stable; warning = flag_out m.warning }

-- a refusal gives back the very model
unfoldable pub asked_out : BkModel → Result Asked Refusal → BkAsked
asked_out was (Ok r) = record { model = model_out r.model; written = record { bytes = r.bytes; refusal = 0 } }
asked_out was (Err q) = record { model = was; written = record { bytes = 0; refusal = number_of q } }

unfoldable pub health_set_out : BkModel → Result Model Refusal → BkHealthSet
health_set_out was (Ok m) = record { model = model_out m; refusal = 0 }
health_set_out was (Err q) = record { model = was; refusal = number_of q }
