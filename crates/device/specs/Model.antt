-- The bench model of the scanner: what it does on a request, and what it sends.
use Rattle.std.specs.Prelude.{ℕ, Bool, true, false, cond, not, List, [], ◌++◌, ltb, eqb, Result, Ok, Err}
use Rattle.paper.specs.Outcome.{Outcome, gives, refuses, refuse_if, mapped}
use Rattle.paper.specs.Refusals.{number_of}
use Rattle.paper.specs.declared.refusal.Refusal.{Refusal}
use Rattle.paper.specs.declared.refusal.Refusal.TheVariants.{CodeNotPermitted, NotAReply, NoSampleSent}
use Rattle.wire.specs.Descriptor.{scan_descriptor, info_descriptor, health_descriptor}
use Rattle.wire.specs.Reply.{error_status, bytes_of_info, bytes_of_health}
use Rattle.wire.specs.Sample.{bytes_of_sample}
use Rattle.wire.specs.declared.request.Kind.{Kind}
use Rattle.wire.specs.declared.request.Kind.TheVariants.{Stop, Reset, Scan, ForceScan, GetInfo, GetHealth, Other}
use Rattle.wire.specs.declared.reply.Info.{Info}
use Rattle.wire.specs.declared.reply.Health.{Health}
use Rattle.wire.specs.declared.sample.Sample.{Sample}
use Rattle.device.specs.declared.model.State.{State}
use Rattle.device.specs.declared.model.State.TheVariants.{Idle, Scanning, ForceScanning, ProtectionStop}
use Rattle.device.specs.declared.model.Model.{Model}
use Rattle.device.specs.declared.model.Asked.{Asked}

-- fresh: idle, motor not stable, status and error code 0, with the info that the bench gives
unfoldable pub fresh : Info → Model
fresh info = record { state = Idle; stable = false; warning = false; error = 0; info = info }

-- the model in another state, with all that the bench gave and set
unfoldable pub in_state : Model → State → Model
in_state m s = record { state = s; stable = m.stable; warning = m.warning; error = m.error; info = m.info }

-- one thing in protection stop, and another in every other state
unfoldable pub protected : {A : Type 0} → State → A → A → A
protected ProtectionStop a b = a
protected Idle a b = b
protected Scanning a b = b
protected ForceScanning a b = b

-- RESET: idle from any. SCAN and FORCE_SCAN: idle or scanning become scanning. STOP, GET_INFO and GET_HEALTH: scanning becomes idle, others stay.
unfoldable pub state_after : Kind → State → State
state_after Reset s = Idle
state_after Scan s = protected s ProtectionStop Scanning
state_after ForceScan s = protected s ProtectionStop ForceScanning
state_after Stop s = protected s ProtectionStop Idle
state_after GetInfo s = protected s ProtectionStop Idle
state_after GetHealth s = protected s ProtectionStop Idle
state_after Other s = s

-- in protection stop the status is 2, otherwise 0 or 1 as the bench set it; the error code is the one last set
unfoldable pub health_now : Model → Health
health_now m = record { status = protected m.state error_status (cond m.warning 1 0); error = m.error }

-- a descriptor and then its reply
unfoldable pub behind_descriptor : List ℕ → Outcome (List ℕ) → Outcome (List ℕ)
behind_descriptor d reply = mapped (λ xs. d ++ xs) reply

-- SCAN and FORCE_SCAN: a descriptor; in protection stop nothing is sent. GET_INFO and GET_HEALTH: descriptor and reply. Any other code is refused.
unfoldable pub sent : Model → Kind → Outcome (List ℕ)
sent m Stop = gives []
sent m Reset = gives []
sent m Scan = gives (protected m.state [] scan_descriptor)
sent m ForceScan = gives (protected m.state [] scan_descriptor)
sent m GetInfo = behind_descriptor info_descriptor (bytes_of_info m.info)
sent m GetHealth = behind_descriptor health_descriptor (bytes_of_health (health_now m))
sent m Other = refuses (number_of CodeNotPermitted)

-- samples are sent after FORCE_SCAN always, after SCAN only while the motor is stable
unfoldable pub sends_samples : State → Bool → Bool
sends_samples ForceScanning stable = true
sends_samples Scanning stable = stable
sends_samples Idle stable = false
sends_samples ProtectionStop stable = false

-- a sample asked of the model
unfoldable pub sample_sent : Model → Sample → Outcome (List ℕ)
sample_sent m x = refuse_if (not (sends_samples m.state m.stable)) (number_of NoSampleSent) (bytes_of_sample x)

-- a setting of 2 or more is refused
unfoldable pub setting : ℕ → Outcome (Unit {0})
setting status = refuse_if (ltb 1 status) (number_of NotAReply) (gives tt)

-- the model with the status, 0 or 1, and the error code that the bench set
unfoldable pub with_health : Model → ℕ → ℕ → Model
with_health m status error = record { state = m.state; stable = m.stable; warning = eqb status 1; error = error; info = m.info }

-- the model behind a request and behind a setting: the answer's, and the very one where it is refused
unfoldable pub after : Model → Result Asked Refusal → Model
after m (Ok r) = r.model
after m (Err q) = m

unfoldable pub set_after : Model → Result Model Refusal → Model
set_after m (Ok r) = r
set_after m (Err q) = m
