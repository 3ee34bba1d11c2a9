-- What C is handed is read back as what the library answered: so states handed from call to call in C are the library's. One law for each state.
use mathlib.Core.Path.{◌≡◌, refl, ap, ap₂, ◌∙◌}
use mathlib.Core.Bool.{Bool, true, false}
use Rattle.wire.specs.declared.sample.Sample.{Sample}
use Rattle.wire.specs.declared.reply.Info.{Info}
use Rattle.session.specs.declared.Awaited.{Awaited}
use Rattle.session.specs.declared.Awaited.TheVariants.{Nothing, Reply}
use Rattle.session.specs.declared.Session.{Session}
use Rattle.device.specs.declared.collector.Stage.{Stage}
use Rattle.device.specs.declared.collector.Stage.TheVariants.{Empty, Started, Coded, Sized}
use Rattle.device.specs.declared.collector.Collector.{Collector}
use Rattle.device.specs.declared.model.State.{State}
use Rattle.device.specs.declared.model.State.TheVariants as state
use Rattle.device.specs.declared.model.Model.{Model}
use Rattle.stream.specs.declared.Phase.{Phase}
use Rattle.stream.specs.declared.Phase.TheVariants as phase
use Rattle.stream.specs.declared.Reader.{Reader}
use Rattle.turn.specs.declared.gather.Gatherer.{Gatherer}
use Rattle.host.specs.declared.Host.{Host}
use Rattle.bernkessel.specs.Answers.{flag_in, flag_out}
use Rattle.bernkessel.specs.Sample.{sample_in, sample_out}
use Rattle.bernkessel.specs.Reply.{info_in, info_out}
use Rattle.bernkessel.specs.Session.{awaited_in, awaited_out, session_in, session_out}
use Rattle.bernkessel.specs.Collector.{stage_in, stage_out, collector_in, collector_out}
use Rattle.bernkessel.specs.Model.{state_in, state_out, model_in, model_out}
use Rattle.bernkessel.specs.Reader.{phase_in, phase_out, reader_in, reader_out}
use Rattle.bernkessel.specs.Turn.{gatherer_in, gatherer_out}
use Rattle.bernkessel.specs.Host.{host_in, host_out}

pub flag_back : (t : Bool) → flag_in (flag_out t) ≡ t
unfolding flag_in flag_out
flag_back true = refl
flag_back false = refl

pub sample_back : (m : Sample) → sample_in (sample_out m) ≡ m
unfolding sample_in sample_out
sample_back m = ap (λ (t : Bool). record { start = t; quality = m.quality; angle = m.angle; distance = m.distance }) (flag_back m.start)

pub info_back : (i : Info) → info_in (info_out i) ≡ i
unfolding info_in info_out
info_back i = refl

awaited_back : (a : Awaited) → awaited_in (awaited_out a) ≡ a
unfolding awaited_in awaited_out
awaited_back Nothing = refl
awaited_back Reply = refl

pub session_back : (s : Session) → session_in (session_out s) ≡ s
unfolding session_in session_out
session_back s = ap (λ (a : Awaited). record { last = s.last; wait = s.wait; awaited = a }) (awaited_back s.awaited)

stage_back : (s : Stage) → stage_in (stage_out s) ≡ s
unfolding stage_in stage_out
stage_back Empty = refl
stage_back Started = refl
stage_back (Coded code) = refl
stage_back (Sized code size count sum) = refl

pub collector_back : (s : Collector) → collector_in (collector_out s) ≡ s
unfolding collector_in collector_out
collector_back s = ap (λ (x : Stage). record { stage = x; begun = s.begun; last = s.last }) (stage_back s.stage)

state_back : (s : State) → state_in (state_out s) ≡ s
unfolding state_in state_out
state_back state.Idle = refl
state_back state.Scanning = refl
state_back state.ForceScanning = refl
state_back state.ProtectionStop = refl

pub model_back : (m : Model) → model_in (model_out m) ≡ m
unfolding model_in model_out info_in info_out
model_back m =
    ap (λ (s : State). record { state = s; stable = flag_in (flag_out m.stable); warning = flag_in (flag_out m.warning); error = m.error; info = m.info }) (state_back m.state)
    ∙ ap₂ (λ (a b : Bool). record { state = m.state; stable = a; warning = b; error = m.error; info = m.info }) (flag_back m.stable) (flag_back m.warning)

phase_back : (p : Phase) → phase_in (phase_out p) ≡ p
unfolding phase_in phase_out
phase_back phase.Idle = refl
phase_back phase.SeekInfo = refl
phase_back phase.SeekHealth = refl
phase_back phase.SeekScan = refl
phase_back phase.InfoReply = refl
phase_back phase.HealthReply = refl
phase_back phase.Scanning = refl

pub reader_back : (r : Reader) → reader_in (reader_out r) ≡ r
unfolding reader_in reader_out
reader_back r = ap (λ (p : Phase). record { phase = p; n = r.n; held = r.held; skipped = r.skipped }) (phase_back r.phase)

pub gatherer_back : (s : Gatherer) → gatherer_in (gatherer_out s) ≡ s
unfolding gatherer_in gatherer_out
gatherer_back s = refl

pub host_back : (h : Host) → host_in (host_out h) ≡ h
unfolding host_in host_out gatherer_in gatherer_out
host_back h = ap₂ (λ (s : Session) (r : Reader). record { session = s; reader = r; gatherer = h.gatherer; serial = h.serial }) (session_back h.session) (reader_back h.reader)
