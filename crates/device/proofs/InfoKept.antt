-- No call changes the info: after any of them it is the one given at the start (`info_kept`), and GET_INFO is answered with it (`info_answered`).
use Prim.Native.Nat.{ℕ}
use mathlib.Core.Path.{◌≡◌, refl, ap, ◌∙◌}
use mathlib.Core.List.{List}
use lib.ListN.{length, take, drop}
use Rattle.std.specs.Prelude.{Result, Ok, Err}
use Rattle.paper.specs.Outcome.{gives}
use Rattle.paper.specs.Refusals.{outcome}
use Rattle.paper.specs.declared.refusal.Refusal.{Refusal}
use Rattle.paper.proofs.Outcome.{mapped_given}
use Rattle.wire.specs.Request.{kind_of}
use Rattle.wire.specs.Descriptor.{info_descriptor}
use Rattle.wire.specs.Reply.{info_of}
use Rattle.wire.specs.declared.request.Request.{Request}
use Rattle.wire.specs.declared.request.Kind.TheVariants.{GetInfo}
use Rattle.wire.specs.declared.reply.Info.{Info}
use Rattle.device.specs.Model.{fresh, in_state, setting, with_health, after, set_after}
use Rattle.device.specs.Promises.{Asking, HealthSetting}
use Rattle.device.specs.History.{Led, begun, asked, faulted, motor_set, error_set, health_set}
use Rattle.device.specs.declared.model.Model.{Model}
use Rattle.device.specs.declared.model.Asked.{Asked}
use Rattle.device.proofs.ReadBack.{info_read}

abbrev its_info : Model → Info
its_info m = m.info

-- answered or refused, the info is that of the model before
asked_info : {m : Model} {q : Request} {was is : List ℕ} (r : Result Asked Refusal) → Asking m q was r is → (after m r).info ≡ m.info
unfolding outcome after in_state
asked_info (Ok x) p = let g = mapped_given _ _ p.answer in ap (λ (y : Asked). y.model.info) g.1.1
asked_info (Err a) p = refl

set_info : {m : Model} {status error : ℕ} (r : Result Model Refusal) → HealthSetting m status error r → (set_after m r).info ≡ m.info
unfolding outcome set_after with_health
set_info {status = status} (Ok n) p = let g = mapped_given _ (setting status) p.answer in ap its_info g.1.1
set_info (Err a) p = refl

pub info_kept : {info : Info} {m : Model} → Led info m → m.info ≡ info
unfolding fresh in_state
info_kept (begun p) = ap its_info p.answer
info_kept (asked {r = r} l p) = asked_info r p ∙ info_kept l
info_kept (faulted l p) = ap its_info p.answer ∙ info_kept l
info_kept (motor_set l p) = ap its_info p.answer ∙ info_kept l
info_kept (error_set l p) = ap its_info p.answer ∙ info_kept l
info_kept (health_set {r = r} l p) = set_info r p ∙ info_kept l

-- the reply behind the descriptor reads to the info given at the start
pub info_answered : (info : Info) (m : Model) (request : Request) (was is : List ℕ) (r : Result Asked Refusal) (x : Asked) → Led info m → r ≡ Ok x
    → Asking m request was r is → kind_of request.0 ≡ GetInfo → length info.serial ≡ 16
    → (take 7 (take x.bytes is) ≡ info_descriptor) × (info_of (drop 7 (take x.bytes is)) ≡ gives info)
info_answered info m request was is r x l done p k s =
    let same = info_kept l in
    let long : length m.info.serial ≡ 16 = ap (λ (i : Info). length i.serial) same ∙ s in
    let read = info_read m request was is r x done p k long in
    (read.0, read.1 ∙ ap gives same)
