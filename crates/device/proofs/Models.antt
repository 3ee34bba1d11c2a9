-- How a reply behind its descriptor is sent: `reply_sent`, `reply_refused`; how long each reply is: `info_whole`, `health_whole`; that the model's own
-- health can always be written: `health_sent`; and which setting is refused: `setting_over`, `setting_fit`.
use Prim.Native.Nat.{ℕ, ◌<◌, ◌≤◌}
use mathlib.Core.Path.{◌≡◌, refl, sym, ap, ◌∙◌}
use mathlib.Core.Bool.{Bool, true, false, cond}
use mathlib.Core.List.{List, ◌∷◌, ◌++◌, append-nil}
use native.Mathlib.Omega.{arith}
use lib.ListN.{length, drop_of_length-le}
use borrow.Author.Tests.{lt-ltb, le-ltb}
use Rattle.std.specs.Prelude.{Result, Ok, Err}
use Rattle.paper.specs.Outcome.{Outcome, gives, refuses, if_given, mapped}
use Rattle.paper.specs.Refusals.{number_of, outcome}
use Rattle.paper.specs.Words.{bytes_of}
use Rattle.paper.specs.Writing.{Writes, fitting, over}
use Rattle.paper.specs.declared.refusal.Refusal.{Refusal}
use Rattle.paper.specs.declared.refusal.Refusal.TheVariants.{NotAReply}
use Rattle.paper.proofs.Outcome.{gives_one, gives_refuses, refuse_not, refuse_yes, refuse_no}
use Rattle.paper.proofs.Writing.{written_over, written_err}
use Rattle.wire.specs.Reply.{error_status, bytes_of_info, bytes_of_health}
use Rattle.wire.proofs.Replies.{health_fit}
use Rattle.wire.specs.declared.reply.Info.{Info}
use Rattle.wire.specs.declared.reply.Health.{Health}
use Rattle.device.specs.Model.{protected, health_now, behind_descriptor, setting, with_health}
use Rattle.device.specs.Promises.{HealthSetting}
use Rattle.device.specs.declared.model.State.{State}
use Rattle.device.specs.declared.model.State.TheVariants.{Idle, Scanning, ForceScanning, ProtectionStop}
use Rattle.device.specs.declared.model.Model.{Model}

-- a reply is written into as many bytes as it has, and then sent behind its descriptor
pub reply_sent : (d was is : List ℕ) (o : Outcome (List ℕ)) {blank mid : List ℕ} {n : ℕ} {r : Result ℕ Refusal}
    → ((xs : List ℕ) → o ≡ gives xs → length xs ≡ length blank) → Writes o blank (Ok n) mid → Writes (gives (d ++ mid)) was r is → Writes (behind_descriptor d o) was r is
unfolding behind_descriptor outcome fitting mapped over
reply_sent d was is (refuses m) whole w v = absurd (gives_refuses w.answer)
reply_sent d was is (gives xs) {blank = blank} {mid = mid} {n = n} whole w v =
    let l = whole xs refl in
    let e : mid ≡ xs =
    written_over xs blank mid (Ok n) (omega arith) w ∙ ap (λ (ys : List ℕ). xs ++ ys) (drop_of_length-le blank {i = length xs} (omega arith)) ∙ append-nil xs in
    rw e at v

-- where the reply is refused, nothing is sent
pub reply_refused : (d was : List ℕ) (o : Outcome (List ℕ)) {blank mid : List ℕ} {q : Refusal} {r : Result ℕ Refusal}
    → ((xs : List ℕ) → o ≡ gives xs → length xs ≡ length blank) → Writes o blank (Err q) mid → r ≡ Err q → Writes (behind_descriptor d o) was r was
unfolding behind_descriptor outcome fitting mapped if_given
reply_refused d was (refuses m) whole w e = rw e (record { answer = w.answer; output = refl })
reply_refused d was (gives xs) whole w e = let l = whole xs refl in absurd (omega (arith, written_err w))

pub info_whole : (i : Info) → length i.serial ≡ 16 → (xs : List ℕ) → bytes_of_info i ≡ gives xs → length xs ≡ 20
unfolding bytes_of_info
info_whole i l xs e = ap length (sym (gives_one e)) ∙ omega arith

pub health_whole : (h : Health) (xs : List ℕ) → bytes_of_health h ≡ gives xs → length xs ≡ 3
unfolding bytes_of_health bytes_of
health_whole h xs e = ap length (sym (gives_one (refuse_not _ _ _ e).1))

-- ---- the health that the model sends: no health of its own is refused

status_low : (s : State) (warning : Bool) → protected s error_status (cond warning 1 0) ≤ error_status
unfolding protected
status_low ProtectionStop w = omega arith
status_low Idle true = omega arith
status_low Idle false = omega arith
status_low Scanning true = omega arith
status_low Scanning false = omega arith
status_low ForceScanning true = omega arith
status_low ForceScanning false = omega arith

pub health_sent : (m : Model) → bytes_of_health (health_now m) ≡ gives ((health_now m).status ∷ bytes_of 2 m.error)
unfolding health_now
health_sent m = health_fit (health_now m) (status_low m.state m.warning)

-- ---- settings

module _ (m : Model) (status error : ℕ) where
  pub setting_over : 1 < status → HealthSetting m status error (Err NotAReply)
  unfolding setting outcome mapped
  setting_over h = record { answer = rw (refuse_yes (number_of NotAReply) (gives (tt {0})) (lt-ltb 1 status h)) }

  pub setting_fit : status ≤ 1 → HealthSetting m status error (Ok (with_health m status error))
  unfolding setting outcome mapped
  setting_fit h = record { answer = rw (refuse_no (number_of NotAReply) (gives (tt {0})) (le-ltb 1 status h)) }
