-- What a call gives, noted: the stop alone decides (`noted_session`, `noted_serial`), since samples change neither session nor serial.
use Prim.Native.Nat.{ℕ, ◌-◌}
use mathlib.Core.Path.{◌≡◌, refl, sym, ap, ◌∙◌}
use mathlib.Core.Bool.{true, not}
use mathlib.Core.List.{List, [], ◌∷◌, ◌++◌, append-nil}
use native.Mathlib.Omega.{arith}
use borrow.Author.Tests.{eq-eqb, ne_eqb}
use lib.ListN.{length, drop}
use lib.Seq.{length-take-le}
use Rattle.paper.specs.Outcome.{gives, if_given}
use Rattle.std.specs.Prelude.{Ok, Err}
use Rattle.paper.specs.Refusals.{number_of, outcome}
use Rattle.paper.specs.declared.refusal.Refusal.{Refusal}
use Rattle.paper.specs.declared.refusal.Refusal.TheVariants.{NotAReply}
use Rattle.paper.proofs.Outcome.{gives_one, gives_refuses, refuse_yes, refuse_no}
use Rattle.framing.specs.Calls.{Stop as Reason, all_taken, ended_by, no_room}
use Rattle.framing.proofs.Stops.{quiet, Ended, call_ended}
use Rattle.wire.specs.Reply.{info_of, info_in}
use Rattle.wire.specs.Promises.{InfoIsRead}
use Rattle.wire.specs.declared.reply.Info.{Info}
use Rattle.wire.specs.declared.sample.Sample.{Sample}
use Rattle.session.specs.declared.Session.{Session}
use Rattle.stream.specs.State.{meaning, twenty}
use Rattle.stream.specs.Stops.{stop_of, reply_for}
use Rattle.stream.specs.Table.{Thing, headed, replied, unread, point, width, reader, giving, ends_call}
use Rattle.stream.specs.Promises.{called, Reads}
use Rattle.stream.specs.declared.Phase.{Phase}
use Rattle.stream.specs.declared.Phase.TheVariants.{Idle, SeekInfo, SeekHealth, SeekScan, InfoReply, HealthReply, Scanning}
use Rattle.stream.specs.declared.Stop.{Stop}
use Rattle.stream.specs.declared.Stop.TheVariants.{Reply}
use Rattle.stream.specs.declared.Reader.{Reader}
use Rattle.stream.specs.declared.Reading.{Reading}
use Rattle.stream.proofs.Determined.{stop_one}
use Rattle.stream.proofs.RightAfter.{stop_reply_bytes}
use Rattle.host.specs.Host.{waited, kept, through}
use Rattle.host.specs.inner.Noted.{waited_at, reads_info, is_info, kept_at}

-- ---- things one after the other

pub through_append : {A : Type 0} (f : A → Thing → A) (a : A) (xs ys : List Thing) → through f a (xs ++ ys) ≡ through f (through f a xs) ys
unfolding through
through_append f a [] ys = refl
through_append f a (x ∷ xs) ys = through_append f (f a x) xs ys

-- samples leave it
pub Still : {A : Type 0} → (A → Thing → A) → Type 0
Still {A} f = (a : A) (m : Sample) → f a (point m) ≡ a

through_quiet : {A : Type 0} (f : A → Thing → A) → Still f → (a : A) (xs : List Thing) → quiet reader giving xs ≡ true → through f a xs ≡ a
unfolding through quiet ends_call Still
through_quiet f still a [] e = refl
through_quiet f still a (headed ∷ xs) e = cc
through_quiet f still a (replied w ∷ xs) e = cc
through_quiet f still a (unread ∷ xs) e = cc
through_quiet f still a (point m ∷ xs) e = ap (λ b. through f b xs) (still a m) ∙ through_quiet f still a xs e

-- by the reason of the stop alone
unfoldable at_stop : {A : Type 0} → (A → Thing → A) → A → Reason Thing → A
at_stop f a all_taken = a
at_stop f a no_room = a
at_stop f a (ended_by x) = f a x

through_stop : {A : Type 0} (f : A → Thing → A) → Still f → (a : A) (xs : List Thing) (w : Reason Thing) → Ended reader giving xs w → through f a xs ≡ at_stop f a w
unfolding at_stop Ended through
through_stop f still a xs all_taken e = through_quiet f still a xs e
through_stop f still a xs no_room e = through_quiet f still a xs e
through_stop f still a xs (ended_by x) e =
    ap (through f a) e.1 ∙ through_append f a e.0 (x ∷ []) ∙ ap (λ b. f b x) (through_quiet f still a e.0 e.2)

-- ---- the session and the serial

waited_still : Still waited
unfolding Still waited
waited_still s m = refl

kept_still : Still kept
unfolding Still kept
kept_still s m = refl

waited_stop : (s : Session) (w : Reason Thing) → at_stop waited s w ≡ waited_at (stop_of w) s
unfolding at_stop waited waited_at stop_of
waited_stop s all_taken = refl
waited_stop s no_room = refl
waited_stop s (ended_by headed) = refl
waited_stop s (ended_by (replied w)) = refl
waited_stop s (ended_by unread) = refl
waited_stop s (ended_by (point m)) = refl

-- twenty bytes are an info
info_is : (w : List ℕ) → length w ≡ 20 → info_of w ≡ gives (info_in w)
unfolding info_of
info_is w e = refuse_no (number_of NotAReply) (gives (info_in w)) (ap not (eq-eqb (length w) 20 e))

-- and their last sixteen its serial
pub serial_from : (w : List ℕ) (i : Info) → length w ≡ 20 → InfoIsRead w (Ok i) → i.serial ≡ drop 4 w
unfolding outcome info_in
serial_from w i e p = ap (λ (x : Info). x.serial) (gives_one (p.answer ∙ info_is w e))

-- and they are not refused
pub never_refused : (w : List ℕ) {q : Refusal} → length w ≡ 20 → InfoIsRead w (Err q) → ⊥
unfolding outcome
never_refused w e p = gives_refuses (sym (p.answer ∙ info_is w e))

info_kept : (serial w : List ℕ) → length w ≡ 20 → kept serial (replied w) ≡ drop 4 (twenty w)
unfolding kept if_given info_in twenty
info_kept serial w e =
    let n : 20 - length w ≡ 0 = omega arith in
    rw (info_is w e, n, append-nil w)

-- and other replies are none
other_left : (serial w : List ℕ) → (length w ≡ 20 → ⊥) → kept serial (replied w) ≡ serial
unfolding kept if_given info_of
other_left serial w e = rw (refuse_yes (number_of NotAReply) (gives (info_in w)) (ap not (ne_eqb (length w) 20 e)))

reply_kept : (serial w : List ℕ) (p : Phase) → length w ≡ width p → kept serial (replied w) ≡ kept_at (reads_info p) (twenty w) serial
unfolding kept_at reads_info width
reply_kept serial w InfoReply e = info_kept serial w e
reply_kept serial w Idle e = other_left serial w (λ f. omega arith)
reply_kept serial w SeekInfo e = other_left serial w (λ f. omega arith)
reply_kept serial w SeekHealth e = other_left serial w (λ f. omega arith)
reply_kept serial w SeekScan e = other_left serial w (λ f. omega arith)
reply_kept serial w HealthReply e = other_left serial w (λ f. omega arith)
reply_kept serial w Scanning e = other_left serial w (λ f. omega arith)

kept_stop : (serial : List ℕ) (p : Phase) (w : Reason Thing) → (stop_of w ≡ Reply → length (reply_for w) ≡ width p)
    → at_stop kept serial w ≡ kept_at (is_info p (stop_of w)) (twenty (reply_for w)) serial
unfolding at_stop kept kept_at is_info stop_of reply_for
kept_stop serial p all_taken l = refl
kept_stop serial p no_room l = refl
kept_stop serial p (ended_by headed) l = refl
kept_stop serial p (ended_by (replied w)) l = reply_kept serial w p (l refl)
kept_stop serial p (ended_by unread) l = refl
kept_stop serial p (ended_by (point m)) l = refl

-- ---- a call

module _ {s : Reader} {input was row : List ℕ} {r : Reading} (h : Reads s input was r row) where
  stop_is : r.stop ≡ stop_of (called s input was).stop
  stop_is = stop_one r.stop (stop_of (called s input was).stop) h.stop

  given_ended : Ended reader giving (called s input was).given (called s input was).stop
  unfolding called
  given_ended = call_ended reader giving (meaning s) [] input (length was)

  pub noted_session : (a : Session) → waited_at r.stop a ≡ through waited a (called s input was).given
  noted_session a = sym (through_stop waited waited_still a _ _ given_ended ∙ waited_stop a _ ∙ ap (λ (x : Stop). waited_at x a) (sym stop_is))

  reply_wide : stop_of (called s input was).stop ≡ Reply → length (reply_for (called s input was).stop) ≡ width s.phase
  reply_wide e = let b = stop_reply_bytes h (stop_is ∙ e) in ap length b.bytes ∙ length-take-le (width s.phase) _ b.there

  pub noted_serial : (a : List ℕ) → kept_at (is_info s.phase r.stop) r.reply a ≡ through kept a (called s input was).given
  noted_serial a =
      sym (through_stop kept kept_still a _ _ given_ended ∙ kept_stop a s.phase _ reply_wide
      ∙ ap (λ (x : Stop). kept_at (is_info s.phase x) (twenty (reply_for (called s input was).stop)) a) (sym stop_is)
      ∙ ap (λ (x : List ℕ). kept_at (is_info s.phase r.stop) x a) (sym h.reply))
