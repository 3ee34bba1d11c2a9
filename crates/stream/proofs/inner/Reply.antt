-- Replies and an idle reader, as code reads them: `reply_short`, `reply_good`, `reply_bad` and `idle_reads` for the answers.
use mathlib.Core.Path.{◌≡◌, refl, sym, ap, ap₂, ◌∙◌}
use mathlib.Core.Bool.{true, false, cond}
use mathlib.Core.List.{List, [], ◌∷◌, ◌++◌, flat_map}
use Prim.Native.Nat.{ℕ, ◌+◌, ◌-◌, ◌≤◌, ◌<◌, min}
use native.Mathlib.Nat.{zero-add, add-zero, sub-zero}
use native.Mathlib.Omega.{arith}
use borrow.Author.Tests.{ne_eqb}
use lib.ListN.{length, take, length-append}
use lib.Seq.{take_at, take-append-add, length-take-le}
use Rattle.paper.specs.Outcome.{Outcome, gives, refuses, if_given}
use Rattle.framing.specs.Framing.{Step, frame, reject, size, fresh, after}
use Rattle.framing.specs.Run.{events, skipped}
use Rattle.framing.specs.Stages.{passes, spoiled, step_of}
use Rattle.framing.specs.Calls.{outputs, ended_by}
use Rattle.paper.specs.declared.refusal.Refusal.{Refusal}
use Rattle.std.specs.Prelude.{Result, Ok, Err}
use Rattle.std.specs.Result.{is_err}
use Rattle.paper.specs.Refusals.{outcome}
use Rattle.wire.specs.Reply.{health_of}
use Rattle.wire.specs.declared.reply.Health.{Health}
use Rattle.wire.specs.Promises.{HealthIsRead}
use Rattle.stream.specs.declared.Phase.{Phase}
use Rattle.stream.specs.declared.Phase.TheVariants.{Idle, InfoReply, HealthReply}
use Rattle.stream.specs.declared.Stop.TheVariants.{AllTaken, Reply, BadHealth}
use Rattle.stream.specs.declared.Reader.{Reader}
use Rattle.stream.specs.declared.Reading.{Reading}
use Rattle.stream.specs.Table.{Event, reply, bad_health, Thing, replied, unread, read_health, width, says, follows, reader, giving, things_of, words_for, ends_call, row_of}
use Rattle.stream.specs.State.{held_of, twenty, capped, written}
use Rattle.stream.specs.Stops.{reply_for, stop_of}
use Rattle.stream.specs.Promises.{Reads}
use Rattle.stream.specs.inner.Account.{put, comes_to}
use Rattle.stream.specs.inner.Hold.{holding, stopping}
use Rattle.stream.specs.inner.Reply.{bad, Awaits}
use Rattle.stream.proofs.inner.Account.{comes_short, comes_skip, comes_ended}
use Rattle.stream.proofs.inner.Hold.{capped_small}
use Rattle.stream.proofs.inner.Promise.{reading_of, held_few, reads_by}

-- ---- idle: each byte is skipped

pub idle_all : (xs : List ℕ) (t k u : ℕ) (ws : List ℕ) → comes_to (fresh Idle) xs t k u ws
    ≡ record { taken = t + length xs; skipped = k + length xs; used = u; words = ws; stop = AllTaken; reply = []; end = fresh Idle }
unfolding width says
idle_all [] t k u ws = comes_short Idle [] t k u ws (omega arith) ∙ rw (add-zero k)
idle_all (x ∷ xs) t k u ws =
    let e : t + 1 + length xs ≡ t + length (x ∷ xs) = omega arith in
    let f : k + 1 + length xs ≡ k + length (x ∷ xs) = omega arith in
    comes_skip Idle (x ∷ xs) t k u ws (omega arith) refl ∙ idle_all xs (t + 1) (k + 1) u ws ∙ rw (e, f)

-- an idle reader holds none
pub idle_reads : (self : Reader) {input ws : List ℕ} {r : Reading} → self.phase ≡ Idle → r ≡ stopping (holding Idle [] (capped (self.skipped + length input))) (length input) AllTaken → Reads self input ws r ws
unfolding held_of width reading_of written holding stopping
idle_reads self {input} {ws} e f =
    let n : min self.n (width self.phase - 1) ≡ 0 = ap (λ (x : Phase). min self.n (width x - 1)) e ∙ omega arith in
    let g : held_of self ≡ [] = ap (λ (x : ℕ). take x self.held) n in
    let o = idle_all input 0 self.skipped 0 ws in
    reads_by self input ws _ (ap₂ (λ (p : Phase) (xs : List ℕ). comes_to (fresh p) (xs ++ input) 0 self.skipped 0 ws) e g ∙ o) _ ws (rw (g, zero-add, sub-zero, f)) refl

-- ---- replies

pub info_awaits : {p : Phase} → p ≡ InfoReply → Awaits p 20
unfolding width says follows bad
info_awaits e = rw e (record { wide = refl; most = omega arith; reads = λ w. refl; idle = λ e. refl })

pub health_awaits : {p : Phase} → p ≡ HealthReply → Awaits p 3
unfolding width says follows bad read_health if_given
health_awaits e = rw e (record { wide = refl; most = omega arith; reads = λ w. by w (health_of w); idle = λ e. refl })
  where
    by : {A : Type 0} (w : List ℕ) (o : Outcome A) → if_given o (λ h. passes (reply w)) (spoiled bad_health) ≡ cond (if_given o (λ h. false) true) (spoiled bad_health) (passes (reply w))
    by w (gives h) = refl
    by w (refuses n) = refl

-- so many as the phase looks at together
pub awaits_wide : {p : Phase} {need : ℕ} → Awaits p need → Awaits p (width p)
awaits_wide a = rw a.wide a

-- what code finds of the reply's bytes
pub bad_other : (need : ℕ) (w : List ℕ) → (need ≡ 3 → ⊥) → false ≡ bad need (take need w)
unfolding bad
bad_other need w n = rw (ne_eqb _ _ n)

pub bad_health_of : (need : ℕ) (w : List ℕ) (r : Result Health Refusal) → need ≡ 3 → HealthIsRead (take 3 w) r → is_err r ≡ bad need (take need w)
unfolding bad if_given outcome
bad_health_of need w (Ok x) e h = let o = sym h.answer in rw (e, o)
bad_health_of need w (Err q) e h = let o = sym h.answer in rw (e, o)

-- the reply's bytes: those held, and those of the input that it still needs
abbrev pub reply_in : Reader → List ℕ → List ℕ
reply_in s input = held_of s ++ take (width s.phase - length (held_of s)) input

module _ (self : Reader) (input : List ℕ) (q : width self.phase - length (held_of self) ≤ length input) where
  reply_length : length (reply_in self input) ≡ width self.phase
  reply_length = length-append (held_of self) (take (width self.phase - length (held_of self)) input) ∙ rw (length-take-le (width self.phase - length (held_of self)) input q) (omega (arith, held_few self))

  reply_window : take (width self.phase) (held_of self ++ input) ≡ reply_in self input
  reply_window =
      let n : width self.phase ≡ length (held_of self) + (width self.phase - length (held_of self)) = omega (arith, held_few self) in
      ap (λ (i : ℕ). take i (held_of self ++ input)) n ∙ take-append-add (held_of self) input (width self.phase - length (held_of self))

  -- the reply stands at the front of its array
  pub reply_front : take (width self.phase) (twenty (reply_in self input)) ≡ reply_in self input
  unfolding twenty
  reply_front = take_at (reply_in self input) _ (width self.phase) reply_length

module _ (self : Reader) {input ws : List ℕ} (a : Awaits self.phase (width self.phase)) (small : self.skipped ≤ 4294967295) where
  -- too few bytes: all are held
  pub reply_short : {r : Reading} → length input < width self.phase - length (held_of self) → r ≡ stopping (holding self.phase (held_of self ++ input) self.skipped) (length input) AllTaken → Reads self input ws r ws
  unfolding reading_of written holding stopping
  reply_short q f =
      let n : length (held_of self) + length input - length (held_of self) ≡ length input = omega arith in
      reads_by self input ws _ (comes_short self.phase (held_of self ++ input) 0 self.skipped 0 ws (omega (arith, length-append (held_of self) input))) _ ws
      (rw (zero-add, length-append, n, capped_small self.skipped small) (rw length-append at (sym f))) refl

  module _ (q : width self.phase - length (held_of self) ≤ length input) where
    ends : (st : Step Event) (x : Thing) → step_of (width self.phase) (says self.phase (reply_in self input)) ≡ st → size st ≡ width self.phase → outputs giving (st ∷ []) ≡ x ∷ []
        → ends_call x ≡ true → words_for x ≡ 0 → row_of x ≡ [] → put ws 0 (x ∷ []) ≡ ws → after reader self.phase st ≡ Idle
        → (r : Reading)
        → reading_of (length (held_of self)) (record { taken = 0 + width self.phase; skipped = self.skipped + skipped (st ∷ []); used = 0; words = ws; stop = stop_of (ended_by x); reply = reply_for (ended_by x); end = fresh Idle }) ≡ r
        → Reads self input ws r ws
    ends st x f s o e n row z i r g =
        reads_by self input ws _
        (comes_ended self.phase (held_of self ++ input) 0 self.skipped 0 ws (omega (arith, length-append (held_of self) input, held_few self)) st x (rw (reply_window self input q) f) s o e n row ∙ rw (z, i))
        r ws g refl

    pub reply_good : {r : Reading} → bad (width self.phase) (reply_in self input) ≡ false
        → r ≡ record { reader = holding Idle [] self.skipped; taken = width self.phase - length (held_of self); words = 0; stop = Reply; reply = twenty (reply_in self input) } → Reads self input ws r ws
    unfolding reading_of written holding skipped put stop_of reply_for ends_call words_for row_of step_of size outputs events flat_map things_of after
    reply_good b e =
        let v : says self.phase (reply_in self input) ≡ passes (reply (reply_in self input)) = a.reads (reply_in self input) ∙ rw b in
        ends (frame (width self.phase) (reply (reply_in self input))) (replied (reply_in self input)) (ap (step_of (width self.phase)) v) refl refl refl refl refl refl (a.idle (reply (reply_in self input))) _
        (rw (zero-add, add-zero, capped_small self.skipped small, e))

    pub reply_bad : {r : Reading} → bad (width self.phase) (reply_in self input) ≡ true
        → r ≡ stopping (holding Idle [] (capped (self.skipped + width self.phase))) (width self.phase - length (held_of self)) BadHealth → Reads self input ws r ws
    unfolding reading_of written holding stopping skipped put stop_of reply_for ends_call words_for row_of step_of size outputs events flat_map things_of after
    reply_bad b e =
        let v : says self.phase (reply_in self input) ≡ spoiled bad_health = a.reads (reply_in self input) ∙ rw b in
        ends (reject (width self.phase) bad_health) unread (ap (step_of (width self.phase)) v) refl refl refl refl refl refl (a.idle bad_health) _
        (rw (zero-add, add-zero (width self.phase), e))
