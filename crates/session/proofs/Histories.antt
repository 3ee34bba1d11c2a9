-- The law over whole histories: the accepted requests keep the rules (`accepted_keep_rules`), and a sending that keeps them is never refused (`kept_is_sent`).
-- From a fresh session on the rules are those over the list alone: `fresh_keeps` of proofs/Steps.antt.
use Prim.Native.Nat.{ℕ, ◌-◌, ◌≤◌, ◌<◌}
use mathlib.Core.Path.{◌≡◌, refl, sym, ap, ◌∙◌}
use mathlib.Core.Bool.{Bool, true, false}
use mathlib.Core.List.{List, [], ◌∷◌, ◌++◌}
use native.Mathlib.Omega.{arith}
use lib.Dec.{ltb, eqb}
use lib.ListN.{length}
use borrow.Author.Tests.{ltb-true, ltb-false, le-ltb, eq-eqb, ne_eqb, not-false}
use Rattle.paper.specs.Outcome.{Outcome, gives, refuses, refuse_if, mapped, if_given}
use Rattle.std.specs.Prelude.{Result, Ok}
use Rattle.paper.specs.Refusals.{outcome}
use Rattle.paper.specs.declared.refusal.Refusal.{Refusal}
use Rattle.paper.specs.Writing.{fitting, over}
use Rattle.paper.proofs.Cases.{both_hold}
use Rattle.paper.proofs.Outcome.{refuse_not, mapped_given}
use Rattle.paper.proofs.Refusals.{outcome_one}
use Rattle.paper.proofs.Writing.{fitting_yes}
use Rattle.wire.specs.Request.{stop_code, reset_code, scan_code, force_scan_code, get_info_code, get_health_code, start_byte, kind_of}
use Rattle.wire.specs.declared.request.Kind.{Kind}
use Rattle.wire.specs.declared.request.Kind.TheVariants.{Other}
use Rattle.wire.specs.declared.request.Request.{Request}
use Rattle.wire.proofs.Requests.{short_request}
use Rattle.session.specs.Session.{of_the_six, permitted, in_order, sending, accepted, after}
use Rattle.session.specs.Promises.{RequestSent}
use Rattle.session.specs.History.{Act, sent, KeepsFrom, Led, none, accepting, refusing, telling}
use Rattle.session.specs.declared.Session.{Session}
use Rattle.session.specs.declared.Sent.{Sent}
use Rattle.session.proofs.Steps.{step, steps, Takes, TakesAll, rules_of_steps, steps_of_rules, takes_last}
use Rattle.session.proofs.Unchanged.{refused_unchanged}

-- ---- what is sent, was taken

fitted : (room : ℕ) (o : Outcome (List ℕ)) {xs : List ℕ} → fitting room o ≡ gives xs → o ≡ gives xs
unfolding fitting
fitted room (gives ys) e = (refuse_not _ _ _ e).1
fitted room (refuses m) e = e

permitted_six : (k : Kind) (n : ℕ) → permitted k n ≡ true → of_the_six k ≡ true
unfolding permitted
permitted_six k n e = (both_hold (of_the_six k) (eqb n 0) e).0

sending_taken : (s : Session) (time code : ℕ) (payload : List ℕ) {xs : List ℕ} → sending s time code payload ≡ gives xs → Takes s (sent time (kind_of code))
unfolding sending in_order Takes
sending_taken s time code payload e =
    let a = refuse_not _ _ _ e in
    let b = refuse_not _ _ _ a.1 in
    let c = refuse_not _ _ _ b.1 in
    let d = refuse_not _ _ _ c.1 in
    let l = ltb-false time s.last a.0 in
    let w = ltb-false (time - s.last) s.wait c.0 in
    (permitted_six (kind_of code) (length payload) (not-false _ b.0), omega arith, d.0)

module _ {s : Session} {time : ℕ} {q : Request} {payload was : List ℕ} {r : Result Sent Refusal} {is : List ℕ} (p : RequestSent s time q payload was r is) where
  sent_taken : {x : Sent} → r ≡ Ok x → Takes s (sent time (kind_of q.0)) × (after s r ≡ accepted time (kind_of q.0))
  unfolding outcome after
  sent_taken e =
      let g = mapped_given _ _ (rw e at p.answer) in
      (sending_taken s time q.0 payload (fitted (length was) _ g.1.0), rw e (ap (λ (x : Sent). x.session) g.1.1))

-- the calls of a history are steps
led_steps : {s t : Session} {acts : List Act} → Led s acts t → TakesAll s acts × (t ≡ steps s acts)
unfolding Takes TakesAll steps step
led_steps none = (tt, refl)
led_steps (accepting p e l) =
    let f = sent_taken p e in
    let i = led_steps l in
    let j = rw f.1 at i in
    ((f.0, j.0), j.1)
led_steps (refusing p e l) = rw (refused_unchanged p e).0 at (led_steps l)
led_steps (telling p l) = let i = rw p.answer at (led_steps l) in ((tt, i.0), i.1)

-- ---- the law

-- Of any calls, from any session on, the accepted requests keep the waits and the rule of the single reply.
pub accepted_keep_rules : {s t : Session} {acts : List Act} → Led s acts t → KeepsFrom s acts
accepted_keep_rules {s} {acts = acts} l = rules_of_steps s acts (led_steps l).0

-- no code from 0x80 on is of the six
long_other : (code : ℕ) → 0x80 ≤ code → kind_of code ≡ Other
unfolding kind_of
long_other code h =
    simp (
      ne_eqb code stop_code (λ z. omega arith),
      ne_eqb code reset_code (λ z. omega arith),
      ne_eqb code scan_code (λ z. omega arith),
      ne_eqb code force_scan_code (λ z. omega arith),
      ne_eqb code get_info_code (λ z. omega arith),
      ne_eqb code get_health_code (λ z. omega arith),
    )

six_short : (code : ℕ) → of_the_six (kind_of code) ≡ true → code < 0x80
unfolding of_the_six
six_short code e = go (ltb code 0x80) refl
  where
    none_of_six : of_the_six Other ≡ true → code < 0x80
    none_of_six z = absurd (cc)

    go : (t : Bool) → ltb code 0x80 ≡ t → code < 0x80
    go true h = ltb-true code 0x80 h
    go false h = none_of_six (sym (ap of_the_six (long_other code (ltb-false code 0x80 h))) ∙ e)

taken_sending : (s : Session) (time code : ℕ) (payload : List ℕ) → length payload ≡ 0 → Takes s (sent time (kind_of code))
    → sending s time code payload ≡ gives (start_byte ∷ code ∷ [])
unfolding sending in_order permitted refuse_if Takes
taken_sending s time code payload z f =
    let w = f.1 in
    rw (le-ltb time s.last (omega arith), f.0, eq-eqb (length payload) 0 z, le-ltb (time - s.last) s.wait (omega arith), f.2)
    (short_request code payload (six_short code f.0) (omega arith))

-- A sending that keeps all rules, with no payload and an output of two bytes or more, is never refused: the two bytes of the request are written.
pub kept_is_sent : {s t : Session} {acts : List Act} {time : ℕ} {q : Request} {payload was is : List ℕ} {r : Result Sent Refusal}
    → Led s acts t → RequestSent t time q payload was r is
    → KeepsFrom s (acts ++ sent time (kind_of q.0) ∷ []) → length payload ≡ 0 → 2 ≤ length was
    → (r ≡ Ok (record { session = accepted time (kind_of q.0); bytes = 2 })) × (is ≡ over was (start_byte ∷ q.0 ∷ []))
unfolding outcome mapped if_given
kept_is_sent {s} {t} {acts} {time} {q} {payload} {was} {r = r} l p f z h =
    let k : Takes (steps s acts) (sent time (kind_of q.0)) = takes_last s acts _ (steps_of_rules s _ f) in
    let xs = start_byte ∷ q.0 ∷ [] in
    let g : fitting (length was) (sending t time q.0 payload) ≡ gives xs =
    rw (taken_sending t time q.0 payload z (rw (led_steps l).1 k)) (fitting_yes xs (length was) h) in
    (outcome_one r (Ok _) (rw g at p.answer), rw g at p.output)
