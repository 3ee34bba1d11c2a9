-- The order of checks, one law for each check that decides (`earlier` to `all_passed`), and how a sending's promise is met: `sent_no`, `sent_yes`.
use Prim.Native.Nat.{ℕ, ◌-◌, ◌<◌, ◌≤◌}
use mathlib.Core.Path.{◌≡◌, refl, sym, ap, ◌∙◌}
use mathlib.Core.Bool.{Bool, true, false, not}
use mathlib.Core.List.{List}
use lib.ListN.{length}
use borrow.Author.Tests.{lt-ltb, le-ltb}
use Rattle.std.specs.Prelude.{Result, Ok, Err}
use Rattle.paper.specs.Outcome.{Outcome, gives, refuses, mapped}
use Rattle.paper.specs.Refusals.{number_of, outcome}
use Rattle.paper.specs.Writing.{Writes, fitting}
use Rattle.paper.specs.declared.refusal.Refusal.{Refusal}
use Rattle.paper.specs.declared.refusal.Refusal.TheVariants.{CodeNotPermitted, TimeEarlier, WaitNotOver, ReplyAwaited}
use Rattle.paper.proofs.Outcome.{refuse_yes, refuse_no, refused_as, given_as}
use Rattle.wire.specs.Request.{kind_of}
use Rattle.wire.specs.declared.request.Kind.{Kind}
use Rattle.wire.specs.declared.request.Request.{Request}
use Rattle.session.specs.Session.{permitted, held_back, in_order, sending, accepted}
use Rattle.session.specs.Promises.{RequestSent}
use Rattle.session.specs.declared.Session.{Session}
use Rattle.session.specs.declared.Sent.{Sent}

module _ {A : Type 0} (s : Session) (time : ℕ) (k : Kind) (n : ℕ) (next : Outcome A) where
  pub earlier : time < s.last → in_order s time k n next ≡ refuses (number_of TimeEarlier)
  unfolding in_order
  earlier h = refuse_yes _ _ (lt-ltb time s.last h)

  pub unpermitted : s.last ≤ time → not (permitted k n) ≡ true → in_order s time k n next ≡ refuses (number_of CodeNotPermitted)
  unfolding in_order
  unpermitted h p = refuse_no _ _ (le-ltb time s.last h) ∙ refuse_yes _ _ p

  pub waiting : s.last ≤ time → not (permitted k n) ≡ false → time - s.last < s.wait → in_order s time k n next ≡ refuses (number_of WaitNotOver)
  unfolding in_order
  waiting h p w = refuse_no _ _ (le-ltb time s.last h) ∙ refuse_no _ _ p ∙ refuse_yes _ _ (lt-ltb (time - s.last) s.wait w)

  pub awaiting : s.last ≤ time → not (permitted k n) ≡ false → s.wait ≤ time - s.last → held_back s.awaited k ≡ true
      → in_order s time k n next ≡ refuses (number_of ReplyAwaited)
  unfolding in_order
  awaiting h p w a =
      refuse_no _ _ (le-ltb time s.last h) ∙ refuse_no _ _ p ∙ refuse_no _ _ (le-ltb (time - s.last) s.wait w) ∙ refuse_yes _ _ a

  pub all_passed : s.last ≤ time → not (permitted k n) ≡ false → s.wait ≤ time - s.last → held_back s.awaited k ≡ false → in_order s time k n next ≡ next
  unfolding in_order
  all_passed h p w a =
      refuse_no _ _ (le-ltb time s.last h) ∙ refuse_no _ _ p ∙ refuse_no _ _ (le-ltb (time - s.last) s.wait w) ∙ refuse_no _ _ a

-- ---- a sending's promise, by what the writer answers

abbrev sent_with : Session → ℕ → Sent
sent_with s n = record { session = s; bytes = n }

module _ {s : Session} {time : ℕ} {q : Request} {payload was : List ℕ} {w : Result ℕ Refusal} {is : List ℕ} (p : Writes (sending s time q.0 payload) was w is) where
  pub sent_no : {a : Refusal} → w ≡ Err a → RequestSent s time q payload was (Err a) is
  unfolding outcome
  sent_no t = record { answer = refused_as _ _ _ (sym (ap outcome t) ∙ p.answer); output = p.output }

  pub sent_yes : {n : ℕ} {k : Kind} {t : Session} → w ≡ Ok n → k ≡ kind_of q.0 → t ≡ accepted time k
      → RequestSent s time q payload was (Ok (record { session = t; bytes = n })) is
  unfolding outcome
  sent_yes {n} b e a = record {
    answer = ap (λ (x : Session). gives (sent_with x n)) (a ∙ ap (accepted time) e)
        ∙ given_as length _ (sent_with (accepted time (kind_of q.0))) _ (λ xs. refl) (sym (ap outcome b) ∙ p.answer);
    output = p.output;
  }
