-- The session behind a sending (`sent_after`), and what changes nothing: a refused sending (`refused_unchanged`), and the telling that a reply has ended
-- where none is awaited (`ended_unchanged`).
use Prim.Native.Nat.{ℕ}
use mathlib.Core.Path.{◌≡◌, sym, ap, ◌∙◌}
use mathlib.Core.List.{List}
use lib.ListN.{length}
use Rattle.std.specs.Prelude.{Result, Ok, Err}
use Rattle.paper.proofs.Outcome.{mapped_given, refused_other}
use Rattle.paper.specs.Outcome.{if_given}
use Rattle.paper.specs.Refusals.{outcome}
use Rattle.paper.specs.Writing.{fitting}
use Rattle.paper.specs.declared.refusal.Refusal.{Refusal}
use Rattle.wire.specs.Request.{kind_of}
use Rattle.wire.specs.declared.request.Request.{Request}
use Rattle.session.specs.Session.{ended, sending, accepted, after}
use Rattle.session.specs.Promises.{RequestSent, ReplyEnded}
use Rattle.session.specs.declared.Awaited.{Awaited}
use Rattle.session.specs.declared.Awaited.TheVariants.{Nothing}
use Rattle.session.specs.declared.Session.{Session}
use Rattle.session.specs.declared.Sent.{Sent}

-- the one that was accepted, or the very session
pub sent_after : {s : Session} {time : ℕ} {q : Request} {payload was is : List ℕ} (r : Result Sent Refusal) → RequestSent s time q payload was r is
    → after s r ≡ if_given (fitting (length was) (sending s time q.0 payload)) (λ _. accepted time (kind_of q.0)) s
unfolding outcome after if_given
sent_after (Ok x) p = let g = mapped_given _ _ p.answer in rw g.1.0 (ap (λ (y : Sent). y.session) g.1.1)
sent_after (Err q) p = refused_other _ _ _ _ p.answer

-- the very session, its last time too, and the output
pub refused_unchanged : {s : Session} {time : ℕ} {q : Request} {payload was : List ℕ} {r : Result Sent Refusal} {is : List ℕ} {a : Refusal}
    → RequestSent s time q payload was r is → r ≡ Err a → (after s r ≡ s) × (is ≡ was)
unfolding outcome after
refused_unchanged {s = s} p e = (rw e, p.output ∙ sym (refused_other _ _ _ _ (rw e at p.answer)))

pub ended_unchanged : {s r : Session} → ReplyEnded s r → s.awaited ≡ Nothing → r ≡ s
unfolding ended
ended_unchanged {s} p e = p.answer ∙ ap (λ (a : Awaited). record { last = s.last; wait = s.wait; awaited = a }) (sym e)
