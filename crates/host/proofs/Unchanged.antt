-- The host behind a sending (`asks_after`); a refused one tells nobody and writes nothing (`send_refused`).
use Prim.Native.Nat.{ℕ}
use mathlib.Core.Path.{◌≡◌, sym, ap, ◌∙◌}
use mathlib.Core.List.{List}
use lib.ListN.{length}
use Rattle.std.specs.Prelude.{Result, Ok, Err}
use Rattle.paper.proofs.Outcome.{mapped_given, refused_other}
use Rattle.paper.specs.Outcome.{if_given}
use Rattle.paper.specs.Refusals.{outcome}
use Rattle.paper.specs.Writing.{fitting}
use Rattle.paper.specs.declared.refusal.Refusal.{Refusal}
use Rattle.wire.specs.declared.request.Request.{Request}
use Rattle.session.specs.Session.{sending}
use Rattle.host.specs.Host.{asked, after}
use Rattle.host.specs.Promises.{Asks}
use Rattle.host.specs.declared.Host.{Host}
use Rattle.host.specs.declared.Asked.{Asked}

-- session, reader and gatherer in the one that all were told in, or the very host
pub asks_after : {h : Host} {time : ℕ} {q : Request} {payload was is : List ℕ} (r : Result Asked Refusal) → Asks h time q payload was r is
    → after h r ≡ if_given (fitting (length was) (sending h.session time q.0 payload)) (λ _. asked h time q) h
unfolding outcome after if_given
asks_after (Ok x) p = let g = mapped_given _ _ p.answer in rw g.1.0 (ap (λ (y : Asked). y.host) g.1.1)
asks_after (Err q) p = refused_other _ _ _ _ p.answer

pub send_refused : {h : Host} {time : ℕ} {q : Request} {payload was is : List ℕ} {r : Result Asked Refusal} {a : Refusal} → Asks h time q payload was r is
    → r ≡ Err a → (after h r ≡ h) × (is ≡ was)
unfolding outcome after
send_refused p e = (rw e, p.output ∙ sym (refused_other _ _ _ _ (rw e at p.answer)))
