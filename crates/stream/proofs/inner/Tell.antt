-- Being told a request, as code does it: `tells_taken` and `tells_refused` for the promise.
use mathlib.Core.Path.{◌≡◌, sym, ap, ◌∙◌}
use Rattle.std.specs.Prelude.{Ok, Err}
use Rattle.paper.specs.Outcome.{gives, refuses, mapped}
use Rattle.paper.specs.Refusals.{outcome}
use Rattle.paper.specs.declared.refusal.Refusal.{Refusal}
use Rattle.wire.specs.declared.request.Request.{Request}
use Rattle.wire.specs.declared.request.Kind.{Kind}
use Rattle.wire.specs.Promises.{KindGiven}
use Rattle.stream.specs.declared.Phase.{Phase}
use Rattle.stream.specs.declared.Reader.{Reader}
use Rattle.stream.specs.Telling.{opening, opens, begun}
use Rattle.stream.specs.Promises.{Tells}

-- a request that is taken, and one that is refused
pub tells_taken : (self : Reader) (q : Request) {kind : Kind} (p : Phase) {r : Reader} → KindGiven q kind → outcome (Ok p) ≡ opening kind → r ≡ begun self p → Tells self q (Ok r)
unfolding outcome mapped
tells_taken self q p g e h = let o : opens q ≡ gives _ = ap opening (sym g.answer) ∙ sym e in record { answer = ap gives h ∙ rw o }

pub tells_refused : (self : Reader) (q : Request) {kind : Kind} (x : Refusal) → KindGiven q kind → outcome (Err x) ≡ opening kind → Tells self q (Err x)
unfolding outcome mapped
tells_refused self q x g e = let o : opens q ≡ refuses _ = ap opening (sym g.answer) ∙ sym e in record { answer = rw o }
