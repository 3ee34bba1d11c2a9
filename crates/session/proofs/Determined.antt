-- Two answers that a promise allows are equal: one theorem for each public function.
use Prim.Native.Nat.{ℕ}
use mathlib.Core.Path.{◌≡◌, sym, ◌∙◌}
use mathlib.Core.List.{List}
use Rattle.std.specs.Prelude.{Result}
use Rattle.paper.specs.declared.refusal.Refusal.{Refusal}
use Rattle.paper.proofs.Refusals.{outcome_one}
use Rattle.wire.specs.declared.request.Request.{Request}
use Rattle.session.specs.Promises.{Begun, RequestSent, ReplyEnded}
use Rattle.session.specs.declared.Session.{Session}
use Rattle.session.specs.declared.Sent.{Sent}

pub new_determined : {r t : Session} → Begun r → Begun t → r ≡ t
new_determined p q = p.answer ∙ sym q.answer

pub send_determined : {s : Session} {time : ℕ} {a : Request} {payload was : List ℕ} {r t : Result Sent Refusal} {is js : List ℕ}
    → RequestSent s time a payload was r is → RequestSent s time a payload was t js → (r ≡ t) × (is ≡ js)
send_determined {r = r} {t = t} p q = (outcome_one r t (p.answer ∙ sym q.answer), p.output ∙ sym q.output)

pub reply_ended_determined : {s r t : Session} → ReplyEnded s r → ReplyEnded s t → r ≡ t
reply_ended_determined p q = p.answer ∙ sym q.answer
