-- What each public function of the crate promises.
use Rattle.std.specs.Prelude.{ℕ, ◌≡◌, List, length, Result}
use Rattle.paper.specs.Outcome.{mapped, if_given}
use Rattle.paper.specs.Refusals.{outcome}
use Rattle.paper.specs.Writing.{fitting, over}
use Rattle.paper.specs.declared.refusal.Refusal.{Refusal}
use Rattle.wire.specs.Request.{kind_of}
use Rattle.wire.specs.declared.request.Request.{Request}
use Rattle.session.specs.Session.{fresh, sending, accepted, ended}
use Rattle.session.specs.declared.Session.{Session}
use Rattle.session.specs.declared.Sent.{Sent}

-- `Session::new`
pub record Begun (r : Session) : Type 0 where
  pub answer : r ≡ fresh

-- `Session::send`: the request is written, or refused with the output as it was
pub record RequestSent (s : Session) (time : ℕ) (q : Request) (payload was : List ℕ) (r : Result Sent Refusal) (is : List ℕ) : Type 0 where
  pub answer : outcome r
      ≡ mapped (λ xs. record { session = accepted time (kind_of q.0); bytes = length xs }) (fitting (length was) (sending s time q.0 payload))
  pub output : is ≡ if_given (fitting (length was) (sending s time q.0 payload)) (over was) was

-- `Session::reply_ended`
pub record ReplyEnded (s r : Session) : Type 0 where
  pub answer : r ≡ ended s
