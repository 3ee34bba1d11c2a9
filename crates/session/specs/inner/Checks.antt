-- What the private functions promise.
use Rattle.std.specs.Prelude.{ℕ, ◌≡◌, Result}
use Rattle.paper.specs.Outcome.{gives}
use Rattle.paper.specs.Refusals.{outcome}
use Rattle.paper.specs.declared.refusal.Refusal.{Refusal}
use Rattle.wire.specs.declared.request.Kind.{Kind}
use Rattle.session.specs.Session.{in_order, accepted}
use Rattle.session.specs.declared.Session.{Session}

-- `Session::check`: the checks but the last
pub record Checked (s : Session) (time : ℕ) (k : Kind) (n : ℕ) (r : Result (Unit {0}) Refusal) : Type 0 where
  pub answer : outcome r ≡ in_order s time k n (gives tt)

-- `accepted`
pub record Accepted (time : ℕ) (k : Kind) (r : Session) : Type 0 where
  pub answer : r ≡ accepted time k
