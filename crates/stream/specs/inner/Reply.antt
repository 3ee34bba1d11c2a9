-- Replies, as code reads them.
use Rattle.std.specs.Prelude.{◌≡◌, Bool, true, false, cond, List, ℕ, ◌≤◌, eqb}
use Rattle.paper.specs.Outcome.{if_given}
use Rattle.framing.specs.Stages.{passes, spoiled}
use Rattle.wire.specs.Reply.{health_of}
use Rattle.stream.specs.declared.Phase.{Phase}
use Rattle.stream.specs.declared.Phase.TheVariants.{Idle}
use Rattle.stream.specs.Table.{Event, reply, bad_health, width, says, follows}

-- a reply of three bytes is a health reply, and may not read
unfoldable pub bad : ℕ → List ℕ → Bool
bad need w = cond (eqb need 3) (if_given (health_of w) (λ h. false) true) false

-- in phase p a reply of `need` bytes is awaited
pub record Awaits (p : Phase) (need : ℕ) : Type 0 where
  pub wide : width p ≡ need
  pub most : need ≤ 20
  pub reads : (w : List ℕ) → says p w ≡ cond (bad need w) (spoiled bad_health) (passes (reply w))
  pub idle : (e : Event) → follows p e ≡ Idle
