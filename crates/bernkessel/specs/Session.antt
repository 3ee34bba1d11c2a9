-- The C form of a session and of what it answers.
use Rattle.std.specs.Prelude.{ℕ, cond, eqb, Result, Ok, Err}
use Rattle.paper.specs.Refusals.{number_of}
use Rattle.paper.specs.declared.refusal.Refusal.{Refusal}
use Rattle.session.specs.declared.Awaited.{Awaited}
use Rattle.session.specs.declared.Awaited.TheVariants.{Nothing, Reply}
use Rattle.session.specs.declared.Session.{Session}
use Rattle.session.specs.declared.Sent.{Sent}
use Rattle.bernkessel.specs.declared.sessions.BkSession.{BkSession}
use Rattle.bernkessel.specs.declared.sessions.BkSent.{BkSent}

-- nothing is awaited where the byte is 0, and a reply for every other byte
unfoldable pub awaited_in : ℕ → Awaited
awaited_in b = cond (eqb b 0) Nothing Reply

unfoldable pub awaited_out : Awaited → ℕ
awaited_out Nothing = 0
awaited_out Reply = 1

unfoldable pub session_in : BkSession → Session
session_in c = record { last = c.last; wait = c.wait; awaited = awaited_in c.awaited }

unfoldable pub session_out : Session → BkSession
session_out s = record { last = s.last; wait = s.wait; awaited = awaited_out s.awaited }

-- a refusal gives back the very session
unfoldable pub sent_out : BkSession → Result Sent Refusal → BkSent
sent_out was (Ok r) = record { session = session_out r.session; written = record { bytes = r.bytes; refusal = 0 } }
sent_out was (Err q) = record { session = was; written = record { bytes = 0; refusal = number_of q } }
