-- A session: what the host may send, and when.
use Rattle.std.specs.Prelude.{ℕ, ◌-◌, Bool, true, false, not, ◌&&◌, List, ltb, eqb, length, Result, Ok, Err}
use Rattle.paper.specs.Outcome.{Outcome, refuse_if}
use Rattle.paper.specs.Refusals.{number_of}
use Rattle.paper.specs.declared.refusal.Refusal.{Refusal}
use Rattle.paper.specs.declared.refusal.Refusal.TheVariants.{CodeNotPermitted, TimeEarlier, WaitNotOver, ReplyAwaited}
use Rattle.wire.specs.Request.{kind_of, request_of, stop_wait, reset_wait}
use Rattle.wire.specs.declared.request.Kind.{Kind}
use Rattle.wire.specs.declared.request.Kind.TheVariants.{Stop, Reset, Scan, ForceScan, GetInfo, GetHealth, Other}
use Rattle.session.specs.declared.Awaited.{Awaited}
use Rattle.session.specs.declared.Awaited.TheVariants.{Nothing, Reply}
use Rattle.session.specs.declared.Session.{Session}
use Rattle.session.specs.declared.Sent.{Sent}

-- a fresh session: no time accepted yet, no wait, nothing awaited
unfoldable pub fresh : Session
fresh = record { last = 0; wait = 0; awaited = Nothing }

-- a session sends only these six ..
unfoldable pub of_the_six : Kind → Bool
of_the_six Stop = true
of_the_six Reset = true
of_the_six Scan = true
of_the_six ForceScan = true
of_the_six GetInfo = true
of_the_six GetHealth = true
of_the_six Other = false

-- .. and they carry no payload: one of n bytes is permitted where n is 0
unfoldable pub permitted : Kind → ℕ → Bool
permitted k n = of_the_six k && eqb n 0

-- after STOP, and after RESET, the next request is sent so many milliseconds later or more
unfoldable pub wait_after : Kind → ℕ
wait_after Stop = stop_wait
wait_after Reset = reset_wait
wait_after Scan = 0
wait_after ForceScan = 0
wait_after GetInfo = 0
wait_after GetHealth = 0
wait_after Other = 0

-- GET_INFO and GET_HEALTH are awaited
unfoldable pub awaited_after : Kind → Awaited
awaited_after Stop = Nothing
awaited_after Reset = Nothing
awaited_after Scan = Nothing
awaited_after ForceScan = Nothing
awaited_after GetInfo = Reply
awaited_after GetHealth = Reply
awaited_after Other = Nothing

-- until the session is told that the reply has ended, ..
unfoldable pub ended : Session → Session
ended s = record { last = s.last; wait = s.wait; awaited = Nothing }

-- .. or until a STOP or RESET is sent
unfoldable pub halts : Kind → Bool
halts Stop = true
halts Reset = true
halts Scan = false
halts ForceScan = false
halts GetInfo = false
halts GetHealth = false
halts Other = false

-- a single reply is awaited and the request is not STOP or RESET
unfoldable pub held_back : Awaited → Kind → Bool
held_back Nothing k = false
held_back Reply k = not (halts k)

-- order of checks of a request in a session: 3, 1, 4, 5, and then 2, which is the writer's
unfoldable pub in_order : {A : Type 0} → Session → ℕ → Kind → ℕ → Outcome A → Outcome A
in_order s time k n next =
    refuse_if (ltb time s.last) (number_of TimeEarlier)
    (refuse_if (not (permitted k n)) (number_of CodeNotPermitted)
    (refuse_if (ltb (time - s.last) s.wait) (number_of WaitNotOver)
    (refuse_if (held_back s.awaited k) (number_of ReplyAwaited)
    next)))

-- the bytes that a session sends: those of the request
unfoldable pub sending : Session → ℕ → ℕ → List ℕ → Outcome (List ℕ)
sending s time code payload = in_order s time (kind_of code) (length payload) (request_of code payload)

-- the session once a request is accepted
unfoldable pub accepted : ℕ → Kind → Session
accepted time k = record { last = time; wait = wait_after k; awaited = awaited_after k }

-- the session behind a sending: the answer's, and the very one where it is refused
unfoldable pub after : Session → Result Sent Refusal → Session
after s (Ok r) = r.session
after s (Err q) = s
