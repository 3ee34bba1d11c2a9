-- Histories of a session: the rules over the list of what was accepted, and the calls that lead to such a list.
use Rattle.std.specs.Prelude.{ℕ, ◌+◌, ◌≤◌, ◌≡◌, true, List, [], ◌∷◌, Result, Ok, Err}
use Rattle.paper.specs.Words.{Each}
use Rattle.paper.specs.declared.refusal.Refusal.{Refusal}
use Rattle.wire.specs.Request.{kind_of}
use Rattle.wire.specs.declared.request.Kind.{Kind}
use Rattle.wire.specs.declared.request.Request.{Request}
use Rattle.session.specs.Session.{of_the_six, wait_after, awaited_after, halts, after}
use Rattle.session.specs.Promises.{RequestSent, ReplyEnded}
use Rattle.session.specs.declared.Awaited.TheVariants.{Reply}
use Rattle.session.specs.declared.Session.{Session}
use Rattle.session.specs.declared.Sent.{Sent}

-- what stands in a list, the earliest first: a request was accepted at a time, or the session was told that the reply has ended
pub data Act : Type 0 where
  sent : ℕ → Kind → Act
  told : Act

-- a session sends only these six
unfoldable pub OfTheSix : Act → Type 0
OfTheSix (sent time k) = of_the_six k ≡ true
OfTheSix told = Unit {0}

-- a request comes at a time or later
unfoldable pub From : ℕ → Act → Type 0
From time (sent t k) = time ≤ t
From time told = Unit {0}

-- no request comes at an earlier time than one before it, nor until the wait after that one is over
unfoldable pub KeepsWaits : List Act → Type 0
KeepsWaits [] = Unit {0}
KeepsWaits (sent time k ∷ acts) = Each (From (time + wait_after k)) acts × KeepsWaits acts
KeepsWaits (told ∷ acts) = KeepsWaits acts

-- the next thing, if there is one, is that the session is told, or STOP or RESET
unfoldable pub ReplyEndsFirst : List Act → Type 0
ReplyEndsFirst [] = Unit {0}
ReplyEndsFirst (sent time k ∷ acts) = halts k ≡ true
ReplyEndsFirst (told ∷ acts) = Unit {0}

-- after GET_INFO and GET_HEALTH no other request comes before the reply is ended
unfoldable pub KeepsReply : List Act → Type 0
KeepsReply [] = Unit {0}
KeepsReply (sent time k ∷ acts) = (awaited_after k ≡ Reply → ReplyEndsFirst acts) × KeepsReply acts
KeepsReply (told ∷ acts) = KeepsReply acts

-- the rules, over the list alone
pub record KeepsRules (acts : List Act) : Type 0 where
  pub six : Each OfTheSix acts
  pub waits : KeepsWaits acts
  pub reply : KeepsReply acts

-- the rules from a session on: its wait is kept, and a reply that it awaits; a fresh session has neither
pub record KeepsFrom (s : Session) (acts : List Act) : Type 0 where
  pub since : Each (From (s.last + s.wait)) acts
  pub next : s.awaited ≡ Reply → ReplyEndsFirst acts
  pub rules : KeepsRules acts

-- The calls that led from a session to another, each as its promise says, and the list of what was accepted; a refused sending is not in it.
pub data Led : Session → List Act → Session → Type 0 where
  none : {s : Session} → Led s [] s
  accepting : {s t : Session} {time : ℕ} {q : Request} {payload was is : List ℕ} {r : Result Sent Refusal} {x : Sent} {acts : List Act}
      → RequestSent s time q payload was r is → r ≡ Ok x → Led (after s r) acts t → Led s (sent time (kind_of q.0) ∷ acts) t
  refusing : {s t : Session} {time : ℕ} {a : Refusal} {q : Request} {payload was is : List ℕ} {r : Result Sent Refusal} {acts : List Act}
      → RequestSent s time q payload was r is → r ≡ Err a → Led (after s r) acts t → Led s acts t
  telling : {s u t : Session} {acts : List Act} → ReplyEnded s u → Led u acts t → Led s (told ∷ acts) t
