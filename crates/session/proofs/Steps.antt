-- A list of acts taken one after the other by a session: `rules_of_steps` and `steps_of_rules` say that they are allowed exactly where they keep the rules.
use Prim.Native.Nat.{ℕ, ◌+◌, ◌≤◌}
use mathlib.Core.Path.{◌≡◌, refl, ap}
use mathlib.Core.Bool.{true, false, not}
use mathlib.Core.List.{List, [], ◌∷◌, ◌++◌}
use native.Mathlib.Omega.{arith}
use borrow.Author.Tests.{not-false}
use Rattle.paper.specs.Words.{Each}
use Rattle.wire.specs.declared.request.Kind.{Kind}
use Rattle.session.specs.Session.{fresh, of_the_six, held_back, halts, ended, accepted}
use Rattle.session.specs.History.{Act, sent, told, OfTheSix, From, KeepsWaits, ReplyEndsFirst, KeepsReply, KeepsRules, KeepsFrom}
use Rattle.session.specs.Promises.{Begun}
use Rattle.session.specs.declared.Awaited.{Awaited}
use Rattle.session.specs.declared.Awaited.TheVariants.{Nothing, Reply}
use Rattle.session.specs.declared.Session.{Session}

-- the session after an act, and after all acts of a list
unfoldable pub step : Session → Act → Session
step s (sent time k) = accepted time k
step s told = ended s

unfoldable pub steps : Session → List Act → Session
steps s [] = s
steps s (a ∷ acts) = steps (step s a) acts

-- a session takes an act, and one after the other all acts of a list
unfoldable pub Takes : Session → Act → Type 0
Takes s (sent time k) = (of_the_six k ≡ true) × (s.last + s.wait ≤ time) × (held_back s.awaited k ≡ false)
Takes s told = Unit {0}

unfoldable pub TakesAll : Session → List Act → Type 0
TakesAll s [] = Unit {0}
TakesAll s (a ∷ acts) = Takes s a × TakesAll (step s a) acts

-- ---- the parts

pub nothing_reply : Nothing ≡ Reply → ⊥
nothing_reply e = cc

halting : (a : Awaited) (k : Kind) → held_back a k ≡ false → a ≡ Reply → halts k ≡ true
unfolding held_back
halting Nothing k h e = absurd (nothing_reply e)
halting Reply k h e = not-false (halts k) h

not_held : (a : Awaited) (k : Kind) → (a ≡ Reply → halts k ≡ true) → held_back a k ≡ false
unfolding held_back
not_held Nothing k f = refl
not_held Reply k f = ap not (f refl)

from_sooner : (m n : ℕ) → m ≤ n → (acts : List Act) → Each (From n) acts → Each (From m) acts
unfolding Each From
from_sooner m n h [] f = tt
from_sooner m n h (sent time k ∷ acts) f = let l = f.0 in (omega arith, from_sooner m n h acts f.1)
from_sooner m n h (told ∷ acts) f = (tt, from_sooner m n h acts f.1)

from_start : (acts : List Act) → Each (From 0) acts
unfolding Each From
from_start [] = tt
from_start (sent time k ∷ acts) = (omega arith, from_start acts)
from_start (told ∷ acts) = (tt, from_start acts)

-- ---- the steps and the rules

pub rules_of_steps : (s : Session) (acts : List Act) → TakesAll s acts → KeepsFrom s acts
unfolding Each From OfTheSix KeepsWaits ReplyEndsFirst KeepsReply Takes TakesAll step accepted ended
rules_of_steps s [] f = record { since = tt; next = λ e. tt; rules = record { six = tt; waits = tt; reply = tt } }
rules_of_steps s (sent time k ∷ acts) f =
    let i = rules_of_steps (accepted time k) acts f.1 in
    let l = f.0.1 in
    record {
      since = (l, from_sooner _ _ (omega arith) acts i.since);
      next = halting s.awaited k f.0.2;
      rules = record { six = (f.0.0, i.rules.six); waits = (i.since, i.rules.waits); reply = (i.next, i.rules.reply) };
    }
rules_of_steps s (told ∷ acts) f =
    let i = rules_of_steps (ended s) acts f.1 in
    record { since = (tt, i.since); next = λ e. tt; rules = record { six = (tt, i.rules.six); waits = i.rules.waits; reply = i.rules.reply } }

pub steps_of_rules : (s : Session) (acts : List Act) → KeepsFrom s acts → TakesAll s acts
unfolding Each From OfTheSix KeepsWaits ReplyEndsFirst KeepsReply Takes TakesAll step accepted ended
steps_of_rules s [] f = tt
steps_of_rules s (sent time k ∷ acts) f = (
  (f.rules.six.0, f.since.0, not_held s.awaited k f.next),
  steps_of_rules (accepted time k) acts record {
    since = f.rules.waits.0;
    next = f.rules.reply.0;
    rules = record { six = f.rules.six.1; waits = f.rules.waits.1; reply = f.rules.reply.1 };
  },
)
steps_of_rules s (told ∷ acts) f = (
  tt,
  steps_of_rules (ended s) acts record {
    since = f.since.1;
    next = λ e. absurd (nothing_reply e);
    rules = record { six = f.rules.six.1; waits = f.rules.waits; reply = f.rules.reply };
  },
)

fresh_from : (acts : List Act) → KeepsRules acts → KeepsFrom fresh acts
unfolding fresh
fresh_from acts f = record { since = from_start acts; next = λ e. absurd (nothing_reply e); rules = f }

-- a fresh session asks nothing more than the rules
pub fresh_keeps : {s : Session} {acts : List Act} → Begun s → KeepsRules acts → KeepsFrom s acts
fresh_keeps {acts = acts} b f = rw b.answer (fresh_from acts f)

pub takes_last : (s : Session) (acts : List Act) (a : Act) → TakesAll s (acts ++ a ∷ []) → Takes (steps s acts) a
unfolding TakesAll steps
takes_last s [] a f = f.0
takes_last s (b ∷ acts) a f = takes_last (step s b) acts a f.1
