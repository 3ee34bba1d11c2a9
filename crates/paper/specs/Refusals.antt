-- The number that each refusal carries, and what a Result means.
use Rattle.std.specs.Prelude.{ℕ, Result, Ok, Err}
use Rattle.paper.specs.Outcome.{Outcome, gives, refuses}
use Rattle.paper.specs.declared.refusal.Refusal.{Refusal}
use Rattle.paper.specs.declared.refusal.Refusal.TheVariants.{
  CodeNotPermitted,
  OutputShort,
  TimeEarlier,
  WaitNotOver,
  ReplyAwaited,
  NotADescriptor,
  NotAReply,
  NotASample,
  NotARecord,
  NotARing,
  HeadOver,
  NoSuchNumber,
  NoSampleSent,
}

-- the paper's table
unfoldable pub number_of : Refusal → ℕ
number_of CodeNotPermitted = 1
number_of OutputShort = 2
number_of TimeEarlier = 3
number_of WaitNotOver = 4
number_of ReplyAwaited = 5
number_of NotADescriptor = 6
number_of NotAReply = 7
number_of NotASample = 8
number_of NotARecord = 9
number_of NotARing = 10
number_of HeadOver = 11
number_of NoSuchNumber = 12
number_of NoSampleSent = 13

-- a Result gives a value, or carries a refusal's number
unfoldable pub outcome : {A : Type 0} → Result A Refusal → Outcome A
outcome (Ok a) = gives a
outcome (Err r) = refuses (number_of r)
