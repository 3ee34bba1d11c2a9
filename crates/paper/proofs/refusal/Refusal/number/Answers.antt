-- `paper::refusal::Refusal::number` meets its promise.
-- the number of a case that was found
use mathlib.Core.Path.{◌≡◌, sym, ap}
use Rattle.paper.specs.Refusals.{number_of}
use Rattle.paper.specs.Promises.{NumberGiven}
use Rattle.paper.specs.declared.refusal.Refusal.{Refusal}
use Rattle.paper.proofs.refusal.Refusal.number.Goals as goal

is : {a b : Refusal} → a ≡ b → NumberGiven a (number_of b)
is e = record { answer = sym (ap number_of e) }

pub returns-in-CodeNotPermitted : goal.returns-in-CodeNotPermitted
unfolding number_of
returns-in-CodeNotPermitted c = is c.in-CodeNotPermitted.is

pub returns-in-OutputShort : goal.returns-in-OutputShort
unfolding number_of
returns-in-OutputShort c = is c.in-OutputShort.is

pub returns-in-TimeEarlier : goal.returns-in-TimeEarlier
unfolding number_of
returns-in-TimeEarlier c = is c.in-TimeEarlier.is

pub returns-in-WaitNotOver : goal.returns-in-WaitNotOver
unfolding number_of
returns-in-WaitNotOver c = is c.in-WaitNotOver.is

pub returns-in-ReplyAwaited : goal.returns-in-ReplyAwaited
unfolding number_of
returns-in-ReplyAwaited c = is c.in-ReplyAwaited.is

pub returns-in-NotADescriptor : goal.returns-in-NotADescriptor
unfolding number_of
returns-in-NotADescriptor c = is c.in-NotADescriptor.is

pub returns-in-NotAReply : goal.returns-in-NotAReply
unfolding number_of
returns-in-NotAReply c = is c.in-NotAReply.is

pub returns-in-NotASample : goal.returns-in-NotASample
unfolding number_of
returns-in-NotASample c = is c.in-NotASample.is

pub returns-in-NotARecord : goal.returns-in-NotARecord
unfolding number_of
returns-in-NotARecord c = is c.in-NotARecord.is

pub returns-in-NotARing : goal.returns-in-NotARing
unfolding number_of
returns-in-NotARing c = is c.in-NotARing.is

pub returns-in-HeadOver : goal.returns-in-HeadOver
unfolding number_of
returns-in-HeadOver c = is c.in-HeadOver.is

pub returns-in-NoSuchNumber : goal.returns-in-NoSuchNumber
unfolding number_of
returns-in-NoSuchNumber c = is c.in-NoSuchNumber.is

pub returns-in-NoSampleSent : goal.returns-in-NoSampleSent
unfolding number_of
returns-in-NoSampleSent c = is c.in-NoSampleSent.is
