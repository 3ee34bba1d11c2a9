-- `scantext::line::put_stop` meets its contract.
use mathlib.Core.Logic.{inl, inr}
use Rattle.text.proofs.Pieces.{added_none, added_first, added_is}
use Rattle.scantext.specs.Lines.{stop_line}
use Rattle.scantext.proofs.line.put_stop.Goals as goal

pub returns-in-AllTaken : goal.returns-in-AllTaken
unfolding stop_line
returns-in-AllTaken c = added_is (added_none _) (elim c.in-AllTaken.is [ inl e ↦ rw e | inr e ↦ rw e ])

pub returns-in-Descriptor : goal.returns-in-Descriptor
unfolding stop_line
returns-in-Descriptor c = added_is (added_first c.bytes.ensures) (rw c.in-Descriptor.is)

pub returns-in-Reply : goal.returns-in-Reply
unfolding stop_line
returns-in-Reply c = added_is c.put_reply.ensures (rw (c.in-Reply.is, c.reply_bytes.ensures.0))

pub returns-in-BadHealth : goal.returns-in-BadHealth
unfolding stop_line
returns-in-BadHealth c = added_is (added_first c.bytes-in-BadHealth.ensures) (rw c.in-BadHealth.is)
