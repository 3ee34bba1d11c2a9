-- `wire::reply::Health::read` meets its promise.
use Rattle.wire.proofs.Replies.{health_no, health_yes, not_three, status_over, status_fit, its_values}
use Rattle.wire.proofs.reply.Health.read.Goals as goal

pub returns-then-bytes-ne-BYTES : goal.returns-then-bytes-ne-BYTES
returns-then-bytes-ne-BYTES c = health_no _ (not_three _ c.if-bytes-ne-BYTES.true)

pub returns-then-status-gt-ERROR : goal.returns-then-status-gt-ERROR
returns-then-status-gt-ERROR c = health_no _ (status_over _ c.if-bytes-ne-BYTES.false c.if-status-gt-ERROR.true)

pub returns : goal.returns
returns c = health_yes _ _ (status_fit _ c.if-bytes-ne-BYTES.false c.if-status-gt-ERROR.false) (its_values _ _ c.word16.ensures.answer)
