-- `wire::reply::Health::write` meets its promise.
use Rattle.paper.proofs.Writing.{writes_no, writes_yes}
use Rattle.wire.proofs.Replies.{health_unfit, health_fit, status_and_code}
use Rattle.wire.proofs.reply.Health.write.Goals as goal

pub returns-then-status-gt-ERROR : goal.returns-then-status-gt-ERROR
returns-then-status-gt-ERROR c = writes_no (health_unfit _ c.if-status-gt-ERROR.true)

pub returns : goal.returns
returns c = writes_yes (health_fit _ c.if-status-gt-ERROR.false) (status_and_code _ _ c.bytes16-code.ensures.answer) c.write.ensures
