-- `reply::is_bad` meets its promise.
use mathlib.Core.Path.{◌∙◌}
use borrow.Author.Tests.{ne_eqb}
use Rattle.stream.proofs.inner.Reply.{bad_other, bad_health_of}
use Rattle.stream.proofs.reply.is_bad.Goals as goal

pub returns-then-need-eq-BYTES : goal.returns-then-need-eq-BYTES
returns-then-need-eq-BYTES c = c.is_err.ensures.value ∙ bad_health_of _ c.args.joint.now _ c.if-need-eq-BYTES.true c.read.ensures

pub returns-else-need-eq-BYTES : goal.returns-else-need-eq-BYTES
returns-else-need-eq-BYTES c = rw (ne_eqb _ _ c.if-need-eq-BYTES.false) (bad_other _ c.args.joint.now c.if-need-eq-BYTES.false)
