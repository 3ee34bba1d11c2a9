-- `wire::sample::first_byte` meets its promise.
use Rattle.wire.specs.Sample.{first_byte}
use Rattle.wire.proofs.sample.first_byte.Goals as goal

pub returns-then-start : goal.returns-then-start
unfolding first_byte
returns-then-start c = rw c.if-start.true

pub returns-else-start : goal.returns-else-start
unfolding first_byte
returns-else-start c = rw c.if-start.false
