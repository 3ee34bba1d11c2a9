-- `host::Host::new` meets its promise.
use Rattle.host.specs.Host.{fresh}
use Rattle.host.proofs.Host.new.Goals as goal

pub returns : goal.returns
unfolding fresh
returns c = record { answer = rw (c.new.ensures.answer, c.new-2.ensures.answer, c.new-3.ensures.answer) }
