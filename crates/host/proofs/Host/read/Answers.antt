-- `host::Host::read` meets its promise.
use Rattle.host.proofs.Answers.{hears}
use Rattle.host.proofs.Host.read.Goals as goal

pub returns : goal.returns
returns c = hears c.read-reading.ensures c.waited.ensures c.kept-serial.ensures
