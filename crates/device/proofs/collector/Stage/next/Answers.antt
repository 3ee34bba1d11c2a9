-- `device::collector::Stage::next` meets its promise: the other goals unfold to it.
use Rattle.std.proofs.Common.{rules}
use Rattle.device.proofs.Collecting.{payload_stepped}
use Rattle.device.proofs.collector.Stage.next.Goals as goal

pub returns-in-Sized : goal.returns-in-Sized
returns-in-Sized c = payload_stepped _ _ _ _ _ _ c.in-Sized.is (search rules) c.if-count-size.true (search rules)
