-- `device::model::send_health` meets its promise.
use Rattle.std.proofs.Common.{rules}
use Rattle.wire.specs.Descriptor.{health_descriptor}
use Rattle.device.proofs.Models.{reply_sent, reply_refused, health_whole}
use Rattle.device.proofs.model.send_health.Goals as goal

pub returns-in_err-write : goal.returns-in_err-write
returns-in_err-write c = reply_refused _ _ _ (health_whole _) c.in_err-write.ensures (search rules)

pub returns : goal.returns
unfolding health_descriptor
returns c = reply_sent _ _ _ _ (health_whole _) c.in_ok-write.ensures c.write_both.ensures
