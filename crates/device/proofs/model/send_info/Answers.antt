-- `device::model::send_info` meets its promise.
use Rattle.std.proofs.Common.{rules}
use Rattle.wire.specs.Descriptor.{info_descriptor}
use Rattle.device.proofs.Models.{reply_sent, reply_refused, info_whole}
use Rattle.device.proofs.model.send_info.Goals as goal

pub returns-in_err-write : goal.returns-in_err-write
returns-in_err-write c = reply_refused _ _ _ (info_whole c.args.info (search rules)) c.in_err-write.ensures (search rules)

pub returns : goal.returns
unfolding info_descriptor
returns c = reply_sent _ _ _ _ (info_whole c.args.info (search rules)) c.in_ok-write.ensures c.write_both.ensures
