-- `wire::reply::Info::write` meets its promise.
use mathlib.Core.Path.{refl}
use Rattle.paper.proofs.Writing.{writes_yes}
use Rattle.wire.specs.Reply.{bytes_of_info}
use Rattle.wire.proofs.reply.Info.write.Goals as goal

pub returns : goal.returns
unfolding bytes_of_info
returns c = writes_yes refl refl c.write_both.ensures
