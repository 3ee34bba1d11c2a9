-- `wire::reply::Info::read` meets its promise.
use lib.Seq.{take_all}
use lib.ListN.{length-drop}
use native.Mathlib.Omega.{arith}
use mathlib.Core.Path.{◌∙◌}
use Rattle.wire.proofs.Replies.{info_no, info_yes, its_info}
use Rattle.wire.proofs.reply.Info.read.Goals as goal

pub returns-then-bytes-ne-BYTES : goal.returns-then-bytes-ne-BYTES
returns-then-bytes-ne-BYTES c = info_no _ c.if-bytes-ne-BYTES.true

pub returns : goal.returns
returns c = let xs = c.args.bytes.now in
    info_yes xs _ c.if-bytes-ne-BYTES.false (its_info xs _ (c.copy_from_slice.ensures.after ∙ take_all _ _ (simp length-drop (omega arith))))
