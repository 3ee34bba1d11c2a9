use Rattle.std.proofs.Common.{rules, ◌≡◌, replicate}
use Rattle.wire.specs.Reply.{blank}
use Rattle.bernkessel.specs.Reply.{info_out, info_read_out}
use Rattle.bernkessel.specs.Answers.{split}
use Rattle.bernkessel.proofs.Blanks.{zeros}
use Rattle.bernkessel.proofs.replies.BkInfoAnswerFromResultInfoRefusal.from.Goals as goal

pub returns : goal.returns
unfolding info_read_out info_out blank split
returns c = let z : c.default.result.serial ≡ replicate 16 0 = zeros _ 16 c.default.ensures.1.1.1.1 in search rules
