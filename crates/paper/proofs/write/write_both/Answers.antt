-- `paper::write::write_both` meets its promise.
use mathlib.Core.Path.{ap, ◌∙◌}
use mathlib.Core.List.{◌++◌}
use native.Mathlib.Omega.{arith}
use lib.ListN.{length, drop, length-append}
use Rattle.paper.specs.Writing.{over}
use Rattle.paper.specs.Promises.{put_at}
use Rattle.paper.proofs.Placing.{put_part}
use Rattle.paper.proofs.Writing.{writes_short, both_written}
use Rattle.paper.proofs.write.write_both.Goals as goal

pub returns-then-out-at : goal.returns-then-out-at
returns-then-out-at c = writes_short _ _ (simp length-append (omega arith))

pub returns-then-out-at-2 : goal.returns-then-out-at-2
returns-then-out-at-2 c = writes_short _ _ (simp length-append (omega arith))

pub returns : goal.returns
unfolding over
returns c =
    both_written _ _ _ _ (omega arith)
    (put_part _ _ _ _ _ (omega arith) c.copy-2.ensures
    ∙ ap (λ xs. put_at (length c.args.head.now) c.args.tail.now (xs ++ drop (length c.args.head.now) c.args.out.now)) c.copy.ensures)
