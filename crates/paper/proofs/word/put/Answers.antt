-- `paper::word::put` meets its promise.
use native.Mathlib.Omega.{arith}
use Rattle.paper.proofs.Placing.{put_part}
use Rattle.paper.proofs.Writing.{put_short, put_done}
use Rattle.paper.proofs.word.put.Goals as goal

pub returns-then-out-place : goal.returns-then-out-place
returns-then-out-place c = put_short _ _ _ (omega arith)

pub returns-then-out-place-2 : goal.returns-then-out-place-2
returns-then-out-place-2 c = put_short _ _ _ (omega arith)

pub returns : goal.returns
returns c = put_done _ _ _ _ (omega arith) (put_part _ _ _ _ _ (omega arith) c.copy.ensures)
