-- `paper::word::word32` meets its promise.
use native.Mathlib.Omega.{arith}
use Rattle.paper.specs.Words.{value_of}
use Rattle.paper.proofs.word.word32.Goals as goal

pub returns : goal.returns
unfolding value_of
returns c = record { answer = omega arith }
