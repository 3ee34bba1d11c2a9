-- `paper::word::bytes16` meets its promise.
use Rattle.paper.specs.Words.{bytes_of}
use Rattle.paper.proofs.word.bytes16.Goals as goal

pub returns : goal.returns
unfolding bytes_of
returns c = record { answer = c.to_le_bytes.ensures }
