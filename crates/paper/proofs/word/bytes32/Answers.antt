-- `paper::word::bytes32` meets its promise.
use mathlib.Core.Path.{◌≡◌}
use native.Mathlib.Omega.{arith}
use Prim.Native.Nat.{◌/◌}
use Rattle.paper.specs.Words.{bytes_of}
use Rattle.paper.proofs.word.bytes32.Goals as goal

pub returns : goal.returns
unfolding bytes_of
returns c =
    let two : c.args.v / 256 / 256 ≡ c.args.v / 65536 = omega arith in
    let three : c.args.v / 65536 / 256 ≡ c.args.v / 16777216 = omega arith in
    record { answer = rw (two, three) c.to_le_bytes.ensures }
