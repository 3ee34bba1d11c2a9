-- `wire::sample::Sample::read` meets its promise.
use native.Mathlib.Omega.{arith}
use lib.Seq.{take_all}
use Rattle.wire.proofs.Samples.{sample_no, not_five}
use Rattle.wire.proofs.sample.Sample.read.Goals as goal

pub returns-then-bytes-ne-BYTES : goal.returns-then-bytes-ne-BYTES
returns-then-bytes-ne-BYTES c = sample_no _ (not_five _ c.if-bytes-ne-BYTES.true)

pub returns : goal.returns
returns c = let xs = c.args.bytes.now in
    rw (take_all 5 xs (omega arith)) at c.front.ensures
