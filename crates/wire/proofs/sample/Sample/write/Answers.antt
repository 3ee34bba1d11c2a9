-- `wire::sample::Sample::write` meets its promise.
use mathlib.Core.Path.{refl}
use native.Mathlib.Omega.{arith}
use Rattle.paper.proofs.Writing.{writes_no, writes_yes}
use Rattle.wire.proofs.Samples.{quality_small, angle_small, bytes_unfit, bytes_fit, five}
use Rattle.std.proofs.Common.{ap, not}
use Rattle.wire.proofs.sample.Sample.write.Goals as goal

pub returns-then-not-fits : goal.returns-then-not-fits
returns-then-not-fits c = writes_no (bytes_unfit c.args.self c.fits.ensures c.from.ensures (ap not c.if-not-fits.true))

pub first_byte-requires : goal.first_byte-requires
first_byte-requires c = let m = c.args.self in
    omega (arith, quality_small m c.fits.ensures c.from.ensures (ap not c.if-not-fits.false), c.from.ensures)

pub overflow_cast-bytes-2 : goal.overflow_cast-bytes-2
overflow_cast-bytes-2 c = let m = c.args.self in
    omega (arith, angle_small m c.fits.ensures c.from.ensures (ap not c.if-not-fits.false))

pub returns : goal.returns
returns c = let m = c.args.self in
    writes_yes (bytes_fit m c.fits.ensures c.from.ensures (ap not c.if-not-fits.false))
    (five m c.first_byte.ensures refl refl c.bytes16-d.ensures.answer)
    c.write.ensures
