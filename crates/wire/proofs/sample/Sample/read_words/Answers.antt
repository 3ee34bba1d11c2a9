-- `wire::sample::Sample::read_words` meets its promise.
use native.Mathlib.Omega.{arith}
use Rattle.wire.specs.Sample.{sample_from}
use Rattle.wire.proofs.Samples.{words_no, words_yes, words_not, words_are, words_small}
use Rattle.std.proofs.Common.{ap, not}
use Rattle.wire.proofs.sample.Sample.read_words.Goals as goal

pub returns-then-not-fits : goal.returns-then-not-fits
returns-then-not-fits c = words_no _ (words_not _ _ _ c.fits.ensures (ap not c.if-not-fits.true))

pub overflow_cast-result : goal.overflow_cast-result
overflow_cast-result c = omega (arith, words_small _ 0 _ c.fits.ensures (ap not c.if-not-fits.false))

pub returns : goal.returns
unfolding sample_from
returns c = let a = c.args in
    words_yes _ (words_are a.angle a.distance a.mark c.fits.ensures (ap not c.if-not-fits.false))
