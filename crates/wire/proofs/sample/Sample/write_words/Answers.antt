-- `wire::sample::Sample::write_words` meets its promise.
use mathlib.Core.Path.{refl}
use Rattle.paper.proofs.Writing.{writes_no, writes_yes, writes_short, writes_all}
use Rattle.wire.specs.Sample.{words_of}
use Rattle.wire.proofs.Samples.{words_unfit, words_fit, three}
use Rattle.std.proofs.Common.{ap, not}
use Rattle.wire.proofs.sample.Sample.write_words.Goals as goal

pub returns-then-not-fits : goal.returns-then-not-fits
returns-then-not-fits c = writes_no (words_unfit c.args.self c.fits.ensures c.from.ensures (ap not c.if-not-fits.true))

pub returns-then-row-lt-WORDS : goal.returns-then-row-lt-WORDS
unfolding words_of
returns-then-row-lt-WORDS c = let m = c.args.self in
    writes_yes (words_fit m c.fits.ensures c.from.ensures (ap not c.if-not-fits.false)) refl (writes_short (words_of m) _ c.if-row-lt-WORDS.true)

pub returns : goal.returns
unfolding words_of
returns c = let m = c.args.self in
    writes_yes (words_fit m c.fits.ensures c.from.ensures (ap not c.if-not-fits.false)) refl (writes_all _ _ _ 3 c.if-row-lt-WORDS.false refl (three m _ _ c.if-row-lt-WORDS.false c.mark_of.ensures))
