-- `wire::sample::fits` meets its promise.
use Rattle.wire.proofs.Samples.{unfit_angle, fit_by}
use Rattle.wire.proofs.sample.fits.Goals as goal

pub returns-then-angle-ge-ANGLES : goal.returns-then-angle-ge-ANGLES
returns-then-angle-ge-ANGLES c = unfit_angle _ _ c.if-angle-ge-ANGLES.true

pub returns : goal.returns
returns c = fit_by _ _ c.if-angle-ge-ANGLES.false
