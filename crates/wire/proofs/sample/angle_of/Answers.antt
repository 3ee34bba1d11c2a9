-- `wire::sample::angle_of` meets its promise.
use Rattle.wire.specs.Sample.{angle_in}
use Rattle.wire.proofs.sample.angle_of.Goals as goal

pub returns : goal.returns
unfolding angle_in
returns c = rw (c.from.ensures, c.from-2.ensures)
