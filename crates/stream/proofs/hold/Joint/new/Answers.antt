-- `hold::Joint::new` meets its promise.
use mathlib.Core.Path.{◌≡◌}
use native.Mathlib.Omega.{arith}
use lib.ListN.{length, take}
use lib.Seq.{length-take-le}
use Rattle.stream.proofs.Table.{width_pos}
use Rattle.stream.proofs.inner.Joint.{join_fits, joined_by}
use Rattle.stream.proofs.hold.Joint.new.Goals as goal

pub overflow_sub-wide : goal.overflow_sub-wide
overflow_sub-wide c = omega (arith, width_pos c.args.reader.now.phase)

pub join-requires-clause-fits : goal.join-requires-clause-fits
join-requires-clause-fits c = join_fits c.args.reader.now c.args.input.now c.requires.0 c.requires.1 c.bytes_held-held.ensures c.min-m.ensures

pub returns-clause-within : goal.returns-clause-within
returns-clause-within c = let m : length (take c.min-m.result c.args.input.now) ≡ c.min-m.result = length-take-le _ _ (omega arith) in
    omega (arith, join_fits c.args.reader.now c.args.input.now c.requires.0 c.requires.1 c.bytes_held-held.ensures c.min-m.ensures)

pub returns-clause-joined : goal.returns-clause-joined
returns-clause-joined c = joined_by c.args.reader.now c.args.input.now c.requires.0 c.requires.1 c.bytes_held-held.ensures c.min-m.ensures c.join.ensures
