-- `host::ready::make_ready` meets its promise.
use mathlib.Core.Path.{◌≡◌}
use lib.ListN.{length}
use native.Mathlib.Omega.{arith}
use Rattle.host.proofs.Answers.{made_ready}
use Rattle.host.proofs.ready.make_ready.Goals as goal

pub returns : goal.returns
returns c = let serial : length c.args.serial.now ≡ 16 = omega arith in
    let cells : length c.args.cells.now ≡ 360 = omega arith in
    let room : length c.args.rec.now ≡ 754 = omega arith in
    made_ready _ _ _ _ serial cells room c.write.ensures
