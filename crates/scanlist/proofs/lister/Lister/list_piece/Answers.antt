use Rattle.std.proofs.Common.{◌≤◌, length, arith}
use Rattle.std.proofs.lemmas.Bool.Decides.{nat_tests}
use Rattle.scantext.proofs.Going.{going_start, going_end}
use Rattle.scanlist.proofs.lister.Lister.list_piece.Goals as goal

pub returns : goal.returns
returns c =
    let none : length c.loop-rest.rest.now ≤ 0 = grind (arith, nat_tests) in
    c.loop-rest.invariant _ (going_end (going_start _ _) none)
