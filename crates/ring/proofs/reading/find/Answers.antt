-- `ring::reading::find` meets its contract.
use Rattle.std.proofs.Common.{arith}
use Rattle.std.proofs.lemmas.Result.{err_from_is_err_and}
use Rattle.ring.specs.Ring.{slots}
use Rattle.ring.proofs.Promised.{find_record}
use Rattle.ring.proofs.reading.find.Goals as goal

pub returns-in_err-check : goal.returns-in_err-check
returns-in_err-check c =
    let p = err_from_is_err_and c.from_residual-in_err-check.result c.from_residual-in_err-check.ensures.1 in
    rw (p.1, p.2) (find_record slots _ _ c.in_ok-turns.turns.ring c.in_ok-turns.ensures _ _ c.in_err-check.ensures _ c.turn-turn.ensures.bytes (omega arith))
