-- `host::number::next_number` meets its promise.
use native.Mathlib.Omega.{arith}
use Rattle.std.proofs.lemmas.Result.{err_from_is_err_and}
use Rattle.ring.specs.Ring.{slots}
use Rattle.host.proofs.Numbers.{number_refused, number_first, number_unread, number_next}
use Rattle.host.proofs.number.next_number.Goals as goal

pub returns-in_err-n : goal.returns-in_err-n
returns-in_err-n c =
    let p = err_from_is_err_and c.from_residual.result c.from_residual.ensures.1 in
    rw (p.1, p.2) (number_refused slots _ c.in_err-n.ensures)

pub returns-then-n-eq0 : goal.returns-then-n-eq0
returns-then-n-eq0 c = number_first slots _ _ c.in_ok-n.ensures c.if-n-eq0.true

pub returns-in_err-newest : goal.returns-in_err-newest
returns-in_err-newest c =
    let p = err_from_is_err_and c.from_residual-in_err-newest.result c.from_residual-in_err-newest.ensures.1 in
    rw (p.1, p.2) (number_unread slots _ _ _ (omega arith) c.in_ok-n.ensures c.turn.ensures c.in_err-newest.ensures)

pub returns : goal.returns
returns c = number_next slots _ _ _ (omega arith) (omega arith) c.in_ok-n.ensures c.turn.ensures c.in_ok-newest.ensures
