-- `Reader::tell` meets its promise.
use Rattle.std.proofs.lemmas.Result.{err_from_is_err_and}
use Rattle.stream.proofs.inner.Tell.{tells_taken, tells_refused}
use Rattle.stream.proofs.Reader.tell.Goals as goal

pub returns-in_err-phase : goal.returns-in_err-phase
returns-in_err-phase c =
    let p = err_from_is_err_and c.from_residual.result c.from_residual.ensures.1 in
    rw (p.1, p.2) (tells_refused _ _ _ c.kind.ensures c.in_err-phase.ensures)

pub returns : goal.returns
returns c = tells_taken _ _ _ c.kind.ensures c.in_ok-phase.ensures c.turned.ensures
