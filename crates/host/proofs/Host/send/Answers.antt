-- `host::Host::send` meets its promise.
use Rattle.std.proofs.lemmas.Result.{err_from_is_err_and}
use Rattle.host.proofs.Answers.{asks_no, asks_yes}
use Rattle.host.proofs.Host.send.Goals as goal

pub returns-in_err-sent : goal.returns-in_err-sent
returns-in_err-sent c =
    let p = err_from_is_err_and c.from_residual.result c.from_residual.ensures.1 in
    rw (p.1, p.2) (asks_no c.in_err-sent.ensures)

pub returns : goal.returns
returns c = asks_yes c.in_ok-sent.ensures c.tell.ensures c.unwrap_or-told.ensures c.request-dropped.ensures
