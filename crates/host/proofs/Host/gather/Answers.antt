-- `host::Host::gather` meets its promise.
use mathlib.Core.Path.{sym, ◌∙◌}
use Rattle.std.proofs.lemmas.Result.{err_from_is_err_and}
use Rattle.host.specs.Host.{record_for, ready}
use Rattle.host.proofs.Answers.{turns_no, turns_yes}
use Rattle.host.proofs.Host.gather.Goals as goal
use Rattle.host.proofs.Host.gather.Goals.{in-Some, in_default}

pub returns-in_err-taken : goal.returns-in_err-taken
returns-in_err-taken c =
    let p = err_from_is_err_and c.from_residual.result c.from_residual.ensures.1 in
    rw (p.1, p.2) (turns_no _ _ c.in_err-taken.ensures)

pub returns : goal.returns
unfolding ready record_for
returns c = elim c.match-turn.branch [
  | in-Some w ↦ rw (w.turn-is, sym w.in-Some.is) (turns_yes _ _ c.in_ok-taken.ensures (rw w.in-Some.is (w.rec-is ∙ w.make_ready.ensures)))
  | in_default w ↦ rw w.turn-is (turns_yes _ _ c.in_ok-taken.ensures (rw w.in_default.is w.rec-is))
]
