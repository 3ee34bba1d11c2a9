-- `seek::answer` meets its promise.
use mathlib.Core.Path.{◌∙◌}
use Rattle.stream.specs.inner.Seek.{seek_answer}
use Rattle.stream.proofs.inner.Joint.{to_end}
use Rattle.stream.proofs.seek.answer.Goals as goal

pub returns-in-Ok : goal.returns-in-Ok
unfolding seek_answer
returns-in-Ok c = c.stopping.ensures ∙ rw (c.in-Ok.is, c.empty-found.ensures, c.more_skipped.ensures)

pub returns-in-Err : goal.returns-in-Err
unfolding seek_answer
returns-in-Err c = c.stopping-in-Err.ensures ∙ rw (c.in-Err.is, c.holding-rest.ensures, to_end, c.more_skipped-skipped.ensures)
