-- `reply::idle` meets its promise.
use mathlib.Core.Path.{◌∙◌}
use Rattle.stream.proofs.inner.Reply.{idle_reads}
use Rattle.stream.proofs.reply.idle.Goals as goal

pub returns : goal.returns
returns c = λ ws. idle_reads c.args.reader.now c.requires (c.stopping.ensures ∙ rw (c.empty.ensures, c.more_skipped-skipped.ensures))
