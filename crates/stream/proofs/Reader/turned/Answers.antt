-- `Reader::turned` meets its promise.
use mathlib.Core.Path.{◌∙◌}
use Rattle.stream.specs.State.{written}
use Rattle.stream.specs.inner.Hold.{holding}
use Rattle.stream.proofs.Reader.turned.Goals as goal

pub returns : goal.returns
unfolding holding written
returns c = c.empty.ensures ∙ rw (c.more_skipped.ensures, c.bytes_held-held.ensures)
