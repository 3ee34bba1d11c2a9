-- `Reader::holding` meets its promise.
use mathlib.Core.List.{append-nil}
use Rattle.stream.specs.inner.Hold.{holding}
use Rattle.stream.proofs.Reader.holding.Goals as goal

pub returns : goal.returns
unfolding holding
returns c = rw (c.join.ensures, append-nil)
