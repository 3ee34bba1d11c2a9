-- `seek::search` meets its promise.
use Prim.Native.Nat.{ℕ, ◌+◌, ◌<◌}
use mathlib.Core.Path.{◌≡◌}
use lib.ListN.{get_or}
use Rattle.std.specs.Prelude.{None}
use Rattle.stream.specs.inner.Seek.{Sought}
use Rattle.stream.proofs.seek.search.Given as goal

abbrev pub invariant-loop-k : goal.invariant-loop-k
invariant-loop-k l = (l.found ≡ None) × (l.k < 7) × ((j : ℕ) → j < l.k → get_or l.part (l.at + j) 0 ≡ get_or l.head j 0)

abbrev pub invariant-places : goal.invariant-places
invariant-places l = (l.found ≡ None) × Sought l.head l.part l.from l.at
