-- `hold::more_skipped` meets its promise.
use mathlib.Core.Path.{◌≡◌}
use Prim.Native.Nat.{ℕ, ◌<◌, min}
use native.Mathlib.Omega.{arith}
use Rattle.std.specs.Prelude.{Result, Ok, Err}
use Rattle.std.specs.Result.{OkIff, result_unwrap_or}
use Rattle.stream.specs.State.{capped}
use Rattle.stream.proofs.hold.more_skipped.Goals as goal

-- a count in 32 bits, or their largest
narrow : {E : Type 0} (r : Result ℕ E) (n : ℕ) → OkIff r (n < 4294967296) n → result_unwrap_or r 4294967295 ≡ min n 4294967295
narrow (Ok x) n h = omega (arith, h.0, h.1)
narrow (Err e) n h = omega (arith, h)

pub returns : goal.returns
unfolding capped
returns c = omega (arith, c.unwrap_or.ensures, narrow c.try_from.result c.args.n c.try_from.ensures)
