-- `Reader::bytes_held` meets its promise.
use mathlib.Core.Path.{◌≡◌}
use Prim.Native.Nat.{◌-◌, min}
use native.Mathlib.Omega.{arith}
use Rattle.stream.specs.Table.{width}
use Rattle.stream.specs.State.{held_of}
use Rattle.stream.proofs.Table.{width_pos, width_most}
use Rattle.stream.proofs.Reader.bytes_held.Goals as goal

pub overflow_sub-wide : goal.overflow_sub-wide
overflow_sub-wide c = omega (arith, width_pos c.args.self.now.phase)

pub shared_ref_as_front-result : goal.shared_ref_as_front-result
shared_ref_as_front-result c = omega (arith, width_most c.args.self.now.phase)

pub returns : goal.returns
unfolding held_of
returns c = let s = c.args.self.now in let e : c.min-h.result ≡ min s.n (width s.phase - 1) = omega arith in rw e
