-- `hold::join` meets its promise.
use native.Mathlib.Omega.{arith}
use Rattle.stream.proofs.inner.Hold.{joined}
use Rattle.stream.proofs.hold.join.Goals as goal

pub returns : goal.returns
returns c = rw c.requires.zeros (joined c.args.bytes.now c.args.more.now c.requires.fits _ _ _ (omega arith) c.copy_from_slice.ensures.after c.copy_from_slice-2.ensures.after)
