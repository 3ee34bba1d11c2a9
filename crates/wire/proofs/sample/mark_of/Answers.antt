-- `wire::sample::mark_of` meets its promise.
use Prim.Native.Nat.{ℕ, ◌+◌, ◌*◌}
use mathlib.Core.Path.{◌≡◌, refl}
use mathlib.Core.Bool.{Bool, true, false}
use mir.Val.{bool_byte}
use Rattle.wire.specs.Sample.{mark}
use Rattle.wire.proofs.sample.mark_of.Goals as goal

one_more : (t : Bool) (q : ℕ) → q * 2 + bool_byte t ≡ mark t q
unfolding mark
one_more true q = refl
one_more false q = refl

pub returns : goal.returns
returns c = rw (c.from-2.ensures, c.from.ensures) (one_more c.args.start c.args.quality)
