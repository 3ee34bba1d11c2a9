-- `reply::gather` meets its promise.
use mathlib.Core.Path.{◌≡◌, sym, ap, ◌∙◌}
use Prim.Native.Nat.{◌-◌, ◌≤◌}
use native.Mathlib.Omega.{arith}
use lib.ListN.{length, length-take, length-append}
use Rattle.stream.specs.Table.{width}
use Rattle.stream.specs.State.{held_of, twenty}
use Rattle.stream.specs.inner.Hold.{holding, stopping}
use Rattle.stream.proofs.Table.{width_most}
use Rattle.stream.proofs.inner.Promise.{held_few}
use Rattle.stream.proofs.inner.Reply.{reply_in, reply_short, reply_front, reply_good, reply_bad}
use Rattle.stream.proofs.reply.gather.Goals as goal

pub overflow_sub-rest : goal.overflow_sub-rest
overflow_sub-rest c = omega (arith, ap length c.bytes_held-held.ensures, held_few c.args.reader.now)

pub join-requires-2-clause-fits : goal.join-requires-2-clause-fits
join-requires-2-clause-fits c = simp length-take (omega (arith, width_most c.args.reader.now.phase, ap length c.bytes_held-held.ensures, held_few c.args.reader.now))

pub returns-then-input-rest : goal.returns-then-input-rest
unfolding holding
returns-then-input-rest c = λ ws. reply_short c.args.reader.now c.requires (omega arith) (omega (arith, ap length c.bytes_held-held.ensures)) (c.stopping.ensures ∙ rw (c.join.ensures, c.bytes_held-held.ensures, length-append))

pub returns-then-is_bad : goal.returns-then-is_bad
returns-then-is_bad c =
    let s = c.args.reader.now in
    let q : width s.phase - length (held_of s) ≤ length c.args.input.now = omega (arith, ap length c.bytes_held-held.ensures) in
    let j : c.join-2.new.joint ≡ twenty (reply_in s c.args.input.now) = c.join-2.ensures ∙ rw (c.wide-need.ensures, c.bytes_held-held.ensures) in
    let b = rw (c.wide-need.ensures, j, reply_front s c.args.input.now q) at c.is_bad.ensures in
    λ ws. reply_bad s c.requires (omega arith) q (sym b ∙ c.if-is_bad.true) (c.stopping-then-is_bad.ensures ∙ rw (c.empty-idle.ensures, c.more_skipped.ensures, c.wide-need.ensures, c.bytes_held-held.ensures))

pub returns : goal.returns
unfolding stopping
returns c =
    let s = c.args.reader.now in
    let q : width s.phase - length (held_of s) ≤ length c.args.input.now = omega (arith, ap length c.bytes_held-held.ensures) in
    let j : c.join-2.new.joint ≡ twenty (reply_in s c.args.input.now) = c.join-2.ensures ∙ rw (c.wide-need.ensures, c.bytes_held-held.ensures) in
    let b = rw (c.wide-need.ensures, j, reply_front s c.args.input.now q) at c.is_bad.ensures in
    λ ws. reply_good s c.requires (omega arith) q (sym b ∙ c.if-is_bad.false) (rw (c.stopping-2.ensures, c.empty-idle-2.ensures, j, c.wide-need.ensures, c.bytes_held-held.ensures))
