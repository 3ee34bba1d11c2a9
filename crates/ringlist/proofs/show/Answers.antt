-- A ring's text has room, so it is written, and it is what was asked.
use Rattle.std.proofs.Common.{arith}
use Rattle.text.proofs.Shown.{line_shown, line_never_short}
use Rattle.ringlist.proofs.show.Goals as goal

pub shared_ref_as_front-result : goal.shared_ref_as_front-result
shared_ref_as_front-result c =
    let s = line_shown _ (omega (arith, c.list.ensures.short)) c.list.ensures.text c.in-Ok.n c.in-Ok.is in
    omega (arith, s.0.0)

pub returns-in-Ok : goal.returns-in-Ok
returns-in-Ok c = (line_shown _ (omega (arith, c.list.ensures.short)) c.list.ensures.text c.in-Ok.n c.in-Ok.is).1

pub returns-in-Err : goal.returns-in-Err
returns-in-Err c = absurd (line_never_short _ (omega (arith, c.list.ensures.short)) c.list.ensures.text c.in-Err.is)
