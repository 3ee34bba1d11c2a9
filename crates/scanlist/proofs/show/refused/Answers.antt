use Rattle.std.proofs.Common.{arith}
use Rattle.text.specs.Refused.{refused_line}
use Rattle.text.proofs.Refused.{refused_short}
use Rattle.text.proofs.Shown.{line_shown, line_never_short}
use Rattle.scanlist.proofs.Written.{never_err}
use Rattle.scanlist.proofs.show.refused.Goals as goal

pub unwrap-n-requires : goal.unwrap-n-requires
unwrap-n-requires c =
    let few = refused_short c.number.result (omega arith) in
    never_err _ (λ q. line_never_short _ (omega (arith, few)) c.refused.ensures)

pub shared_ref_as_front-result : goal.shared_ref_as_front-result
shared_ref_as_front-result c =
    let few = refused_short c.number.result (omega arith) in
    let shown = line_shown (refused_line c.number.result) (omega (arith, few)) c.refused.ensures _ c.unwrap-n.ensures in
    omega (arith, shown.0.0)

pub returns : goal.returns
returns c =
    let few = refused_short c.number.result (omega arith) in
    rw c.number.ensures.answer at ((line_shown (refused_line c.number.result) (omega (arith, few)) c.refused.ensures _ c.unwrap-n.ensures).1)
