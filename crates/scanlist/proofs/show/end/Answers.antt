use Rattle.std.proofs.Common.{arith}
use Rattle.scantext.specs.Lines.{end_line}
use Rattle.scantext.proofs.Room.{end_short}
use Rattle.text.proofs.Shown.{line_shown, line_never_short}
use Rattle.scanlist.proofs.Written.{never_err}
use Rattle.scanlist.proofs.show.end.Goals as goal

pub unwrap-n-requires : goal.unwrap-n-requires
unwrap-n-requires c =
    let few = end_short c.args.taken c.args.reader.now.skipped c.args.reader.now.n (omega arith) (omega arith) (omega arith) in
    never_err _ (λ q. line_never_short _ (omega (arith, few)) c.end.ensures)

pub shared_ref_as_front-result : goal.shared_ref_as_front-result
shared_ref_as_front-result c =
    let few = end_short c.args.taken c.args.reader.now.skipped c.args.reader.now.n (omega arith) (omega arith) (omega arith) in
    let shown = line_shown (end_line c.args.taken c.args.reader.now.skipped c.args.reader.now.n) (omega (arith, few)) c.end.ensures _ c.unwrap-n.ensures in
    omega (arith, shown.0.0)

pub returns : goal.returns
returns c =
    let few = end_short c.args.taken c.args.reader.now.skipped c.args.reader.now.n (omega arith) (omega arith) (omega arith) in
    (line_shown _ (omega (arith, few)) c.end.ensures _ c.unwrap-n.ensures).1
