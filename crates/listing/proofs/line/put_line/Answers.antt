-- `listing::line::put_line` meets its contract.
use Rattle.std.proofs.Common.{arith}
use Rattle.listing.proofs.Lines.{line_refused}
use Rattle.listing.proofs.line.put_line.Goals as goal

pub returns-in-Err : goal.returns-in-Err
returns-in-Err c = rw c.in-Err.ensures.0 at (line_refused _ _ _ c.in-Err.ensures.1 c.number.ensures.answer (omega arith) c.refused.ensures)
