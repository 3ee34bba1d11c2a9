-- `listing::line::put_turn` meets its contract.
use Rattle.std.proofs.Common.{rules, arith}
use Rattle.text.proofs.Pieces.{added_more, added_then}
use Rattle.listing.proofs.Lines.{turn_added}
use Rattle.listing.proofs.line.put_turn.Goals as goal

pub returns : goal.returns
returns c =
    let numbers = added_more (added_more c.put_field.ensures c.put_field-2.ensures) c.put_field-3.ensures in
    let line = rw (c.from.ensures, c.from-2.ensures, c.filled.ensures, c.nearest.ensures) at (added_then (added_more numbers c.put_distance.ensures) c.byte.ensures) in
    turn_added _ _ c.in_ok-number.ensures c.in_ok-count.ensures c.in_ok-cells.ensures (omega arith) (omega arith) (search rules) (omega arith) line
