-- `scantext::line::put_sample` meets its contract.
use Rattle.text.proofs.Pieces.{added_more, added_then}
use Rattle.scantext.specs.Lines.{sample_line}
use Rattle.scantext.proofs.line.put_sample.Goals as goal

pub returns : goal.returns
unfolding sample_line
returns c =
    let fields = added_more (added_more (added_more c.put_field.ensures c.put_field-2.ensures) c.put_field-3.ensures) c.put_field-4.ensures in
    rw (c.from.ensures, c.from-2.ensures, c.from-3.ensures, c.from-4.ensures) at (added_then fields c.byte.ensures)
