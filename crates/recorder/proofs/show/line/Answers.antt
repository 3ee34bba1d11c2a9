use Rattle.recorder.proofs.Lines.{line_told}
use Rattle.recorder.proofs.show.line.Goals as goal

pub returns : goal.returns
returns c = line_told c.list_turn.ensures c.told-text c.unwrap_or-n.ensures
