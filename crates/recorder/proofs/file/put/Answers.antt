use Rattle.recorder.proofs.Made.{stored_is}
use Rattle.recorder.proofs.file.put.Goals as goal

pub returns : goal.returns
returns c = stored_is c.in_ok-stored.ensures
