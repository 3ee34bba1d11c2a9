-- `text::part::stands` meets its contract.
use Rattle.std.proofs.Common.{rules}
use Rattle.text.proofs.Parts.{stands_told}
use Rattle.text.proofs.part.stands.Goals as goal

pub returns : goal.returns
returns c = stands_told _ _ _ _ _ c.get.ensures.lookup (search rules)
