-- The C form of a gatherer and of what it answers.
use Rattle.std.specs.Prelude.{Result, Ok, Err, unwrap_or}
use Rattle.paper.specs.Refusals.{number_of}
use Rattle.paper.specs.declared.refusal.Refusal.{Refusal}
use Rattle.turn.specs.declared.gather.Gatherer.{Gatherer}
use Rattle.turn.specs.declared.gather.Gathered.{Gathered}
use Rattle.turn.specs.declared.gather.RowGathered.{RowGathered}
use Rattle.bernkessel.specs.declared.turns.BkGatherer.{BkGatherer}
use Rattle.bernkessel.specs.declared.turns.BkGathered.{BkGathered}
use Rattle.bernkessel.specs.declared.turns.BkRowGathered.{BkRowGathered}

unfoldable pub gatherer_in : BkGatherer → Gatherer
gatherer_in c = record { count = c.count }

unfoldable pub gatherer_out : Gatherer → BkGatherer
gatherer_out s = record { count = s.count }

-- the count of the turn that closed is not 0, so 0 is none; a refusal gives back the very gatherer
unfoldable pub gathered_out : BkGatherer → Result Gathered Refusal → BkGathered
gathered_out was (Ok r) = record { gatherer = gatherer_out r.gatherer; turn = unwrap_or r.turn 0; refusal = 0 }
gathered_out was (Err q) = record { gatherer = was; turn = 0; refusal = number_of q }

unfoldable pub row_out : BkGatherer → Result RowGathered Refusal → BkRowGathered
row_out was (Ok r) = record { gathered = gathered_out was (Ok r.gathered); words = r.words }
row_out was (Err q) = record { gathered = gathered_out was (Err q); words = 0 }
