-- The C form of what the readers of a record answer: a value, or 0 and the refusal.
use Rattle.std.specs.Prelude.{ℕ, Result, Ok, Err}
use Rattle.paper.specs.Refusals.{number_of}
use Rattle.paper.specs.declared.refusal.Refusal.{Refusal}
use Rattle.paper.specs.declared.unit.DistanceQ2.{DistanceQ2}
use Rattle.bernkessel.specs.declared.records.BkNumber.{BkNumber}
use Rattle.bernkessel.specs.declared.records.BkCount.{BkCount}
use Rattle.bernkessel.specs.declared.records.BkCell.{BkCell}

unfoldable pub number_out : Result ℕ Refusal → BkNumber
number_out (Ok n) = record { number = n; refusal = 0 }
number_out (Err q) = record { number = 0; refusal = number_of q }

unfoldable pub count_out : Result ℕ Refusal → BkCount
count_out (Ok n) = record { count = n; refusal = 0 }
count_out (Err q) = record { count = 0; refusal = number_of q }

unfoldable pub cell_out : Result DistanceQ2 Refusal → BkCell
cell_out (Ok d) = record { distance = record { q2 = d.0 }; refusal = 0 }
cell_out (Err q) = record { distance = record { q2 = 0 }; refusal = number_of q }
