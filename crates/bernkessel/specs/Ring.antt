-- The C form of what a ring answers.
use Rattle.std.specs.Prelude.{ℕ, Result, Ok, Err}
use Rattle.paper.specs.Refusals.{number_of}
use Rattle.paper.specs.declared.refusal.Refusal.{Refusal}
use Rattle.bernkessel.specs.declared.rings.BkHeld.{BkHeld}

unfoldable pub held_out : Result ℕ Refusal → BkHeld
held_out (Ok n) = record { turns = n; refusal = 0 }
held_out (Err q) = record { turns = 0; refusal = number_of q }
