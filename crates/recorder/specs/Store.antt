-- A store of a record as what goes to the file: one byte and its place.
use Rattle.std.specs.Prelude.{◌≡◌, ℕ, List, Result}
use Rattle.paper.specs.Outcome.{if_given, mapped}
use Rattle.paper.specs.Refusals.{outcome}
use Rattle.paper.specs.declared.refusal.Refusal.{Refusal}
use Rattle.ring.specs.Ring.{touched, put, store}
use Rattle.ring.specs.Answers.{storing}
use Rattle.recorder.specs.declared.store.Stored.{Stored}

-- `make`: the byte of the paper's store k at its place, or its refusal; and the memory after it
pub record StoreMade (S : ℕ) (was rec : List ℕ) (k : ℕ) (r : Result Stored Refusal) (is : List ℕ) : Type 0 where
  pub answer : outcome r ≡ mapped (λ _. record { place = touched S was k; byte = put S was rec k }) (storing S was rec k)
  pub memory : is ≡ if_given (storing S was rec k) (λ _. store S was rec k) was
