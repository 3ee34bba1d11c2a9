-- Two answers, and two outputs at exit, that the promise of `list` or of `list_turn` allows are equal.
use Rattle.std.proofs.Common.{◌≡◌, ℕ, List}
use Rattle.std.specs.Prelude.{Result}
use Rattle.paper.specs.declared.refusal.Refusal.{Refusal}
use Rattle.paper.proofs.Determined.{writes_determined}
use Rattle.listing.specs.Promises.{ListGiven, LineGiven}

pub list_determined : {S : ℕ} {mem was : List ℕ} {r s : Result ℕ Refusal} {is js : List ℕ} → ListGiven S mem was r is → ListGiven S mem was s js → (r ≡ s) × (is ≡ js)
list_determined p q = writes_determined p.text q.text

pub line_determined : {rec was : List ℕ} {r s : Result ℕ Refusal} {is js : List ℕ} → LineGiven rec was r is → LineGiven rec was s js → (r ≡ s) × (is ≡ js)
line_determined p q = writes_determined p.line q.line
