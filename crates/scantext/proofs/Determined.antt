-- Two answers, and two outputs at exit, that a promise allows are equal: `given_determined` of the text of a call, `line_determined` of `end` and `refused`.
use Prim.Native.Nat.{ℕ}
use mathlib.Core.Path.{◌≡◌}
use mathlib.Core.List.{List}
use Rattle.paper.specs.Outcome.{gives}
use Rattle.paper.specs.Writing.{Writes}
use Rattle.paper.specs.declared.refusal.Refusal.{Refusal}
use Rattle.std.specs.Prelude.{Result}
use Rattle.paper.proofs.Determined.{writes_determined}
use Rattle.stream.specs.declared.Phase.{Phase}
use Rattle.stream.specs.declared.Stop.{Stop}
use Rattle.scantext.specs.Lines.{call_out}

pub given_determined : (room : ℕ) (p : Phase) (words : List ℕ) (stop : Stop) (reply : List ℕ) {was is js : List ℕ} {r s : Result ℕ Refusal}
    → Writes (call_out room p words stop reply) was r is → Writes (call_out room p words stop reply) was s js → (r ≡ s) × (is ≡ js)
given_determined room p words stop reply a b = writes_determined a b

pub line_determined : {line was is js : List ℕ} {r s : Result ℕ Refusal} → Writes (gives line) was r is → Writes (gives line) was s js → (r ≡ s) × (is ≡ js)
line_determined a b = writes_determined a b
