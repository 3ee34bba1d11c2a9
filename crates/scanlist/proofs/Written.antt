-- A writer that never refuses answers with a count: `never_err`.
use Prim.Native.Nat.{ℕ}
use mathlib.Core.Path.{◌≡◌, refl}
use Rattle.std.specs.Prelude.{Result, Ok, Err, IsOk}
use Rattle.paper.specs.declared.refusal.Refusal.{Refusal}

pub never_err : (r : Result ℕ Refusal) → ((q : Refusal) → r ≡ Err q → ⊥) → IsOk r
never_err (Ok n) h = refl
never_err (Err q) h = absurd (h q refl)
