-- What a writer leaves: its bytes at the front of the lent output, or the output as it was.
use Rattle.std.specs.Prelude.{ℕ, ◌≡◌, List, ◌++◌, ltb, length, drop, Result}
use Rattle.paper.specs.Outcome.{Outcome, gives, refuses, refuse_if, if_given, mapped}
use Rattle.paper.specs.Refusals.{number_of, outcome}
use Rattle.paper.specs.declared.refusal.Refusal.TheVariants.{OutputShort}
use Rattle.paper.specs.declared.refusal.Refusal.{Refusal}

-- field faults come first; then a lent output that is shorter than the bytes to be written
unfoldable pub fitting : ℕ → Outcome (List ℕ) → Outcome (List ℕ)
fitting room (gives xs) = refuse_if (ltb room (length xs)) (number_of OutputShort) (gives xs)
fitting room (refuses n) = refuses n

-- the bytes stand at the front of the output; those beyond them stay
unfoldable pub over : List ℕ → List ℕ → List ℕ
over was xs = xs ++ drop (length xs) was

-- Writing what o gives into an output: the count of bytes, or the refusal; the output with the bytes, or as it was.
pub record Writes (o : Outcome (List ℕ)) (was : List ℕ) (r : Result ℕ Refusal) (is : List ℕ) : Type 0 where
  pub answer : outcome r ≡ mapped length (fitting (length was) o)
  pub output : is ≡ if_given (fitting (length was) o) (over was) was
