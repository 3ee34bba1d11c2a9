-- What each public function of the crate promises.
use Rattle.std.specs.Prelude.{ℕ, ◌+◌, ◌≡◌, List, ◌++◌, ltb, length, take, drop, Result}
use Rattle.paper.specs.Outcome.{Outcome, gives, refuse_if, if_given}
use Rattle.paper.specs.Refusals.{number_of, outcome}
use Rattle.paper.specs.Words.{value_of, bytes_of}
use Rattle.paper.specs.Sum.{sum_of}
use Rattle.paper.specs.declared.refusal.Refusal.{Refusal}
use Rattle.paper.specs.declared.refusal.Refusal.TheVariants.{OutputShort}

-- `Refusal::number`
pub record NumberGiven (a : Refusal) (r : ℕ) : Type 0 where
  pub answer : r ≡ number_of a

-- `sum`
pub record SumGiven (xs : List ℕ) (r : ℕ) : Type 0 where
  pub answer : r ≡ sum_of xs

-- `word16`, `word32`
pub record WordRead (xs : List ℕ) (r : ℕ) : Type 0 where
  pub answer : r ≡ value_of xs

-- `bytes16`, `bytes32`, over the width
pub record WordBytes (w v : ℕ) (r : List ℕ) : Type 0 where
  pub answer : r ≡ bytes_of w v

-- w bytes fit at a place of an output
unfoldable pub placing : ℕ → ℕ → ℕ → Outcome (Unit {0})
placing w place room = refuse_if (ltb room (place + w)) (number_of OutputShort) (gives tt)

-- bytes stand at a place; all others stay
unfoldable pub put_at : ℕ → List ℕ → List ℕ → List ℕ
put_at place xs was = take place was ++ xs ++ drop (place + length xs) was

-- `put`
pub record BytesPut (xs : List ℕ) (place : ℕ) (was : List ℕ) (r : Result (Unit {0}) Refusal) (is : List ℕ) : Type 0 where
  pub answer : outcome r ≡ placing (length xs) place (length was)
  pub output : is ≡ if_given (placing (length xs) place (length was)) (λ _. put_at place xs was) was
