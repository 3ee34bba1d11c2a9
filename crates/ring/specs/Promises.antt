-- What each public function promises, over the number of slots S: its answer, and the whole memory at exit where one is lent for writing.
use Rattle.std.specs.Prelude.{ℕ, ◌≡◌, List, [], Result}
use Rattle.paper.specs.Outcome.{if_given, mapped}
use Rattle.paper.specs.Refusals.{outcome}
use Rattle.paper.specs.declared.refusal.Refusal.{Refusal}
use Rattle.ring.specs.Ring.{head_of, slot_of, slot_start, store, stores, erased}
use Rattle.ring.specs.Answers.{counting, storing, reading, reading_all, erasing}

-- `held`
pub record HeldGiven (S : ℕ) (mem : List ℕ) (r : Result ℕ Refusal) : Type 0 where
  pub answer : outcome r ≡ counting S mem

-- `store`: one byte, or none where it is refused
pub record StoreGiven (S : ℕ) (was rec : List ℕ) (k : ℕ) (r : Result (Unit {0}) Refusal) (is : List ℕ) : Type 0 where
  pub answer : outcome r ≡ storing S was rec k
  pub memory : is ≡ if_given (storing S was rec k) (λ _. store S was rec k) was

-- `add`: refused as store 0 is, which never is 12; otherwise the 755 stores in order
pub record AddGiven (S : ℕ) (was rec : List ℕ) (r : Result (Unit {0}) Refusal) (is : List ℕ) : Type 0 where
  pub answer : outcome r ≡ storing S was rec 0
  pub memory : is ≡ if_given (storing S was rec 0) (λ _. stores S was rec 755) was

-- `turn`: "Its refusal is the empty part"
pub record TurnGiven (S : ℕ) (mem : List ℕ) (i : ℕ) (part : List ℕ) : Type 0 where
  pub answer : part ≡ if_given (reading S mem i) (λ t. t) []

-- `turn_start`: where those bytes begin, for those who cannot be handed a part
pub record TurnStartGiven (S : ℕ) (mem : List ℕ) (i : ℕ) (r : Result ℕ Refusal) : Type 0 where
  pub answer : outcome r ≡ mapped (λ _. slot_start (slot_of S (head_of mem) i)) (reading S mem i)

-- `turn_refusal`: "a second question with the same arguments gives the number"
pub record TurnRefusalGiven (S : ℕ) (mem : List ℕ) (i : ℕ) (r : Result (Unit {0}) Refusal) : Type 0 where
  pub answer : outcome r ≡ mapped (λ _. tt) (reading S mem i)

-- `all_read`
pub record AllReadGiven (S : ℕ) (mem : List ℕ) (r : Result (Unit {0}) Refusal) : Type 0 where
  pub answer : outcome r ≡ reading_all S mem

-- `erase`
pub record EraseGiven (S : ℕ) (was : List ℕ) (r : Result (Unit {0}) Refusal) (is : List ℕ) : Type 0 where
  pub answer : outcome r ≡ erasing S was
  pub memory : is ≡ if_given (erasing S was) (λ _. erased was) was
