-- A history as calls of the code: what led from one memory to another is said by the promises of `store` and `erase` alone.
use Rattle.std.specs.Prelude.{ℕ, zero, suc, ◌≤◌, ◌<◌, ◌≡◌, true, Result, Ok, List, [], ◌∷◌, length, get_or}
use Rattle.paper.specs.declared.refusal.Refusal.{Refusal}
use Rattle.record.specs.Record.{reads}
use Rattle.ring.specs.Ring.{IsRing, turns}
use Rattle.ring.specs.Answers.{is_all_read}
use Rattle.ring.specs.History.{Event, attempt, erasure}
use Rattle.ring.specs.Promises.{HeldGiven, StoreGiven, TurnGiven, TurnRefusalGiven, EraseGiven}

-- the first n calls of `store` with a record, numbered from 0, led from `was` to `is`
unfoldable pub Stored : ℕ → List ℕ → List ℕ → ℕ → List ℕ → Type 0
Stored S was rec zero is = is ≡ was
Stored S was rec (suc n) is = (mid : List ℕ) × (r : Result (Unit {0}) Refusal) × Stored S was rec n mid × StoreGiven S mid rec n r is

-- the calls of a history, in order, led from `was` to `is`
unfoldable pub Led : ℕ → List ℕ → List Event → List ℕ → Type 0
Led S was [] is = is ≡ was
Led S was (attempt rec n ∷ l) is = (mid : List ℕ) × Stored S was rec n mid × Led S mid l is
Led S was (erasure ∷ l) is = (mid : List ℕ) × (r : Result (Unit {0}) Refusal) × EraseGiven S was r mid × Led S mid l is

-- attempts, each of a record that reads, with its first n stores made, n from 0 to 755; and erasures
unfoldable pub Proper : List Event → Type 0
Proper [] = Unit {0}
Proper (attempt rec n ∷ l) = (reads rec ≡ true) × (n ≤ 755) × Proper l
Proper (erasure ∷ l) = Proper l

-- where a history may start: a ring that is empty, or whose turns all read
pub record Start (S : ℕ) (mem : List ℕ) : Type 0 where
  pub ring : IsRing S mem
  pub all_read : is_all_read (turns S mem) ≡ true

-- the functions of the code read a ring as the turns ts, oldest first and byte for byte, and no more than them
pub record ReadsAs (S : ℕ) (mem : List ℕ) (ts : List (List ℕ)) : Type 0 where
  pub count : (r : Result ℕ Refusal) → HeldGiven S mem r → r ≡ Ok (length ts)
  pub each : (i : ℕ) (part : List ℕ) → TurnGiven S mem i part → part ≡ get_or ts i []
  pub there : (i : ℕ) (r : Result (Unit {0}) Refusal) → i < length ts → TurnRefusalGiven S mem i r → r ≡ Ok tt
  pub all_read : is_all_read ts ≡ true
