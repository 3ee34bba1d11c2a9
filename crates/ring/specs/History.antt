-- Histories of a ring: attempts to add a record, each broken off after some of its stores or whole, and erasures.
use Rattle.std.specs.Prelude.{ℕ, ◌-◌, cond, List, [], ◌∷◌, ◌++◌, ltb, length, drop}
use Rattle.ring.specs.Ring.{stores, erased}

-- the last n of a list, or all of it where it is shorter
unfoldable pub last : {A : Type 0} → ℕ → List A → List A
last n l = drop (length l - n) l

-- what happens to a ring: the first n of the 755 stores of a record were made, or it was erased
pub data Event : Type 0 where
  attempt : List ℕ → ℕ → Event
  erasure : Event

-- the memory after a history; it is the only state, so a restart may stand between any two stores
unfoldable pub after : ℕ → List ℕ → List Event → List ℕ
after S mem [] = mem
after S mem (attempt rec n ∷ l) = after S (stores S mem rec n) l
after S mem (erasure ∷ l) = after S (erased mem) l

-- the turns ts, followed by a record where its last store was made
abbrev pub tried : List (List ℕ) → List ℕ → ℕ → List (List ℕ)
tried ts rec n = cond (ltb n 755) ts (ts ++ rec ∷ [])

-- the turns ts held at the start or those since the last erasure, followed by the records whose last store was made
unfoldable pub kept : List (List ℕ) → List Event → List (List ℕ)
kept ts [] = ts
kept ts (attempt rec n ∷ l) = kept (tried ts rec n) l
kept ts (erasure ∷ l) = kept [] l
