-- What the ring gives or refuses, for every memory, record and number: the order of checks of each of the paper's entries.
use Rattle.std.specs.Prelude.{ℕ, ◌+◌, ◌*◌, Bool, true, not, ◌&&◌, List, [], ◌∷◌, leb, eqb, length}
use Rattle.paper.specs.Outcome.{Outcome, gives, refuse_if}
use Rattle.paper.specs.Refusals.{number_of}
use Rattle.paper.specs.declared.refusal.Refusal.TheVariants.{NotARecord, NotARing, HeadOver, NoSuchNumber}
use Rattle.record.specs.Record.{reads}
use Rattle.ring.specs.Ring.{head_of, held, turn_at, turns}

-- "10: ring memory is not 49,153 bytes"
unfoldable pub sized : {A : Type 0} → ℕ → List ℕ → Outcome A → Outcome A
sized S mem next = refuse_if (not (eqb (length mem) (1 + 768 * S))) (number_of NotARing) next

-- and "11: ring head over 127"
unfoldable pub of_ring : {A : Type 0} → ℕ → List ℕ → Outcome A → Outcome A
of_ring S mem next = sized S mem (refuse_if (leb (2 * S) (head_of mem)) (number_of HeadOver) next)

-- each of some turns reads as a record
unfoldable pub is_all_read : List (List ℕ) → Bool
is_all_read [] = true
is_all_read (t ∷ ts) = reads t && is_all_read ts

-- how many turns are held
unfoldable pub counting : ℕ → List ℕ → Outcome ℕ
counting S mem = of_ring S mem (gives (held S (head_of mem)))

-- "adding to the ring 10, 11, 9, 12"; "Store numbers from 755 are refused"
unfoldable pub storing : ℕ → List ℕ → List ℕ → ℕ → Outcome (Unit {0})
storing S mem rec k =
    of_ring S mem
    (refuse_if (not (reads rec)) (number_of NotARecord)
    (refuse_if (leb 755 k) (number_of NoSuchNumber) (gives tt)))

-- "reading a turn out of it 10, 11, 12, 9"
unfoldable pub reading : ℕ → List ℕ → ℕ → Outcome (List ℕ)
reading S mem i =
    of_ring S mem
    (refuse_if (leb (held S (head_of mem)) i) (number_of NoSuchNumber)
    (refuse_if (not (reads (turn_at S mem i))) (number_of NotARecord) (gives (turn_at S mem i))))

-- whether every turn that is held reads: 10, 11, and then 9 where one does not
unfoldable pub reading_all : ℕ → List ℕ → Outcome (Unit {0})
reading_all S mem = of_ring S mem (refuse_if (not (is_all_read (turns S mem))) (number_of NotARecord) (gives tt))

-- "Erasing the ring checks 10 only."
unfoldable pub erasing : ℕ → List ℕ → Outcome (Unit {0})
erasing S mem = sized S mem (gives tt)
