-- The ring in memory: one head byte and S slots of 768 bytes after it; a memory is the list of its bytes, and S goes from 2 to 128.
use Rattle.std.specs.Prelude.{ℕ, zero, suc, ◌+◌, ◌-◌, ◌*◌, ◌%◌, ◌≤◌, ◌<◌, ◌≡◌, cond, List, [], ◌∷◌, ◌++◌, ltb, length, get_or, take, drop, set}

-- "The ring is one head byte and 64 slots": the slots of the rings that the code serves
abbrev pub slots : ℕ
slots = 64

-- "Slot n begins at 1 + 768 x n."
abbrev pub slot_start : ℕ → ℕ
slot_start n = 1 + 768 * n

-- "one head byte": the first of the memory
abbrev pub head_of : List ℕ → ℕ
head_of mem = get_or mem 0 0

-- a memory of S slots whose head is in range
pub record IsRing (S : ℕ) (mem : List ℕ) : Type 0 where
  pub two_slots : 2 ≤ S
  pub head_is_byte : S ≤ 128
  pub size : length mem ≡ 1 + 768 * S
  pub head : head_of mem < 2 * S

-- ---- reading

-- "Head h below 64: turns in slots 0 to h - 1. Head 64 to 127: 63 turns": how many turns a ring with head h holds
unfoldable pub held : ℕ → ℕ → ℕ
held S h = cond (ltb h S) h (S - 1)

-- "slots 0 to h - 1, oldest first"; "oldest in slot (h - 63) mod 64": the slot of turn i, 0 being the oldest
unfoldable pub slot_of : ℕ → ℕ → ℕ → ℕ
slot_of S h i = cond (ltb h S) i ((h - (S - 1) + i) % S)

-- the 754 bytes at the start of slot n; "the last 14 bytes of a slot are neither read nor written"
abbrev pub in_slot : ℕ → List ℕ → List ℕ
in_slot n mem = take 754 (drop (slot_start n) mem)

-- "Reading turn i (0 is the oldest) gives back the 754 bytes"
unfoldable pub turn_at : ℕ → List ℕ → ℕ → List ℕ
turn_at S mem i = in_slot (slot_of S (head_of mem) i) mem

-- the first n turns, oldest first
unfoldable pub first_turns : ℕ → List ℕ → ℕ → List (List ℕ)
first_turns S mem zero = []
first_turns S mem (suc n) = first_turns S mem n ++ turn_at S mem n ∷ []

-- the turns held, oldest first
unfoldable pub turns : ℕ → List ℕ → List (List ℕ)
turns S mem = first_turns S mem (held S (head_of mem))

-- ---- writing

-- "A turn is added to slot h mod 64"
abbrev pub next_slot : ℕ → ℕ → ℕ
next_slot S h = h % S

-- "store 754 sets the head to h + 1, or 64 after 127"
unfoldable pub next_head : ℕ → ℕ → ℕ
next_head S h = cond (ltb (h + 1) (2 * S)) (h + 1) S

-- "stores 0 to 753, record byte k at slot byte k; store 754 sets the head": the one byte that store k touches
unfoldable pub touched : ℕ → List ℕ → ℕ → ℕ
touched S mem k = cond (ltb k 754) (slot_start (next_slot S (head_of mem)) + k) 0

-- and what it puts there
unfoldable pub put : ℕ → List ℕ → List ℕ → ℕ → ℕ
put S mem rec k = cond (ltb k 754) (get_or rec k 0) (next_head S (head_of mem))

-- "Each store is a call of its own that touches one byte": the memory after store k
unfoldable pub store : ℕ → List ℕ → List ℕ → ℕ → List ℕ
store S mem rec k = set mem (touched S mem k) (put S mem rec k)

-- the memory after the first n stores of a record, in order
unfoldable pub stores : ℕ → List ℕ → List ℕ → ℕ → List ℕ
stores S mem rec zero = mem
stores S mem rec (suc n) = store S (stores S mem rec n) rec n

-- "Erasing stores 0 at the head."
abbrev pub erased : List ℕ → List ℕ
erased mem = set mem 0 0
