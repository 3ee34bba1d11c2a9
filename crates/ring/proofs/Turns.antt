-- The turns of a ring by their indices, and what the stores of one record do to them. To know: `turns_bytes` (until the last store the
-- turns are what they were), `turns_whole` (after it the record is the newest), `turns_erased`.
use Prim.Native.Nat.{ℕ, zero, suc, ◌+◌, ◌-◌, ◌*◌, ◌%◌, ◌≤◌, ◌<◌}
use mathlib.Core.Path.{◌≡◌, refl, sym, ap, ◌∙◌, ap₂}
use mathlib.Core.Logic.{◌≢◌, ⊎_elim}
use mathlib.Core.List.{List, [], ◌∷◌, ◌++◌}
use native.Mathlib.Omega.{arith}
use native.Mathlib.Numerals.{add-one}
use borrow.Author.Tests.{lt-ltb}
use lib.ListN.{length, get_or, drop, length-append, length-drop, length-set, get_or-append}
use lib.Seq.{ext_get_or, get_or-drop, get_or_at, get_or-set_same}
use Rattle.ring.specs.Ring.{head_of, IsRing, in_slot, held, slot_of, turn_at, first_turns, turns, next_head, store, stores, erased}
use Rattle.ring.specs.History.{last}
use Rattle.ring.proofs.Slots.{held_min, slot_free, gone, held_next, slot_kept, slot_new}
use Rattle.std.proofs.lemmas.Bool.{cases_lt}
use Rattle.ring.proofs.Stores.{byte_head, byte_slot, bytes_head, bytes_slot, whole_head, whole_kept, whole_new}

-- ---- the list of turns, by its indices

pub length_first : (S : ℕ) (mem : List ℕ) (n : ℕ) → length (first_turns S mem n) ≡ n
unfolding first_turns
length_first S mem zero = refl
length_first S mem (suc n) = length-append (first_turns S mem n) (turn_at S mem n ∷ []) ∙ ap (λ (k : ℕ). k + 1) (length_first S mem n) ∙ add-one n

pub get_or-first : (S : ℕ) (mem : List ℕ) (n i : ℕ) → i < n → get_or (first_turns S mem n) i [] ≡ turn_at S mem i
unfolding first_turns
get_or-first S mem zero i b = absurd (omega arith)
get_or-first S mem (suc n) i b =
    ⊎_elim
    (λ l. get_or-append (first_turns S mem n) (turn_at S mem n ∷ []) [] i (rw (length_first S mem n) l) ∙ get_or-first S mem n i l)
    (λ g.
    let e : n ≡ i = omega arith in
    get_or_at (first_turns S mem n) (turn_at S mem n) [] [] i (length_first S mem n ∙ e) ∙ ap (turn_at S mem) e)
    (cases_lt i n)

pub same_first : (S : ℕ) (mem mem' : List ℕ) (n : ℕ) → ((i : ℕ) → i < n → turn_at S mem i ≡ turn_at S mem' i) → first_turns S mem n ≡ first_turns S mem' n
unfolding first_turns
same_first S mem mem' zero f = refl
same_first S mem mem' (suc n) f =
    ap₂ (λ (l : List (List ℕ)) (t : List ℕ). l ++ t ∷ []) (same_first S mem mem' n (λ i b. f i (omega arith))) (f n (omega arith))

-- the turns are `held` in number, and turn i is the i-th of them
pub length-turns : (S : ℕ) (mem : List ℕ) → length (turns S mem) ≡ held S (head_of mem)
unfolding turns
length-turns S mem = length_first S mem (held S (head_of mem))

pub get_or-turns : (S : ℕ) (mem : List ℕ) (i : ℕ) → i < held S (head_of mem) → get_or (turns S mem) i [] ≡ turn_at S mem i
unfolding turns
get_or-turns S mem i b = get_or-first S mem (held S (head_of mem)) i b

-- ---- one attempt

module _ (S : ℕ) (mem rec : List ℕ) (v : IsRing S mem) where
  -- a memory with the same head and the same turns' slots has the same turns
  same_turns : (mem' : List ℕ) → head_of mem' ≡ head_of mem → ((s : ℕ) → s ≢ head_of mem % S → in_slot s mem' ≡ in_slot s mem) → turns S mem' ≡ turns S mem
  unfolding turns turn_at
  same_turns mem' e f =
      rw e
      (same_first S mem' mem (held S (head_of mem)) (λ i c.
      ap (λ (h : ℕ). in_slot (slot_of S h i) mem') e
      ∙ f (slot_of S (head_of mem) i) (slot_free S (head_of mem) v.two_slots v.head i c)))

  -- no store of a record's byte changes the turns
  pub turns_byte : (k : ℕ) → k < 754 → turns S (store S mem rec k) ≡ turns S mem
  turns_byte k b = same_turns (store S mem rec k) (byte_head S mem rec k b) (byte_slot S mem rec k b)

  -- until the last store the turns are what they were
  pub turns_bytes : (n : ℕ) → n ≤ 754 → turns S (stores S mem rec n) ≡ turns S mem
  turns_bytes n b = same_turns (stores S mem rec n) (bytes_head S mem rec n b) (bytes_slot S mem rec n b)

  module _ (e : length rec ≡ 754) where
    grown : List (List ℕ)
    grown = turns S mem ++ rec ∷ []

    length_grown : length grown ≡ held S (head_of mem) + 1
    unfolding grown
    length_grown = length-append (turns S mem) (rec ∷ []) ∙ ap (λ (n : ℕ). n + 1) (length-turns S mem)

    -- turn i of the new memory is turn `gone + i` of the old, or the record
    new_turn : (i : ℕ) → i < held S (next_head S (head_of mem)) → turn_at S (stores S mem rec 755) i ≡ get_or grown (gone S (head_of mem) + i) []
    unfolding grown turn_at
    new_turn i b =
        let h : ℕ = head_of mem in
        let j : ℕ = gone S h + i in
        let new : List ℕ = stores S mem rec 755 in
        let size : length (turns S mem) ≡ held S h = length-turns S mem in
        let n : held S (next_head S h) + gone S h ≡ held S h + 1 = held_next S h v.two_slots v.head in
        ap (λ (x : ℕ). in_slot (slot_of S x i) new) (whole_head S mem rec v e)
        ∙ ⊎_elim
        (λ l.
        ap (λ (x : ℕ). in_slot x new) (slot_kept S h v.two_slots v.head i b l)
        ∙ whole_kept S mem rec v e (slot_of S h j) (slot_free S h v.two_slots v.head j l)
        ∙ sym (get_or-turns S mem j l)
        ∙ sym (get_or-append (turns S mem) (rec ∷ []) [] j (omega arith)))
        (λ g.
        ap (λ (x : ℕ). in_slot x new) (slot_new S h v.two_slots v.head i b g)
        ∙ whole_new S mem rec v e
        ∙ sym (get_or_at (turns S mem) rec [] [] j (omega arith)))
        (cases_lt j (held S h))

    -- after the last store the record is the newest turn, and at most S - 1 are held
    pub turns_whole : turns S (stores S mem rec 755) ≡ last (S - 1) (turns S mem ++ rec ∷ [])
    unfolding turns last grown
    turns_whole =
        let h : ℕ = head_of mem in
        let n : held S (next_head S h) + gone S h ≡ held S h + 1 = held_next S h v.two_slots v.head in
        ap (λ (x : ℕ). first_turns S (stores S mem rec 755) (held S x)) (whole_head S mem rec v e)
        ∙ ext_get_or [] (first_turns S (stores S mem rec 755) (held S (next_head S h))) (drop (gone S h) grown)
        (length_first S (stores S mem rec 755) (held S (next_head S h)) ∙ sym (length-drop (gone S h) grown ∙ omega (arith, length_grown)))
        (λ i b.
        let c : i < held S (next_head S h) = rw (length_first S (stores S mem rec 755) (held S (next_head S h))) at b in
        get_or-first S (stores S mem rec 755) (held S (next_head S h)) i c ∙ new_turn i c ∙ sym (get_or-drop (gone S h) grown i []))
        ∙ ap (λ (x : ℕ). drop (x - (S - 1)) grown) (sym length_grown)

-- a ring holds at most S - 1 turns
pub turns_fit : (S : ℕ) (mem : List ℕ) → IsRing S mem → length (turns S mem) ≤ S - 1
turns_fit S mem v = omega (arith, length-turns S mem, held_min S (head_of mem) v.two_slots v.head)

-- ---- erasing

module _ (S : ℕ) (mem : List ℕ) (two : 2 ≤ S) (size : length mem ≡ 1 + 768 * S) where
  erased_head : head_of (erased mem) ≡ 0
  erased_head = get_or-set_same mem 0 0 0 (omega arith)

  -- erasing makes a ring of any memory of the right length, whatever its head
  pub ring_erased : S ≤ 128 → IsRing S (erased mem)
  ring_erased byte =
      record {
        two_slots = two;
        head_is_byte = byte;
        size = length-set mem 0 0 ∙ size;
        head = rw erased_head (omega arith);
      }

  -- and it holds no turn
  pub turns_erased : turns S (erased mem) ≡ []
  unfolding turns held first_turns
  turns_erased = rw (erased_head, lt-ltb 0 S (omega arith))
