-- What the stores of one record leave: the size, the head until the last store, and each slot but the one that is written. To know:
-- `bytes_slot` (no other slot changes), `whole_new` (at the end the slot is the record).
use Prim.Native.Nat.{ℕ, zero, suc, ◌+◌, ◌-◌, ◌*◌, ◌%◌, ◌≤◌, ◌<◌}
use mathlib.Core.Path.{◌≡◌, refl, sym, ap, ◌∙◌}
use mathlib.Core.Logic.{◌≢◌, ⊎_elim}
use mathlib.Core.List.{List}
use native.Mathlib.Nat.{mod-lt}
use native.Mathlib.Numerals.{add-one}
use native.Mathlib.Omega.{arith}
use borrow.Author.Tests.{lt-ltb, le-ltb}
use borrow.Rule.Slice.PartMut.{mid_of, put_mid, set_mid_at, mid_len}
use lib.ListN.{length, get_or, take, drop, set, length-set}
use lib.Seq.{get_or-set_same, get_or-set_other, paste, paste-zero, paste-suc}
use Rattle.ring.specs.Ring.{slot_start, head_of, IsRing, in_slot, next_slot, next_head, touched, put, store, stores}
use Rattle.ring.proofs.Lists.{part_after, part_before, part_pasted}
use Rattle.ring.proofs.Slots.{next_ok}
use Rattle.std.proofs.lemmas.Bool.{cases_lt}

pub store_byte : (S : ℕ) (mem rec : List ℕ) (k : ℕ) → k < 754 → store S mem rec k ≡ set mem (slot_start (head_of mem % S) + k) (get_or rec k 0)
unfolding store touched put
store_byte S mem rec k l = simp (lt-ltb k 754 l)

-- a byte of the record that is put into the slot that is lent, once the slot is back
pub lent_store : (S : ℕ) (mem rec slot : List ℕ) (start k : ℕ) → start ≡ slot_start (next_slot S (head_of mem)) → k < 754 → start + 768 ≤ length mem
    → slot ≡ set (mid_of start (start + 768 - start) mem) k (get_or rec k 0) → put_mid start (start + 768 - start) mem slot ≡ store S mem rec k
lent_store S mem rec slot start k is l fit e =
    ap (put_mid start (start + 768 - start) mem) e
    ∙ set_mid_at start (start + 768 - start) k mem (get_or rec k 0) (omega (arith, mid_len start (start + 768) mem fit))
    ∙ ap (λ (at : ℕ). set mem (at + k) (get_or rec k 0)) is
    ∙ sym (store_byte S mem rec k l)

-- the last store is the head's
pub store_end : (S : ℕ) (mem rec : List ℕ) (k : ℕ) → 754 ≤ k → store S mem rec k ≡ set mem 0 (next_head S (head_of mem))
unfolding store touched put
store_end S mem rec k g = simp (le-ltb k 754 g)

-- no store changes the size
store_size : (S : ℕ) (mem rec : List ℕ) (k : ℕ) → length (store S mem rec k) ≡ length mem
unfolding store touched put
store_size S mem rec k =
    ⊎_elim
    (λ l. simp (lt-ltb k 754 l, length-set))
    (λ g. simp (le-ltb k 754 g, length-set))
    (cases_lt k 754)

pub stores_size : (S : ℕ) (mem rec : List ℕ) (n : ℕ) → length (stores S mem rec n) ≡ length mem
unfolding stores
stores_size S mem rec zero = refl
stores_size S mem rec (suc n) = store_size S (stores S mem rec n) rec n ∙ stores_size S mem rec n

-- no store, and one more
pub stores_none : (S : ℕ) (mem rec : List ℕ) → stores S mem rec 0 ≡ mem
unfolding stores
stores_none S mem rec = refl

pub stores_more : (S : ℕ) (mem rec : List ℕ) (n : ℕ) (was is : List ℕ) → was ≡ stores S mem rec n → is ≡ store S was rec n → is ≡ stores S mem rec (n + 1)
unfolding stores
stores_more S mem rec n was is p q = q ∙ rw (p, add-one)

-- ---- one store of a record byte

module _ (S : ℕ) (mem rec : List ℕ) (k : ℕ) (l : k < 754) where
  pub byte_head : head_of (store S mem rec k) ≡ head_of mem
  byte_head = rw (store_byte S mem rec k l) (get_or-set_other mem (slot_start (head_of mem % S) + k) 0 (get_or rec k 0) 0 (omega arith))

  pub byte_slot : (s : ℕ) → s ≢ head_of mem % S → in_slot s (store S mem rec k) ≡ in_slot s mem
  byte_slot s ne =
      rw (store_byte S mem rec k l)
      (⊎_elim
      (λ a. part_before 754 (slot_start s) mem (slot_start (head_of mem % S) + k) (get_or rec k 0) (omega arith))
      (λ a. part_after 754 (slot_start s) mem (slot_start (head_of mem % S) + k) (get_or rec k 0) (omega arith))
      (cases_lt s (head_of mem % S)))

-- ---- the stores of the record's bytes: all but the last store

module _ (S : ℕ) (mem rec : List ℕ) where
  pub bytes_head : (n : ℕ) → n ≤ 754 → head_of (stores S mem rec n) ≡ head_of mem
  unfolding stores
  bytes_head zero b = refl
  bytes_head (suc n) b = byte_head S (stores S mem rec n) rec n b ∙ bytes_head n (omega arith)

  -- no other slot's record changes
  pub bytes_slot : (n : ℕ) → n ≤ 754 → (s : ℕ) → s ≢ head_of mem % S → in_slot s (stores S mem rec n) ≡ in_slot s mem
  unfolding stores
  bytes_slot zero b s ne = refl
  bytes_slot (suc n) b s ne =
      let h : head_of (stores S mem rec n) ≡ head_of mem = bytes_head n (omega arith) in
      byte_slot S (stores S mem rec n) rec n b s (λ e. ne (e ∙ ap (λ (x : ℕ). x % S) h))
      ∙ bytes_slot n (omega arith) s ne

  -- the slot that is written fills with the record
  pub bytes_fill : (n : ℕ) → n ≤ 754 → slot_start (head_of mem % S) + 754 ≤ length mem → length rec ≡ 754
      → stores S mem rec n ≡ paste mem (slot_start (head_of mem % S)) rec n
  unfolding stores
  bytes_fill zero b fit e = paste-zero mem (slot_start (head_of mem % S)) rec
  bytes_fill (suc n) b fit e =
      let at : ℕ = slot_start (head_of mem % S) in
      store_byte S (stores S mem rec n) rec n b
      ∙ ap (λ (h : ℕ). set (stores S mem rec n) (slot_start (h % S) + n) (get_or rec n 0)) (bytes_head n (omega arith))
      ∙ ap (λ (m : List ℕ). set m (at + n) (get_or rec n 0)) (bytes_fill n (omega arith) fit e)
      ∙ paste-suc mem at rec n 0 (omega arith) (omega arith)

-- ---- all 755 stores

module _ (S : ℕ) (mem rec : List ℕ) (v : IsRing S mem) (e : length rec ≡ 754) where
  whole_is : stores S mem rec 755 ≡ set (stores S mem rec 754) 0 (next_head S (head_of mem))
  unfolding stores
  whole_is = store_end S (stores S mem rec 754) rec 754 (omega arith) ∙ ap (λ (h : ℕ). set (stores S mem rec 754) 0 (next_head S h)) (bytes_head S mem rec 754 (omega arith))

  pub slot_fits : slot_start (head_of mem % S) + 754 ≤ length mem
  slot_fits =
      let two : 2 ≤ S = v.two_slots in
      let size : length mem ≡ 1 + 768 * S = v.size in
      omega (arith, mod-lt (head_of mem) {m = S} (omega arith))

  pub whole_head : head_of (stores S mem rec 755) ≡ next_head S (head_of mem)
  whole_head = rw whole_is (get_or-set_same (stores S mem rec 754) 0 (next_head S (head_of mem)) 0 (omega (arith, stores_size S mem rec 754, slot_fits)))

  pub whole_kept : (s : ℕ) → s ≢ head_of mem % S → in_slot s (stores S mem rec 755) ≡ in_slot s mem
  whole_kept s ne =
      rw whole_is
      (part_after 754 (slot_start s) (stores S mem rec 754) 0 (next_head S (head_of mem)) (omega arith)
      ∙ bytes_slot S mem rec 754 (omega arith) s ne)

  pub whole_new : in_slot (head_of mem % S) (stores S mem rec 755) ≡ rec
  whole_new =
      let at : ℕ = slot_start (head_of mem % S) in
      rw whole_is
      (part_after 754 at (stores S mem rec 754) 0 (next_head S (head_of mem)) (omega arith)
      ∙ ap (λ (m : List ℕ). take 754 (drop at m)) (bytes_fill S mem rec 754 (omega arith) slot_fits e)
      ∙ part_pasted 754 at mem rec e slot_fits)

-- a ring stays a ring
pub ring_bytes : (S : ℕ) (mem rec : List ℕ) (n : ℕ) → n ≤ 754 → IsRing S mem → IsRing S (stores S mem rec n)
ring_bytes S mem rec n b v =
    record {
      two_slots = v.two_slots;
      head_is_byte = v.head_is_byte;
      size = stores_size S mem rec n ∙ v.size;
      head = rw (bytes_head S mem rec n b) v.head;
    }

pub ring_whole : (S : ℕ) (mem rec : List ℕ) → length rec ≡ 754 → IsRing S mem → IsRing S (stores S mem rec 755)
ring_whole S mem rec e v =
    record {
      two_slots = v.two_slots;
      head_is_byte = v.head_is_byte;
      size = stores_size S mem rec 755 ∙ v.size;
      head = rw (whole_head S mem rec v e) (next_ok S (head_of mem) v.two_slots v.head);
    }

-- and so after any one store
store_last : (S : ℕ) (mem rec : List ℕ) (k : ℕ) → 0 < length mem → 754 ≤ k → head_of (store S mem rec k) ≡ next_head S (head_of mem)
store_last S mem rec k some g = rw (store_end S mem rec k g) (get_or-set_same mem 0 (next_head S (head_of mem)) 0 some)

pub ring_store : (S : ℕ) (mem rec : List ℕ) (k : ℕ) → IsRing S mem → IsRing S (store S mem rec k)
ring_store S mem rec k v =
    record {
      two_slots = v.two_slots;
      head_is_byte = v.head_is_byte;
      size = store_size S mem rec k ∙ v.size;
      head =
          ⊎_elim
          (λ l. rw (byte_head S mem rec k l) v.head)
          (λ g. rw (store_last S mem rec k (omega arith) g) (next_ok S (head_of mem) v.two_slots v.head))
          (cases_lt k 754);
    }
