-- The promises, from what the code knows where it returns: one law for each kind of return.
use Prim.Native.Nat.{ℕ, ◌+◌, ◌*◌, ◌≤◌, ◌<◌}
use mathlib.Core.Path.{◌≡◌, refl, sym, ap, ◌∙◌}
use mathlib.Core.Bool.{true, false, not}
use mathlib.Core.Logic.{◌≢◌}
use mathlib.Core.List.{List, []}
use native.Mathlib.Numerals.{add-one}
use lib.ListN.{length, take, drop}
use Rattle.std.specs.Prelude.{Ok, Err}
use Rattle.paper.specs.Outcome.{Outcome, gives, refuses, mapped}
use Rattle.paper.specs.Refusals.{number_of, outcome}
use Rattle.paper.specs.declared.refusal.Refusal.{Refusal}
use Rattle.paper.specs.declared.refusal.Refusal.TheVariants.{NotARecord, NotARing, NoSuchNumber}
use Rattle.paper.proofs.Outcome.{refuse_yes, refuse_no}
use Rattle.record.specs.Promises.{Checked}
use Rattle.record.proofs.Reading.{reads_length, checked_reads, checked_not}
use Rattle.ring.specs.Ring.{slot_start, head_of, IsRing, held, slot_of, turn_at, first_turns, turns, store, stores, erased}
use Rattle.ring.specs.Answers.{of_ring, is_all_read, counting, storing, reading, reading_all, erasing}
use Rattle.ring.specs.Promises.{HeldGiven, StoreGiven, AddGiven, TurnGiven, TurnStartGiven, TurnRefusalGiven, AllReadGiven, EraseGiven}
use Rattle.ring.specs.inner.Checks.{ringing, asking}
use Rattle.ring.proofs.AllRead.{one_not, first_more}
use Rattle.ring.proofs.Stores.{ring_bytes}
use native.Mathlib.Omega.{arith}
use Rattle.ring.proofs.Answered.{
  done_is,
  refused_is,
  means_done,
  means_refused,
  given_yes,
  given_no,
  size_no,
  size_ok,
  ring_ok,
  no_ring,
  storing_ring,
  storing_record,
  storing_number,
  storing_ok,
  storing_means,
  asking_number,
  asking_ok,
  reading_none,
  reading_record,
  reading_ok,
}

-- ---- of a memory that is no ring

module _ (S : ℕ) (mem : List ℕ) (r : Refusal) (e : ringing S mem ≡ refuses (number_of r)) where
  pub held_refused : HeldGiven S mem (Err r)
  unfolding counting
  held_refused = record { answer = refused_is r (no_ring S mem _ e) }

  pub all_refused : AllReadGiven S mem (Err r)
  unfolding reading_all
  all_refused = record { answer = refused_is r (no_ring S mem _ e) }

  pub find_refused : (i : ℕ) → reading S mem i ≡ refuses (number_of r)
  unfolding reading
  find_refused i = no_ring S mem _ e

  pub may_refused : (rec : List ℕ) (k : ℕ) → outcome (Err r) ≡ storing S mem rec k
  may_refused rec k = refused_is r (storing_ring S mem rec k e)

-- ---- of a ring

module _ (S : ℕ) (mem w : List ℕ) (v : IsRing S w) (e : w ≡ mem) where
  ring : ringing S mem ≡ gives tt
  ring = rw e at (ring_ok S w (gives (tt {0})) v.size v.head)

  goes_on : {A : Type 0} (o : Outcome A) → of_ring S mem o ≡ o
  goes_on o = rw e at (ring_ok S w o v.size v.head)

  pub held_counted : (n : ℕ) → n ≡ held S (head_of w) → HeldGiven S mem (Ok n)
  unfolding counting outcome
  held_counted n q = record { answer = rw (q, e) (sym (goes_on _)) }

  pub find_number : (i : ℕ) → held S (head_of w) ≤ i → reading S mem i ≡ refuses (number_of NoSuchNumber)
  find_number i g = reading_none S mem i (asking_number S mem i ring (rw e at g))

  there : (i : ℕ) → i < held S (head_of w) → asking S mem i ≡ gives tt
  there i l = asking_ok S mem i ring (rw e at l)

  pub find_record : (t : List ℕ) (r : Refusal) → Checked t (Err r) → (i : ℕ) → t ≡ turn_at S w i → i < held S (head_of w) → reading S mem i ≡ refuses (number_of r)
  find_record t r c i q l =
      let n = checked_not t r c in
      rw n.1 (reading_record S mem i (there i l) (rw (q, e) at n.0))

  pub find_read : (t : List ℕ) (i : ℕ) → Checked t (Ok tt) → t ≡ turn_at S w i → i < held S (head_of w) → reading S mem i ≡ gives t
  find_read t i c q l = rw (q, e) (reading_ok S mem i (there i l) (rw (q, e) at (checked_reads t c)))

  pub all_not : (i : ℕ) (t : List ℕ) (r : Refusal) → i < held S (head_of w) → t ≡ turn_at S w i → Checked t (Err r) → AllReadGiven S mem (Err r)
  unfolding reading_all
  all_not i t r l q c =
      let n = checked_not t r c in
      let some : is_all_read (turns S mem) ≡ false = rw e at (one_not S w i l (rw q at n.0)) in
      rw n.1 (record { answer = refused_is NotARecord (goes_on _ ∙ refuse_yes _ _ (ap not some)) })

  pub all_do : is_all_read (first_turns S mem (held S (head_of w))) ≡ true → AllReadGiven S mem (Ok tt)
  unfolding reading_all turns
  all_do a =
      let all : is_all_read (first_turns S mem (held S (head_of mem))) ≡ true = rw e at a in
      record { answer = done_is (goes_on _ ∙ refuse_no _ _ (ap not all)) }

  module _ (rec : List ℕ) (k : ℕ) where
    pub may_record : (r : Refusal) → Checked rec (Err r) → outcome (Err r) ≡ storing S mem rec k
    may_record r c =
        let n = checked_not rec r c in
        rw n.1 (refused_is NotARecord (storing_record S mem rec k ring n.0))

    pub may_number : Checked rec (Ok tt) → 755 ≤ k → outcome (Err NoSuchNumber) ≡ storing S mem rec k
    may_number c g = refused_is NoSuchNumber (storing_number S mem rec k ring (checked_reads rec c) g)

    pub may_do : Checked rec (Ok tt) → k < 755 → outcome (Ok tt) ≡ storing S mem rec k
    may_do c l = done_is (storing_ok S mem rec k ring (checked_reads rec c) l)

-- the part that is handed back is the turn
pub part_is : (S : ℕ) (mem : List ℕ) (i n start : ℕ) → n ≡ 754 → start ≡ slot_start (slot_of S (head_of mem) i) → take n (drop start mem) ≡ turn_at S mem i
unfolding turn_at
part_is S mem i n start l e = rw (l, e)

-- no turn, and one more that reads
pub none_read : (S : ℕ) (mem : List ℕ) → is_all_read (first_turns S mem 0) ≡ true
unfolding first_turns is_all_read
none_read S mem = refl

pub first_read : (S : ℕ) (mem t : List ℕ) (i : ℕ) → is_all_read (first_turns S mem i) ≡ true → t ≡ turn_at S mem i → Checked t (Ok tt)
    → is_all_read (first_turns S mem (i + 1)) ≡ true
first_read S mem t i a q c = rw add-one (first_more S mem i a (rw q at (checked_reads t c)))

-- ---- of a turn that was found, and one that was not

module _ (S : ℕ) (mem : List ℕ) (i : ℕ) where
  module _ (t : List ℕ) (e : reading S mem i ≡ gives t) where
    pub turn_given : TurnGiven S mem i t
    turn_given = record { answer = sym (given_yes (λ t. t) [] e) }

    pub start_given : (n : ℕ) → n ≡ slot_start (slot_of S (head_of mem) i) → TurnStartGiven S mem i (Ok n)
    unfolding mapped outcome
    start_given n q = record { answer = rw (e, q) }

    pub refusal_done : TurnRefusalGiven S mem i (Ok tt)
    unfolding mapped
    refusal_done = record { answer = done_is (rw e) }

  module _ (r : Refusal) (e : reading S mem i ≡ refuses (number_of r)) where
    pub turn_refused : TurnGiven S mem i []
    turn_refused = record { answer = sym (given_no (λ t. t) [] e) }

    pub start_refused : TurnStartGiven S mem i (Err r)
    unfolding mapped
    start_refused = record { answer = refused_is r (rw e) }

    pub refusal_given : TurnRefusalGiven S mem i (Err r)
    unfolding mapped
    refusal_given = record { answer = refused_is r (rw e) }

-- ---- of stores

module _ (S : ℕ) (was rec : List ℕ) where
  pub store_refused : (k : ℕ) (r : Refusal) → outcome (Err r) ≡ storing S was rec k → StoreGiven S was rec k (Err r) was
  store_refused k r e = record { answer = e; memory = sym (given_no (λ _. store S was rec k) was (means_refused r e)) }

  pub store_made : (k : ℕ) (is : List ℕ) → outcome (Ok tt) ≡ storing S was rec k → is ≡ store S was rec k → StoreGiven S was rec k (Ok tt) is
  store_made k is e s = record { answer = e; memory = s ∙ sym (given_yes (λ _. store S was rec k) was (means_done e)) }

  pub add_refused : (r : Refusal) → outcome (Err r) ≡ storing S was rec 0 → AddGiven S was rec (Err r) was
  add_refused r e = record { answer = e; memory = sym (given_no (λ _. stores S was rec 755) was (means_refused r e)) }

  pub add_made : (is : List ℕ) → outcome (Ok tt) ≡ storing S was rec 0 → is ≡ stores S was rec 755 → AddGiven S was rec (Ok tt) is
  add_made is e s = record { answer = e; memory = s ∙ sym (given_yes (λ _. stores S was rec 755) was (means_done e)) }

  -- what a store that may be made needs
  module _ (two : 2 ≤ S) (byte : S ≤ 128) (k : ℕ) (e : outcome (Ok tt) ≡ storing S was rec k) where
    pub made_ring : IsRing S was
    made_ring = (storing_means S was rec k two byte (means_done e)).0

    pub made_long : length rec ≡ 754
    made_long = reads_length rec (storing_means S was rec k two byte (means_done e)).1

    pub made_bound : k < 755
    made_bound = (storing_means S was rec k two byte (means_done e)).2

-- and what each of the 755 needs
pub still_ring : (S : ℕ) (was mem rec : List ℕ) (n : ℕ) → 2 ≤ S → S ≤ 128 → outcome (Ok tt) ≡ storing S was rec 0 → n < 755 → mem ≡ stores S was rec n → IsRing S mem
still_ring S was mem rec n two byte e l m = rw m (ring_bytes S was rec n (omega arith) (made_ring S was rec two byte 0 e))

module _ (S : ℕ) (mem : List ℕ) where
  pub erase_refused : length mem ≢ 1 + 768 * S → EraseGiven S mem (Err NotARing) mem
  unfolding erasing
  erase_refused n =
      let no = size_no S mem (gives tt) n in
      record { answer = refused_is NotARing no; memory = sym (given_no (λ _. erased mem) mem no) }

  pub erase_made : length mem ≡ 1 + 768 * S → EraseGiven S mem (Ok tt) (erased mem)
  unfolding erasing
  erase_made e =
      let ok = size_ok S mem (gives tt) e in
      record { answer = done_is ok; memory = sym (given_yes (λ _. erased mem) mem ok) }
