-- What a store touches: one byte (`one_byte`), which is in no turn that is held (`touches_no_turn`) and not in the last 14 bytes of a
-- slot (`touches_no_tail`).
use Prim.Native.Nat.{ℕ, ◌+◌, ◌-◌, ◌*◌, ◌%◌, ◌≤◌, ◌<◌}
use mathlib.Core.Path.{◌≡◌, refl, ap, ◌∙◌}
use mathlib.Core.Bool.{false}
use mathlib.Core.Logic.{◌≢◌, ⊎_elim}
use mathlib.Core.List.{List}
use native.Mathlib.Omega.{arith}
use lib.ListN.{length, get_or, length-set}
use lib.Seq.{get_or-set_other}
use borrow.Author.Tests.{lt-ltb, le-ltb, lt-leb}
use Rattle.paper.specs.Outcome.{Outcome, gives, refuses}
use Rattle.std.specs.Prelude.{Result}
use Rattle.paper.specs.declared.refusal.Refusal.{Refusal}
use Rattle.ring.specs.Ring.{slot_start, head_of, IsRing, held, slot_of, next_slot, touched, put, store}
use Rattle.ring.specs.Answers.{storing}
use Rattle.ring.specs.Tails.{in_tail}
use Rattle.ring.specs.Promises.{StoreGiven}
use Rattle.ring.proofs.Slots.{slot_free}
use Rattle.std.proofs.lemmas.Bool.{cases_lt}
use Rattle.ring.proofs.Answered.{given_yes, given_no}

-- a call of `store` changes no other byte, and no length, whatever it answers
pub one_byte : (S : ℕ) (was rec : List ℕ) (k : ℕ) (r : Result (Unit {0}) Refusal) (is : List ℕ) → StoreGiven S was rec k r is
    → (length is ≡ length was) × ((j : ℕ) → j ≢ touched S was k → get_or is j 0 ≡ get_or was j 0)
one_byte S was rec k r is p = go (storing S was rec k) refl
  where
    go : (o : Outcome (Unit {0})) → storing S was rec k ≡ o → (length is ≡ length was) × ((j : ℕ) → j ≢ touched S was k → get_or is j 0 ≡ get_or was j 0)
    go (gives u) e =
        let made : is ≡ store S was rec k = p.memory ∙ given_yes (λ _. store S was rec k) was e in (
          ap length made ∙ unfold store in (length-set was (touched S was k) (put S was rec k)),
          λ j n. ap (λ (m : List ℕ). get_or m j 0) made ∙ unfold store in (get_or-set_other was (touched S was k) j (put S was rec k) 0 n),
        )
    go (refuses m) e =
        let same : is ≡ was = p.memory ∙ given_no (λ _. store S was rec k) was e in
        (ap length same, λ j n. ap (λ (m : List ℕ). get_or m j 0) same)

-- where store k touches the memory: byte k of the slot that is written, or the head
touched_byte : (S : ℕ) (mem : List ℕ) (k : ℕ) → k < 754 → touched S mem k ≡ slot_start (next_slot S (head_of mem)) + k
unfolding touched
touched_byte S mem k l = rw (lt-ltb k 754 l)

touched_head : (S : ℕ) (mem : List ℕ) (k : ℕ) → 754 ≤ k → touched S mem k ≡ 0
unfolding touched
touched_head S mem k g = rw (le-ltb k 754 g)

module _ (S : ℕ) (mem : List ℕ) (k : ℕ) where
  pub touches_no_tail : in_tail (touched S mem k) ≡ false
  unfolding in_tail
  touches_no_tail =
      ⊎_elim
      (λ l.
      let n : ℕ = next_slot S (head_of mem) in
      let at : touched S mem k ≡ 1 + 768 * n + k = touched_byte S mem k l in
      let some : 0 < touched S mem k = omega arith in
      let low : (touched S mem k - 1) % 768 < 754 = omega arith in
      rw (lt-ltb 0 (touched S mem k) some, lt-leb 754 ((touched S mem k - 1) % 768) low))
      (λ g. rw (touched_head S mem k g))
      (cases_lt k 754)

  pub touches_no_turn : IsRing S mem → (i : ℕ) → i < held S (head_of mem)
      → let start = slot_start (slot_of S (head_of mem) i) in start ≤ touched S mem k → touched S mem k < start + 754 → ⊥
  touches_no_turn v i l from to =
      ⊎_elim
      (λ b.
      let at : touched S mem k ≡ 1 + 768 * next_slot S (head_of mem) + k = touched_byte S mem k b in
      slot_free S (head_of mem) v.two_slots v.head i l (omega arith))
      (λ g.
      let at : touched S mem k ≡ 0 = touched_head S mem k g in
      omega arith)
      (cases_lt k 754)
