-- No answer depends on the last 14 bytes of a slot: `tails_ignored`, and `tails_unread` for the turns.
use Prim.Native.Nat.{ℕ, ◌+◌, ◌-◌, ◌*◌, ◌%◌, ◌<◌, min}
use mathlib.Core.Path.{◌≡◌, refl, sym, ap, ◌∙◌}
use mathlib.Core.Bool.{false, and-false}
use mathlib.Core.List.{List}
use native.Mathlib.Omega.{arith}
use lib.Dec.{ltb}
use lib.ListN.{drop, length-take, length-drop}
use lib.Seq.{ext_get_or, get_or-take, get_or-drop}
use borrow.Author.Tests.{lt-leb}
use Rattle.paper.specs.Outcome.{Outcome, gives}
use Rattle.ring.specs.Ring.{slot_start, head_of, held, slot_of, in_slot, turn_at, first_turns, turns}
use Rattle.ring.specs.Answers.{sized, of_ring, counting, storing, reading, reading_all, erasing}
use Rattle.ring.specs.Tails.{in_tail, SameButTails, SameAnswers}
use Rattle.ring.proofs.Turns.{same_first}

-- byte i of the record in slot s stands in no tail
record_byte : (s i : ℕ) → i < 754 → in_tail (slot_start s + i) ≡ false
unfolding in_tail
record_byte s i l =
    let low : (1 + 768 * s + i - 1) % 768 < 754 = omega arith in
    rw (lt-leb 754 ((1 + 768 * s + i - 1) % 768) low) (and-false (ltb 0 (slot_start s + i)))

module _ (S : ℕ) (mem other : List ℕ) (same : SameButTails mem other) where
  head_same : head_of mem ≡ head_of other
  head_same = same.bytes 0 (unfold in_tail in refl)

  slot_same : (s : ℕ) → in_slot s mem ≡ in_slot s other
  slot_same s =
      ext_get_or 0 (in_slot s mem) (in_slot s other)
      (simp (length-take, length-drop) (ap (λ (n : ℕ). min 754 (n - slot_start s)) same.size))
      (λ i b.
      let l : i < 754 = omega (arith, length-take 754 (drop (slot_start s) mem)) in
      get_or-take 754 (drop (slot_start s) mem) i 0 l
      ∙ get_or-drop (slot_start s) mem i 0
      ∙ same.bytes (slot_start s + i) (record_byte s i l)
      ∙ sym (get_or-take 754 (drop (slot_start s) other) i 0 l ∙ get_or-drop (slot_start s) other i 0))

  turn_same : (i : ℕ) → turn_at S mem i ≡ turn_at S other i
  unfolding turn_at
  turn_same i = ap (λ (h : ℕ). in_slot (slot_of S h i) mem) head_same ∙ slot_same (slot_of S (head_of other) i)

  pub tails_unread : turns S mem ≡ turns S other
  unfolding turns
  tails_unread = same_first S mem other (held S (head_of mem)) (λ i b. turn_same i) ∙ ap (λ (h : ℕ). first_turns S other (held S h)) head_same

  of_ring_same : {A : Type 0} (o : Outcome A) → of_ring S mem o ≡ of_ring S other o
  unfolding of_ring sized
  of_ring_same o = rw (same.size, head_same)

  pub tails_ignored : SameAnswers S mem other
  unfolding counting storing reading reading_all erasing sized
  tails_ignored =
      record {
        count = of_ring_same _ ∙ ap (λ (h : ℕ). of_ring S other (gives (held S h))) head_same;
        stored = λ rec k. of_ring_same _;
        read = λ i. of_ring_same _ ∙ rw (head_same, turn_same i);
        read_all = of_ring_same _ ∙ rw tails_unread;
        erase = rw same.size;
      }
