-- DEMAND 3. The theorem is `crash_safe`; `after_every_store` says the same of each single store, `add_is_stores` and
-- `add_keeps` what adding whole comes to.
--
-- What it rests on beside the promises: a store of one byte happens whole or not at all, the memory holds what was stored, and stores
-- reach the memory in the order of the calls. So the guarantee is for each call of `store`. A promise sees the memory at exit only:
-- inside one call of `add` the 755 stores are as safe as the machine's order of its own stores lets them be, and after the call they are.
use Prim.Native.Nat.{ℕ, zero, suc, ◌+◌, ◌-◌, ◌*◌, ◌≤◌, ◌<◌}
use mathlib.Core.Path.{◌≡◌, refl, sym, ap, ◌∙◌}
use mathlib.Core.Bool.{true}
use mathlib.Core.Logic.{⊎_elim}
use mathlib.Core.List.{List, [], ◌∷◌, ◌++◌}
use native.Mathlib.Omega.{arith}
use lib.ListN.{length, get_or-eq_default}
use borrow.Author.Tests.{lt-ltb}
use Rattle.paper.specs.Outcome.{Outcome, gives, refuses, mapped}
use Rattle.std.specs.Prelude.{Result, Ok}
use Rattle.paper.specs.Refusals.{outcome}
use Rattle.paper.specs.declared.refusal.Refusal.{Refusal}
use Rattle.paper.proofs.Refusals.{outcome_one}
use Rattle.record.specs.Record.{reads}
use Rattle.ring.specs.Ring.{head_of, IsRing, held, turn_at, first_turns, turns, store, stores, erased}
use Rattle.ring.specs.Answers.{is_all_read, counting, storing, reading, erasing}
use Rattle.ring.specs.History.{last, Event, attempt, erasure, after, tried, kept}
use Rattle.ring.specs.Promises.{AddGiven, EraseGiven}
use Rattle.ring.specs.Calls.{Stored, Led, Proper, Start, ReadsAs}
use Rattle.ring.specs.inner.Checks.{ringing}
use Rattle.std.proofs.lemmas.Bool.{cases_lt}
use Rattle.ring.proofs.Turns.{length-turns, get_or-turns, ring_erased, turns_erased}
use Rattle.ring.proofs.Answered.{
  done_is,
  given_yes,
  given_no,
  size_ok,
  ring_ok,
  storing_ok,
  storing_means,
  storing_all,
  asking_number,
  asking_ok,
  reading_none,
  reading_ok,
}
use Rattle.ring.proofs.AllRead.{all_turn, all_last, all_more}
use Rattle.ring.proofs.Histories.{ring_stores, turns_stores, ring_after, turns_after, all_kept}

-- ---- where a history may start

module _ (S : ℕ) (mem : List ℕ) (two : 2 ≤ S) (byte : S ≤ 128) (size : length mem ≡ 1 + 768 * S) where
  -- a memory of the right length with head 0
  pub empty_starts : head_of mem ≡ 0 → Start S mem
  empty_starts e =
      record {
        ring = record { two_slots = two; head_is_byte = byte; size = size; head = rw e (omega arith) };
        all_read = none;
      }
    where
      none : is_all_read (turns S mem) ≡ true
      none = unfold turns held first_turns is_all_read in (rw (e, lt-ltb 0 S (omega arith)))

  -- whatever is erased
  pub erased_starts : Start S (erased mem)
  erased_starts =
      record {
        ring = ring_erased S mem two size byte;
        all_read = rw (turns_erased S mem two size) (unfold is_all_read in refl);
      }

-- ---- the functions of the code read a ring as its turns

module _ (S : ℕ) (mem : List ℕ) (s : Start S mem) where
  ringed : ringing S mem ≡ gives tt
  ringed = ring_ok S mem (gives tt) s.ring.size s.ring.head

  read_there : (i : ℕ) → i < held S (head_of mem) → reading S mem i ≡ gives (turn_at S mem i)
  read_there i l = reading_ok S mem i (asking_ok S mem i ringed l) (all_turn S mem i s.all_read l)

  pub reads_turns : ReadsAs S mem (turns S mem)
  reads_turns =
      record {
        count = λ r p.
            outcome_one r (Ok (length (turns S mem)))
            (p.answer ∙ unfold counting outcome in (ring_ok S mem _ s.ring.size s.ring.head ∙ ap gives (sym (length-turns S mem))));
        each = λ i part p.
            p.answer
            ∙ ⊎_elim
            (λ l. given_yes (λ t. t) [] (read_there i l) ∙ sym (get_or-turns S mem i l))
            (λ g.
            given_no (λ t. t) [] (reading_none S mem i (asking_number S mem i ringed g))
            ∙ sym (get_or-eq_default (turns S mem) [] (rw (length-turns S mem) g)))
            (cases_lt i (held S (head_of mem)));
        there = λ i r l p.
            outcome_one r (Ok tt)
            (p.answer ∙ ap (mapped (λ _. tt)) (read_there i (rw (length-turns S mem) at l)) ∙ unfold mapped in (sym (done_is refl)));
        all_read = s.all_read;
      }

-- ---- calls lead to the memory that the definitions say

pub stored_is : (S : ℕ) (was rec : List ℕ) (n : ℕ) (is : List ℕ) → IsRing S was → reads rec ≡ true → n ≤ 755 → Stored S was rec n is → is ≡ stores S was rec n
unfolding Stored stores
stored_is S was rec zero is v r b c = c
stored_is S was rec (suc n) is v r b c =
    let mid : c.0 ≡ stores S was rec n = stored_is S was rec n c.0 v r (omega arith) c.2 in
    let ring : IsRing S c.0 = rw mid (ring_stores S was rec n v r (omega arith)) in
    c.3.memory
    ∙ given_yes (λ _. store S c.0 rec n) c.0
    (storing_ok S c.0 rec n (ring_ok S c.0 (gives tt) ring.size ring.head) r (omega arith))
    ∙ ap (λ (m : List ℕ). store S m rec n) mid

erased_is : (S : ℕ) (was is : List ℕ) (r : Result (Unit {0}) Refusal) → IsRing S was → EraseGiven S was r is → is ≡ erased was
erased_is S was is r v c = c.memory ∙ given_yes (λ _. erased was) was (unfold erasing in (size_ok S was (gives tt) v.size))

pub led_is : (S : ℕ) (was : List ℕ) (l : List Event) (is : List ℕ) → IsRing S was → Proper l → Led S was l is → is ≡ after S was l
unfolding Led after Proper
led_is S was [] is v p c = c
led_is S was (attempt rec n ∷ l) is v p c =
    let mid : c.0 ≡ stores S was rec n = stored_is S was rec n c.0 v p.0 p.1 c.1 in
    led_is S c.0 l is (rw mid (ring_stores S was rec n v p.0 p.1)) p.2 c.2 ∙ ap (λ (m : List ℕ). after S m l) mid
led_is S was (erasure ∷ l) is v p c =
    let mid : c.0 ≡ erased was = erased_is S was c.0 c.1 v c.2 in
    led_is S c.0 l is (rw mid (ring_erased S was v.two_slots v.size v.head_is_byte)) p c.3 ∙ ap (λ (m : List ℕ). after S m l) mid

-- ---- THE THEOREM

module _ (S : ℕ) (mem : List ℕ) (l : List Event) (is : List ℕ) (s : Start S mem) (p : Proper l) (c : Led S mem l is) where
  led_turns : turns S is ≡ last (S - 1) (kept (turns S mem) l)
  led_turns = ap (turns S) (led_is S mem l is s.ring p c) ∙ turns_after S mem l s.ring p

  -- any history leaves a memory from which any other may start
  pub start_after : Start S is
  start_after =
      record {
        ring = rw (led_is S mem l is s.ring p c) (ring_after S mem l s.ring p);
        all_read = rw led_turns (all_last (S - 1) (kept (turns S mem) l) (all_kept (turns S mem) l s.all_read p));
      }

  -- After any history of attempts, each broken off after any number of its stores or whole, and of erasures, the functions of the code
  -- read the ring as the last S - 1 of (the turns held at the start or since the last erasure, followed by those whose last store was
  -- made), byte for byte, and all of them read.
  pub crash_safe : ReadsAs S is (last (S - 1) (kept (turns S mem) l))
  crash_safe = rw led_turns at (reads_turns S is start_after)

-- And so after every single store of the attempt that follows: until its last store the ring reads as before, and then with the record.
pub after_every_store : (S : ℕ) (mem : List ℕ) (l : List Event) (mid rec : List ℕ) (n : ℕ) (is : List ℕ)
    → Start S mem → Proper l → Led S mem l mid → reads rec ≡ true → n ≤ 755 → Stored S mid rec n is
    → ReadsAs S is (last (S - 1) (tried (last (S - 1) (kept (turns S mem) l)) rec n))
unfolding kept Proper Led
after_every_store S mem l mid rec n is s p c r b d =
    let before : turns S mid ≡ last (S - 1) (kept (turns S mem) l) = led_turns S mem l mid s p c in
    let one : List Event = attempt rec n ∷ [] in
    let after : ReadsAs S is (last (S - 1) (tried (turns S mid) rec n)) =
    crash_safe S mid one is (start_after S mem l mid s p c) (r, b, tt) (is, d, refl) in
    rw before at after

-- ---- adding whole equals the 755 stores in order, also where they are refused

stored_none : (S : ℕ) (was rec : List ℕ) (m n : ℕ) (is : List ℕ) → storing S was rec 0 ≡ refuses m → n ≤ 755 → Stored S was rec n is → is ≡ was
unfolding Stored
stored_none S was rec m zero is e b c = c
stored_none S was rec m (suc n) is e b c =
    let mid : c.0 ≡ was = stored_none S was rec m n c.0 e (omega arith) c.2 in
    c.3.memory
    ∙ given_no {m = m} (λ _. store S c.0 rec n) c.0 (rw mid (storing_all S was rec n (omega arith) e))
    ∙ mid

pub add_is_stores : (S : ℕ) (was rec is js : List ℕ) (r : Result (Unit {0}) Refusal) → 2 ≤ S → S ≤ 128 → Stored S was rec 755 is → AddGiven S was rec r js → is ≡ js
add_is_stores S was rec is js r two byte c d = go (storing S was rec 0) refl
  where
    go : (o : Outcome (Unit {0})) → storing S was rec 0 ≡ o → is ≡ js
    go (gives u) e =
        let may = storing_means S was rec 0 two byte e in
        stored_is S was rec 755 is may.0 may.1 (omega arith) c ∙ sym (d.memory ∙ given_yes (λ _. stores S was rec 755) was e)
    go (refuses m) e = stored_none S was rec m 755 is e (omega arith) c ∙ sym (d.memory ∙ given_no (λ _. stores S was rec 755) was e)

-- and so a whole record is the newest turn after `add`
pub add_keeps : (S : ℕ) (was rec is : List ℕ) (r : Result (Unit {0}) Refusal) → Start S was → reads rec ≡ true → AddGiven S was rec r is
    → ReadsAs S is (last (S - 1) (turns S was ++ rec ∷ []))
add_keeps S was rec is r s e d =
    let v = s.ring in
    let may : storing S was rec 0 ≡ gives tt = storing_ok S was rec 0 (ring_ok S was (gives tt) v.size v.head) e (omega arith) in
    let made : is ≡ stores S was rec 755 = d.memory ∙ given_yes (λ _. stores S was rec 755) was may in
    let new : turns S is ≡ last (S - 1) (turns S was ++ rec ∷ []) = ap (turns S) made ∙ turns_stores S was rec 755 v e (omega arith) in
    let after : Start S is =
    record {
      ring = rw made (ring_stores S was rec 755 v e (omega arith));
      all_read = rw new (all_last (S - 1) (turns S was ++ rec ∷ []) (all_more (turns S was) rec s.all_read e));
    } in
    rw new at (reads_turns S is after)
