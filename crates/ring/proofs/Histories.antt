-- Histories, over the definitions: `ring_after` (the memory stays a ring) and `turns_after` (its turns are the last S - 1 of those kept).
use Prim.Native.Nat.{ℕ, ◌-◌, ◌≤◌}
use mathlib.Core.Path.{◌≡◌, refl, sym, ap, ◌∙◌}
use mathlib.Core.Bool.{true}
use mathlib.Core.Logic.{⊎_elim}
use mathlib.Core.List.{List, [], ◌∷◌, ◌++◌, append-nil}
use native.Mathlib.Omega.{arith}
use borrow.Author.Tests.{lt-ltb, le-ltb}
use Rattle.record.specs.Record.{reads}
use Rattle.record.proofs.Reading.{reads_length}
use Rattle.ring.specs.Ring.{IsRing, turns, stores, erased}
use Rattle.ring.specs.Answers.{is_all_read}
use Rattle.ring.specs.History.{last, Event, attempt, erasure, after, tried, kept}
use Rattle.ring.specs.Calls.{Proper}
use Rattle.ring.proofs.Lists.{last_all, last_last}
use Rattle.std.proofs.lemmas.Bool.{cases_lt}
use Rattle.ring.proofs.Stores.{ring_bytes, ring_whole}
use Rattle.ring.proofs.Turns.{turns_bytes, turns_whole, turns_fit, ring_erased, turns_erased}
use Rattle.ring.proofs.AllRead.{all_more}

module _ (S : ℕ) (mem rec : List ℕ) (n : ℕ) (v : IsRing S mem) (r : reads rec ≡ true) (b : n ≤ 755) where
  pub ring_stores : IsRing S (stores S mem rec n)
  ring_stores =
      ⊎_elim
      (λ l. ring_bytes S mem rec n (omega arith) v)
      (λ g.
      let e : n ≡ 755 = omega arith in
      rw e (ring_whole S mem rec (reads_length rec r) v))
      (cases_lt n 755)

  -- a turn is kept exactly when its last store was made
  pub turns_stores : turns S (stores S mem rec n) ≡ last (S - 1) (tried (turns S mem) rec n)
  turns_stores =
      ⊎_elim
      (λ l. rw (lt-ltb n 755 l) (turns_bytes S mem rec v n (omega arith) ∙ sym (last_all (S - 1) (turns S mem) (turns_fit S mem v))))
      (λ g.
      let e : n ≡ 755 = omega arith in
      rw (le-ltb n 755 g) (rw e (turns_whole S mem rec v (reads_length rec r))))
      (cases_lt n 755)

-- ---- of what is kept only the last ones matter

last_tried : (m : ℕ) (ts us : List (List ℕ)) (rec : List ℕ) (n : ℕ) → last m ts ≡ last m us → last m (tried ts rec n) ≡ last m (tried us rec n)
last_tried m ts us rec n e =
    ⊎_elim
    (λ l. rw (lt-ltb n 755 l) e)
    (λ g.
    rw (le-ltb n 755 g)
    (sym (last_last m ts (rec ∷ [])) ∙ ap (λ (l : List (List ℕ)). last m (l ++ rec ∷ [])) e ∙ last_last m us (rec ∷ [])))
    (cases_lt n 755)

last_kept : (m : ℕ) (ts us : List (List ℕ)) (l : List Event) → last m ts ≡ last m us → last m (kept ts l) ≡ last m (kept us l)
unfolding kept
last_kept m ts us [] e = e
last_kept m ts us (attempt rec n ∷ l) e = last_kept m (tried ts rec n) (tried us rec n) l (last_tried m ts us rec n e)
last_kept m ts us (erasure ∷ l) e = refl

last_idem : (m : ℕ) (ts : List (List ℕ)) → last m (last m ts) ≡ last m ts
last_idem m ts = sym (ap (last m) (append-nil (last m ts))) ∙ last_last m ts [] ∙ ap (last m) (append-nil ts)

-- ---- any history

pub ring_after : (S : ℕ) (mem : List ℕ) (l : List Event) → IsRing S mem → Proper l → IsRing S (after S mem l)
unfolding after Proper
ring_after S mem [] v p = v
ring_after S mem (attempt rec n ∷ l) v p = ring_after S (stores S mem rec n) l (ring_stores S mem rec n v p.0 p.1) p.2
ring_after S mem (erasure ∷ l) v p = ring_after S (erased mem) l (ring_erased S mem v.two_slots v.size v.head_is_byte) p

pub turns_after : (S : ℕ) (mem : List ℕ) (l : List Event) → IsRing S mem → Proper l → turns S (after S mem l) ≡ last (S - 1) (kept (turns S mem) l)
unfolding after kept Proper
turns_after S mem [] v p = sym (last_all (S - 1) (turns S mem) (turns_fit S mem v))
turns_after S mem (attempt rec n ∷ l) v p =
    let next = tried (turns S mem) rec n in
    turns_after S (stores S mem rec n) l (ring_stores S mem rec n v p.0 p.1) p.2
    ∙ last_kept (S - 1) (turns S (stores S mem rec n)) next l
    (ap (last (S - 1)) (turns_stores S mem rec n v p.0 p.1) ∙ last_idem (S - 1) next)
turns_after S mem (erasure ∷ l) v p =
    turns_after S (erased mem) l (ring_erased S mem v.two_slots v.size v.head_is_byte) p
    ∙ ap (λ (ts : List (List ℕ)). last (S - 1) (kept ts l)) (turns_erased S mem v.two_slots v.size)

-- what is kept reads
all_tried : (ts : List (List ℕ)) (rec : List ℕ) (n : ℕ) → is_all_read ts ≡ true → reads rec ≡ true → is_all_read (tried ts rec n) ≡ true
all_tried ts rec n a r = ⊎_elim (λ l. rw (lt-ltb n 755 l) a) (λ g. rw (le-ltb n 755 g) (all_more ts rec a r)) (cases_lt n 755)

pub all_kept : (ts : List (List ℕ)) (l : List Event) → is_all_read ts ≡ true → Proper l → is_all_read (kept ts l) ≡ true
unfolding kept Proper
all_kept ts [] a p = a
all_kept ts (attempt rec n ∷ l) a p = all_kept (tried ts rec n) l (all_tried ts rec n a p.0) p.2
all_kept ts (erasure ∷ l) a p = all_kept [] l none p
  where
    none : is_all_read [] ≡ true
    none = unfold is_all_read in refl
