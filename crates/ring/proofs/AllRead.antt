-- Turns that all read: `all_append` (of two lists together), `all_at` (each of them reads), `all_last` (so do the last ones).
use Prim.Native.Nat.{ℕ, zero, suc, ◌-◌, ◌<◌}
use mathlib.Core.Path.{◌≡◌, refl, sym, ap, ◌∙◌}
use mathlib.Core.Bool.{Bool, true, false, ◌&&◌, and_assoc, false≢true}
use mathlib.Core.List.{List, [], ◌∷◌, ◌++◌}
use native.Mathlib.Omega.{arith}
use lib.ListN.{length, get_or, drop}
use Rattle.record.specs.Record.{reads}
use Rattle.paper.proofs.Cases.{both_hold}
use Rattle.ring.specs.Ring.{head_of, held, turn_at, first_turns, turns}
use Rattle.ring.specs.Answers.{is_all_read}
use Rattle.ring.specs.History.{last}
use Rattle.ring.proofs.Turns.{length-turns, get_or-turns}

pub all_append : (ts us : List (List ℕ)) → is_all_read (ts ++ us) ≡ (is_all_read ts && is_all_read us)
unfolding is_all_read
all_append [] us = refl
all_append (t ∷ ts) us = ap (λ (b : Bool). reads t && b) (all_append ts us) ∙ sym (and_assoc (reads t) (is_all_read ts) (is_all_read us))

-- one more
pub all_more : (ts : List (List ℕ)) (t : List ℕ) → is_all_read ts ≡ true → reads t ≡ true → is_all_read (ts ++ t ∷ []) ≡ true
unfolding is_all_read
all_more ts t p q = all_append ts (t ∷ []) ∙ rw (p, q)

pub all_at : (ts : List (List ℕ)) (i : ℕ) → is_all_read ts ≡ true → i < length ts → reads (get_or ts i []) ≡ true
unfolding is_all_read
all_at [] i p l = absurd (omega arith)
all_at (t ∷ ts) zero p l = (both_hold (reads t) (is_all_read ts) p).0
all_at (t ∷ ts) (suc i) p l = all_at ts i (both_hold (reads t) (is_all_read ts) p).1 (omega arith)

all_drop : (n : ℕ) (ts : List (List ℕ)) → is_all_read ts ≡ true → is_all_read (drop n ts) ≡ true
unfolding is_all_read
all_drop zero ts p = p
all_drop (suc n) [] p = p
all_drop (suc n) (t ∷ ts) p = all_drop n ts (both_hold (reads t) (is_all_read ts) p).1

pub all_last : (n : ℕ) (ts : List (List ℕ)) → is_all_read ts ≡ true → is_all_read (last n ts) ≡ true
unfolding last
all_last n ts p = all_drop (length ts - n) ts p

-- ---- of the turns of a ring

pub all_turn : (S : ℕ) (mem : List ℕ) (i : ℕ) → is_all_read (turns S mem) ≡ true → i < held S (head_of mem) → reads (turn_at S mem i) ≡ true
all_turn S mem i p l =
    ap reads (sym (get_or-turns S mem i l)) ∙ all_at (turns S mem) i p (rw (length-turns S mem) l)

-- one that does not read is enough
pub one_not : (S : ℕ) (mem : List ℕ) (i : ℕ) → i < held S (head_of mem) → reads (turn_at S mem i) ≡ false → is_all_read (turns S mem) ≡ false
one_not S mem i l r = go (is_all_read (turns S mem)) refl
  where
    go : (t : Bool) → is_all_read (turns S mem) ≡ t → is_all_read (turns S mem) ≡ false
    go true e = absurd (false≢true (sym r ∙ all_turn S mem i e l))
    go false e = e

pub first_more : (S : ℕ) (mem : List ℕ) (i : ℕ) → is_all_read (first_turns S mem i) ≡ true → reads (turn_at S mem i) ≡ true
    → is_all_read (first_turns S mem (suc i)) ≡ true
unfolding first_turns
first_more S mem i p q = all_more (first_turns S mem i) (turn_at S mem i) p q
