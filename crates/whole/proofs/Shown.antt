-- What a ring holds after any history is what the listing shows (`history_listed`), and of records stored whole these are the last (`stored_listed`).
use Prim.Native.Nat.{ℕ, ◌-◌}
use mathlib.Core.Path.{◌≡◌, sym, ap, ◌∙◌}
use mathlib.Core.Bool.{true}
use mathlib.Core.List.{List, [], ◌∷◌, ◌++◌, append-nil, append_assoc}
use native.Mathlib.Omega.{arith}
use lib.ListN.{length}
use Rattle.paper.specs.Outcome.{gives}
use Rattle.paper.proofs.Cases.{both_hold}
use Rattle.record.specs.Record.{reads}
use Rattle.ring.specs.Ring.{head_of, held, turns}
use Rattle.ring.specs.Answers.{is_all_read, counting}
use Rattle.ring.specs.History.{last, Event, kept}
use Rattle.ring.specs.Calls.{Led, Proper, Start}
use Rattle.ring.proofs.Answered.{ring_ok}
use Rattle.ring.proofs.Turns.{length-turns}
use Rattle.ring.proofs.Histories.{turns_after}
use Rattle.ring.proofs.CrashSafe.{led_is, start_after}
use Rattle.listing.specs.Text.{lines, held_line, text_by, text_of}
use Rattle.whole.specs.Line.{wholly}

-- ---- histories of whole attempts

pub wholly_proper : (recs : List (List ℕ)) → is_all_read recs ≡ true → Proper (wholly recs)
unfolding wholly Proper is_all_read
wholly_proper [] e = tt
wholly_proper (rec ∷ recs) e = let b = both_hold (reads rec) (is_all_read recs) e in (b.0, omega arith, wholly_proper recs b.1)

pub wholly_kept : (ts recs : List (List ℕ)) → kept ts (wholly recs) ≡ ts ++ recs
unfolding wholly kept
wholly_kept ts [] = sym (append-nil ts)
wholly_kept ts (rec ∷ recs) = wholly_kept (ts ++ rec ∷ []) recs ∙ append_assoc ts (rec ∷ []) recs

-- ---- the listing

module _ (S : ℕ) (mem : List ℕ) (l : List Event) (is : List ℕ) (s : Start S mem) (p : Proper l) (c : Led S mem l is) where
  text_is : text_of S is ≡ held_line (length (turns S is)) ++ lines (turns S is)
  unfolding text_of text_by counting
  text_is =
      let r = (start_after S mem l is s p c).ring in
      rw (ring_ok S is (gives (held S (head_of is))) r.size r.head, ← length-turns S is)

  -- the text of a ring after any history: the count, and a line for each of the last S - 1 turns kept, oldest first
  pub history_listed : text_of S is ≡ held_line (length (last (S - 1) (kept (turns S mem) l))) ++ lines (last (S - 1) (kept (turns S mem) l))
  history_listed =
      let t : turns S is ≡ last (S - 1) (kept (turns S mem) l) = ap (turns S) (led_is S mem l is s.ring p c) ∙ turns_after S mem l s.ring p in
      text_is ∙ rw t

-- of records that read, stored whole behind the turns held
pub stored_listed : (S : ℕ) (mem : List ℕ) (recs : List (List ℕ)) (is : List ℕ) → Start S mem → is_all_read recs ≡ true → Led S mem (wholly recs) is
    → text_of S is ≡ held_line (length (last (S - 1) (turns S mem ++ recs))) ++ lines (last (S - 1) (turns S mem ++ recs))
stored_listed S mem recs is s e c = history_listed S mem (wholly recs) is s (wholly_proper recs e) c ∙ rw (wholly_kept (turns S mem) recs)
