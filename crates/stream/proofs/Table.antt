-- The reader is a lawful framing (`reader_lawful`), each phase looks by a window (`by_window`), and a byte makes one thing due at most (`one_thing`).
use mathlib.Core.Path.{◌≡◌, refl, ap₂}
use mathlib.Core.Bool.{Bool, true, false, cond}
use mathlib.Core.List.{List, [], ◌∷◌, append-nil, flat_map}
use Prim.Native.Nat.{ℕ, ◌≤◌}
use native.Mathlib.Omega.{arith}
use borrow.Author.Tests.{eqb-true, eq-eqb}
use lib.ListN.{length}
use Rattle.paper.proofs.Cases.{both_hold}
use Rattle.framing.specs.Framing.{more, Lawful, State, fed, test}
use Rattle.paper.specs.Outcome.{Outcome, gives, refuses, if_given}
use Rattle.framing.specs.Run.{run, events}
use Rattle.framing.specs.Stages.{Verdict, fails, passes, spoiled, step_of}
use Rattle.framing.specs.Calls.{outputs}
use Rattle.framing.proofs.Stages.{staged_lawful, windowed_within}
use Rattle.framing.proofs.Windows.{ByWindow, one_output}
use Rattle.wire.specs.Sample.{sample_of}
use Rattle.wire.specs.Reply.{health_of}
use Rattle.wire.specs.Descriptor.{info_descriptor, health_descriptor, scan_descriptor}
use Rattle.stream.specs.declared.Phase.{Phase}
use Rattle.stream.specs.declared.Phase.TheVariants.{Idle, SeekInfo, SeekHealth, SeekScan, InfoReply, HealthReply, Scanning}
use Rattle.stream.specs.Table.{Event, descriptor, reply, bad_health, samples, same, seeking, read_health, read_sample, things_of, width, says, follows, looks, reader, giving}

pub width_pos : (p : Phase) → 1 ≤ width p
unfolding width
width_pos Idle = omega arith
width_pos SeekInfo = omega arith
width_pos SeekHealth = omega arith
width_pos SeekScan = omega arith
width_pos InfoReply = omega arith
width_pos HealthReply = omega arith
width_pos Scanning = omega arith

pub width_most : (p : Phase) → width p ≤ 20
unfolding width
width_most Idle = omega arith
width_most SeekInfo = omega arith
width_most SeekHealth = omega arith
width_most SeekScan = omega arith
width_most InfoReply = omega arith
width_most HealthReply = omega arith
width_most Scanning = omega arith

pub reader_lawful : Lawful reader
reader_lawful = staged_lawful looks follows (λ p. windowed_within (width p) (says p) 0 (width_pos p))

pub by_window : (p : Phase) → ByWindow reader p (width p) (says p)
by_window p = record { pos = width_pos p; win = λ xs. refl }

-- ---- the test of two lists

pub same_true : (xs ys : List ℕ) → same xs ys ≡ true → xs ≡ ys
unfolding same
same_true [] [] e = refl
same_true [] (y ∷ ys) e = cc
same_true (x ∷ xs) [] e = cc
same_true (x ∷ xs) (y ∷ ys) e = let h = both_hold _ _ e in ap₂ {C = List ℕ} ◌∷◌ (eqb-true x y h.0) (same_true xs ys h.1)

pub same_refl : (xs : List ℕ) → same xs xs ≡ true
unfolding same
same_refl [] = refl
same_refl (x ∷ xs) = rw (eq-eqb x x refl) (same_refl xs)

-- ---- each window gives one thing at most

by_given : {A : Type 0} (n : ℕ) (o : Outcome A) (e : A → Event) (v : Verdict Event) → ((a : A) → length (things_of (e a)) ≤ 1) → length (outputs giving (step_of n v ∷ [])) ≤ 1
    → length (outputs giving (step_of n (if_given o (λ a. passes (e a)) v) ∷ [])) ≤ 1
unfolding if_given step_of outputs events flat_map
by_given n (gives a) e v h k = rw append-nil (h a)
by_given n (refuses m) e v h k = k

one_head : (d w : List ℕ) → length (outputs giving (step_of 7 (seeking d w) ∷ [])) ≤ 1
unfolding seeking step_of outputs events flat_map things_of
one_head d w = by (same w d)
  where
    by : (t : Bool) → length (outputs giving (step_of 7 (cond t (passes descriptor) fails) ∷ [])) ≤ 1
    by true = omega arith
    by false = omega arith

window_one : (p : Phase) (w : List ℕ) → length (outputs giving (step_of (width p) (says p w) ∷ [])) ≤ 1
unfolding width says read_health read_sample step_of outputs events flat_map things_of
window_one Idle w = omega arith
window_one SeekInfo w = one_head info_descriptor w
window_one SeekHealth w = one_head health_descriptor w
window_one SeekScan w = one_head scan_descriptor w
window_one InfoReply w = omega arith
window_one HealthReply w = by_given 3 (health_of w) (λ h. reply w) (spoiled bad_health) (λ h. omega arith) (omega arith)
window_one Scanning w = by_given 5 (sample_of w) (λ m. samples (m ∷ [])) fails (λ m. omega arith) (omega arith)

-- a byte makes one thing due at most, so nothing is ever left due
pub one_thing : (s : State Phase) (b : ℕ) → test reader s ≡ more → length (outputs giving (run reader (fed s (b ∷ []))).steps) ≤ 1
one_thing s b e = one_output reader_lawful (by_window s.phase) giving (window_one s.phase) s.bytes b e
