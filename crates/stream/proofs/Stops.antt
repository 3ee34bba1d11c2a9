-- What stops 0 and 1 say of a call that the promise allows: `stop_all` and `stop_room`. The others are in RightAfter.antt.
use mathlib.Core.Path.{◌≡◌, refl, sym, ap, ◌∙◌}
use mathlib.Core.Bool.{Bool, true, false, cond}
use mathlib.Core.List.{List, [], ◌∷◌, ◌++◌, flat_map}
use Prim.Native.Nat.{ℕ, suc, ◌+◌, ◌≤◌, ◌<◌}
use native.Mathlib.Nat.{lt_of_not-le}
use native.Mathlib.Decide.{dec_le}
use native.Mathlib.Omega.{arith}
use lib.ListN.{length, drop, length-append}
use lib.Seq.{take_all}
use Rattle.paper.specs.Outcome.{Outcome, gives, refuses, if_given}
use Rattle.framing.specs.Framing.{more, State, fed, test}
use Rattle.framing.specs.Run.{run, stopped, stepped, events}
use Rattle.framing.specs.Stages.{Verdict, fails, passes, spoiled, step_of}
use Rattle.framing.specs.Calls.{outputs, Stop as Reason, all_taken, ended_by, no_room, Answer}
use Rattle.framing.proofs.Stops.{Ended, Blocked, by_due, by_next, call_all, call_blocked, call_ended}
use Rattle.framing.proofs.Windows.{more_few, run_few, run_exact}
use Rattle.wire.specs.declared.sample.Sample.{Sample}
use Rattle.wire.specs.Sample.{sample_of}
use Rattle.wire.specs.Reply.{health_of}
use Rattle.wire.specs.Descriptor.{info_descriptor, health_descriptor, scan_descriptor}
use Rattle.stream.specs.Stops.{stop_of}
use Rattle.stream.specs.declared.Phase.{Phase}
use Rattle.stream.specs.declared.Phase.TheVariants.{Idle, SeekInfo, SeekHealth, SeekScan, InfoReply, HealthReply, Scanning}
use Rattle.stream.specs.declared.Stop.{Stop}
use Rattle.stream.specs.declared.Stop.TheVariants.{AllTaken, NoRoom}
use Rattle.stream.specs.declared.Reader.{Reader}
use Rattle.stream.specs.declared.Reading.{Reading}
use Rattle.stream.specs.Table.{Event, descriptor, reply, bad_health, samples, Thing, headed, replied, unread, point, read_health, read_sample, same, seeking, width, says, reader, giving, things_of, words_for, ends_call}
use Rattle.stream.specs.State.{meaning}
use Rattle.stream.specs.Promises.{called, row_given, Reads}
use Rattle.stream.proofs.Table.{reader_lawful, by_window}
use Rattle.stream.proofs.Determined.{stop_one}
use Rattle.stream.proofs.History.{call_means, call_none_due}
use Rattle.stream.proofs.inner.Promise.{row_length, three_most, waits}

-- ---- the code's stop is the reason's

reason_all : (w : Reason Thing) → stop_of w ≡ AllTaken → ((m : Sample) → w ≡ ended_by (point m) → ⊥) → w ≡ all_taken
unfolding stop_of
reason_all all_taken e f = refl
reason_all no_room e f = cc
reason_all (ended_by headed) e f = cc
reason_all (ended_by (replied w)) e f = cc
reason_all (ended_by unread) e f = cc
reason_all (ended_by (point m)) e f = absurd (f m refl)

reason_room : (w : Reason Thing) → stop_of w ≡ NoRoom → w ≡ no_room
unfolding stop_of
reason_room all_taken e = cc
reason_room no_room e = refl
reason_room (ended_by headed) e = cc
reason_room (ended_by (replied w)) e = cc
reason_room (ended_by unread) e = cc
reason_room (ended_by (point m)) e = cc

-- ---- stop 1

-- a byte that makes words due completes a sample, of which four bytes are held
pub record Completes (s : State Phase) (b : ℕ) : Type 0 where
  pub scans : s.phase ≡ Scanning
  pub four : length s.bytes ≡ 4
  pub sample : Sample
  pub reads : sample_of (s.bytes ++ b ∷ []) ≡ gives sample

-- the words of the first thing
first_words : List Thing → ℕ
first_words [] = 0
first_words (x ∷ xs) = words_for x

by_given : {A : Type 0} (n : ℕ) (o : Outcome A) (e : Event) (v : Verdict Event) → first_words (outputs giving (step_of n (passes e) ∷ [])) ≡ 0 → first_words (outputs giving (step_of n v ∷ [])) ≡ 0
    → first_words (outputs giving (step_of n (if_given o (λ a. passes e) v) ∷ [])) ≡ 0
unfolding if_given
by_given n (gives a) e v h k = h
by_given n (refuses m) e v h k = k

head_words : (d w : List ℕ) → first_words (outputs giving (step_of 7 (seeking d w) ∷ [])) ≡ 0
unfolding seeking step_of outputs events flat_map things_of first_words words_for
head_words d w = by (same w d)
  where
    by : (t : Bool) → first_words (outputs giving (step_of 7 (cond t (passes descriptor) fails) ∷ [])) ≡ 0
    by true = refl
    by false = refl

-- only a scan's window has words, and only if it reads
window_words : (p : Phase) (w : List ℕ) → 1 ≤ first_words (outputs giving (step_of (width p) (says p w) ∷ [])) → (p ≡ Scanning) × ((m : Sample) × (sample_of w ≡ gives m))
unfolding width says read_health read_sample step_of outputs events flat_map things_of first_words words_for if_given
window_words Idle w h = absurd (omega arith)
window_words SeekInfo w h = absurd (omega (arith, head_words info_descriptor w))
window_words SeekHealth w h = absurd (omega (arith, head_words health_descriptor w))
window_words SeekScan w h = absurd (omega (arith, head_words scan_descriptor w))
window_words InfoReply w h = absurd (omega arith)
window_words HealthReply w h = absurd (omega (arith, by_given 3 (health_of w) (reply w) (spoiled bad_health) refl refl))
window_words Scanning w h = (refl, by (sample_of w) refl h)
  where
    by : (o : Outcome Sample) → sample_of w ≡ o → 1 ≤ first_words (outputs giving (step_of 5 (if_given o (λ m. passes (samples (m ∷ []))) fails) ∷ [])) → (m : Sample) × (sample_of w ≡ gives m)
    by (gives m) e k = (m, e)
    by (refuses n) e k = absurd (omega arith)

five : width Scanning ≡ 5
unfolding width
five = refl

completes : (s : State Phase) (b : ℕ) → test reader s ≡ more → 1 ≤ first_words (outputs giving (run reader (fed s (b ∷ []))).steps) → Completes s b
unfolding fed stopped stepped outputs events flat_map first_words
completes s b e h = elim (dec_le (width s.phase) (length (s.bytes ++ b ∷ []))) [
  | yes k ↦ full (omega (arith, more_few reader_lawful (by_window s.phase) s.bytes e, length-append s.bytes (b ∷ [])))
  | no k ↦ few (rw (run_few reader_lawful (by_window s.phase) (s.bytes ++ b ∷ []) (lt_of_not-le k)) at h)
]
  where
    few : 1 ≤ first_words (outputs giving []) → Completes s b
    few k = absurd (omega arith)

    full : length (s.bytes ++ b ∷ []) ≡ width s.phase → Completes s b
    full k =
        let w : List ℕ = s.bytes ++ b ∷ [] in
        let v = rw (run_exact reader_lawful (by_window s.phase) w k, take_all (width s.phase) w (omega arith)) at h in
        let x = window_words s.phase w v in
        record { scans = x.0; four = omega (arith, k, length-append s.bytes (b ∷ []), ap width x.0, five); sample = x.1.0; reads = x.1.1 }

-- a sample ends no call
point_ends : (xs : List Thing) (w : Reason Thing) → Ended reader giving xs w → (m : Sample) → w ≡ ended_by (point m) → ⊥
unfolding Ended ends_call
point_ends xs w h m e = let q = rw e at h in let y = q.3 in let z : ◌≡◌ {A = ℕ} 0 1 = cc in omega arith

module _ {s : Reader} {input was row : List ℕ} {r : Reading} (h : Reads s input was r row) where
  abbrev a : Answer Phase Event Thing
  a = called s input was

  reason : {x : Stop} → r.stop ≡ x → stop_of a.stop ≡ x
  reason e = sym (stop_one r.stop (stop_of a.stop) h.stop) ∙ e

  -- STOP 0: all input is taken
  pub stop_all : r.stop ≡ AllTaken → r.taken ≡ length input
  unfolding called
  stop_all e =
      let w : a.stop ≡ all_taken = reason_all a.stop (reason e) (point_ends a.given a.stop (call_ended reader giving (meaning s) [] input (length was))) in
      h.taken ∙ (call_all reader giving (meaning s) [] input (length was) w).0

  -- STOP 1: four bytes of a sample are held, the next byte would complete it, and fewer than three words are free
  pub record NoRoomLeft : Type 0 where
    pub next : ℕ
    pub there : drop r.taken input ≡ next ∷ drop (suc r.taken) input
    pub completes : Completes (meaning r.reader) next
    pub short : length was < r.words + 3

  blocked : Blocked reader giving input (length was) a → NoRoomLeft
  unfolding row_given first_words
  blocked (by_due x) = let y = sym x.is ∙ call_none_due h in let z : ◌≡◌ {A = ℕ} 0 1 = cc in absurd (omega arith)
  blocked (by_next b d t x) =
      let o = x.over in
      let f : 1 ≤ first_words (outputs giving (run reader (fed a.result.end (b ∷ []))).steps) = rw x.is (omega arith) in
      let m = call_means h in
      record {
        next = b;
        there = rw h.taken t;
        completes = rw m (completes a.result.end b (rw m at (waits r.reader)) f);
        short = omega (arith, o, h.words, row_length a.given, three_most x.thing);
      }

  pub stop_room : r.stop ≡ NoRoom → NoRoomLeft
  unfolding called
  stop_room e = blocked (call_blocked reader giving (meaning s) [] input (length was) (reason_room a.stop (reason e)))
