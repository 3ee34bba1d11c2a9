-- No caller is stuck: `call_goes_on`: with a byte at hand and room for three words a call takes a byte; `goes_on_lem`: so every stream can be used up.
-- `taken_within` and `words_within`: a call's counts stay within what it was lent.
use mathlib.Core.Path.{refl}
use mathlib.Core.List.{List, [], ◌∷◌, ◌++◌, map, append-nil}
use Prim.Native.Nat.{ℕ, zero, suc, ◌+◌, ◌≤◌}
use native.Mathlib.Omega.{arith}
use lib.ListN.{length, drop, length-drop}
use Rattle.paper.specs.Writing.{over as over_row}
use Rattle.framing.specs.Run.{skipped}
use Rattle.framing.specs.Calls.{Answer as CallAnswer}
use Rattle.framing.specs.Stream.{Input, byte}
use Rattle.framing.proofs.Calls.{call_taken, call_progress}
use Rattle.wire.specs.declared.request.Request.{Request}
use Rattle.stream.specs.declared.Phase.{Phase}
use Rattle.stream.specs.declared.Reader.{Reader}
use Rattle.stream.specs.declared.Reading.{Reading}
use Rattle.stream.specs.Table.{Event, Thing, reader, giving}
use Rattle.stream.specs.State.{meaning, twenty, written}
use Rattle.stream.specs.Stops.{reply_for, stop_of}
use Rattle.stream.specs.Promises.{called, row_given, Reads}
use Rattle.stream.specs.History.{Seen, seen_by, History, over, reads}
use Rattle.stream.proofs.inner.Promise.{three_most, row_fits}

-- a call takes no more than it is handed, and writes no more words than there are
pub taken_within : {s : Reader} {input was row : List ℕ} {r : Reading} → Reads s input was r row → r.taken ≤ length input
unfolding called
taken_within {s} {input} {was} h = rw h.taken (call_taken reader giving (meaning s) [] input (length was))

pub words_within : {s : Reader} {input was row : List ℕ} {r : Reading} → Reads s input was r row → r.words ≤ length was
words_within {s} {input} {was} h = rw h.words (row_fits s input was)

-- a call with a byte at hand and room for three words takes a byte
pub call_goes_on : {s : Reader} {b : ℕ} {bs was row : List ℕ} {r : Reading} → Reads s (b ∷ bs) was r row → 3 ≤ length was → 1 ≤ r.taken
unfolding called
call_goes_on {s} {b} {bs} {was} h n = rw h.taken (call_progress reader giving (meaning s) b bs (length was) (λ x. omega (arith, three_most x)))

-- there is an answer for every reader, input and row
pub call_answers : (s : Reader) (input was : List ℕ) → (r : Reading) × (row : List ℕ) × Reads s input was r row
call_answers s input was =
    let a : CallAnswer Phase Event Thing = called s input was in (
      record {
        reader = written a.result.end (s.skipped + skipped a.result.steps);
        taken = a.taken;
        words = length (row_given s input was);
        stop = stop_of a.stop;
        reply = twenty (reply_for a.stop);
      },
      over_row was (row_given s input was),
      record { reader = refl; taken = refl; words = refl; stop = refl; reply = refl; row = refl },
    )

-- so with rows of three words every stream of bytes can be used up
pub goes_on_lem : (was : List ℕ) → 3 ≤ length was → (s : Reader) (bs : List ℕ) → (xs : List Seen) × (z : Reader) × History s (map byte bs) xs z
goes_on_lem was n s bs = go (length bs) s bs (omega arith)
  where
    go : (k : ℕ) (t : Reader) (cs : List ℕ) → length cs ≤ k → (xs : List Seen) × (z : Reader) × History t (map byte cs) xs z
    go zero t [] l = ([], t, over)
    go zero t (c ∷ cs) l = absurd (omega arith)
    go (suc k) t [] l = ([], t, over)
    go (suc k) t (c ∷ cs) l =
        let a = call_answers t (c ∷ cs) was in
        let r : Reading = a.0 in
        let h = a.2 in
        let m = call_goes_on h n in
        let u = go k r.reader (drop r.taken (c ∷ cs)) (omega (arith, length-drop r.taken (c ∷ cs))) in
        let v : History r.reader (map byte (drop r.taken (c ∷ cs)) ++ []) u.0 u.1 = rw append-nil u.2 in
        (seen_by r a.1 ++ u.0, u.1, rw (append-nil {A = Input Request} (map byte (c ∷ cs))) at (reads (c ∷ cs) was a.1 r [] h v))
