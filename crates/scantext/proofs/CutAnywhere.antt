-- CUT AND ROOM CHANGE NOTHING. `listed_lines`: the texts of any calls, until no byte is left, are the lines of one run over all bytes; `listed_end`: so
-- is the last line; `listed_anywhere`: two listings of the same bytes print the same; `scan_listed`: what `scanlist` prints, by the code and the bytes.
use Prim.Native.Nat.{ℕ, ◌+◌}
use mathlib.Core.Path.{◌≡◌, refl, sym, ap, ap₂, ◌∙◌}
use mathlib.Core.List.{List, [], ◌++◌, map, map-append, flat_map, append-nil, append_assoc}
use native.Mathlib.Omega.{arith}
use lib.ListN.{length, take, drop, take-append-drop}
use Rattle.paper.specs.Outcome.{Outcome, gives, refuses, mapped}
use Rattle.paper.specs.Refusals.{number_of, outcome}
use Rattle.std.specs.Prelude.{Ok, Err, Result as Answered}
use Rattle.paper.specs.declared.refusal.Refusal.{Refusal}
use Rattle.paper.proofs.Outcome.{gives_refuses, refuses_one, mapped_given}
use Rattle.framing.specs.Framing.{State, fresh, fed}
use Rattle.framing.specs.Run.{Result, stopped, joined, run, skipped, events}
use Rattle.framing.specs.Calls.{outputs, Answer}
use Rattle.framing.specs.Stream.{Input, byte, step, lost, heard}
use Rattle.framing.proofs.Run.{cutting_at, run_none}
use Rattle.framing.proofs.Giving.{flat_map-append, outputs-append}
use Rattle.framing.proofs.Calls.{call_sound}
use Rattle.framing.proofs.Stream.{lost_steps, heard_bytes}
use Rattle.wire.specs.declared.request.Request.{Request}
use Rattle.stream.specs.Table.{Event, Thing, width, reader, giving}
use Rattle.stream.specs.State.{held_of, meaning, capped, written, idle}
use Rattle.stream.specs.Telling.{opens, begun, after, begins}
use Rattle.stream.specs.Promises.{Made, called, Reads, Tells}
use Rattle.stream.specs.History.{Seen, seen_by, History, over as none_left, reads as one_call, tells as one_telling, Plain}
use Rattle.stream.specs.declared.Phase.{Phase}
use Rattle.stream.specs.declared.Reader.{Reader}
use Rattle.stream.specs.declared.Reading.{Reading}
use Rattle.stream.proofs.Table.{width_pos, reader_lawful}
use Rattle.stream.proofs.History.{meaning_written, call_means, call_none_due, history_heard, one_reading, history_plain, cut_anywhere, idle_plain}
use Rattle.stream.proofs.inner.Promise.{waits}
use Rattle.text.specs.Refused.{refused_line}
use Rattle.scantext.specs.Lines.{thing_line, thing_lines, end_line}
use Rattle.scantext.specs.Listing.{read_text, Listed, over, reads, run_text, text_by, scan_text}
use Rattle.scantext.proofs.CallLines.{call_lines}

-- ---- a listing is a history of the reader

pub listed_history : {s z : Reader} {bs text : List ℕ} → Listed s bs text z → (xs : List Seen) × History s (map byte bs) xs z
listed_history over = ([], none_left)
listed_history (reads input was row r bs h u) =
    let v = listed_history u in
    let rest : History r.reader (map byte (drop r.taken input) ++ map byte bs) v.0 _ = rw (map-append {B = Input Request} byte (drop r.taken input) bs) at v.1 in
    (seen_by r row ++ v.0, rw (map-append {B = Input Request} byte input bs) (one_call input was row r (map byte bs) h rest))

-- ---- the lines

lines-append : (xs ys : List Thing) → thing_lines (xs ++ ys) ≡ thing_lines xs ++ thing_lines ys
unfolding thing_lines
lines-append xs ys = flat_map-append thing_line xs ys

-- the run over all bytes goes through the end of a call
module _ {s : Reader} {input was row : List ℕ} {r : Reading} (h : Reads s input was r row) (bs : List ℕ) where
  abbrev a : Answer Phase Event Thing
  a = called s input was

  abbrev rest : List ℕ
  rest = drop r.taken input ++ bs

  run_through : run reader (fed (meaning s) (input ++ bs)) ≡ joined a.result (run reader (fed (meaning r.reader) rest))
  unfolding called
  run_through =
      let cut : input ++ bs ≡ take a.taken input ++ (drop a.taken input ++ bs) =
      ap (λ (l : List ℕ). l ++ bs) (sym (take-append-drop a.taken input)) ∙ append_assoc (take a.taken input) (drop a.taken input) bs in
      let ran = (call_sound reader_lawful giving (meaning s) [] input (length was) (waits s)).ran in
      rw (cut, h.taken, call_means h) (cutting_at reader_lawful (meaning s) (take a.taken input) (drop a.taken input ++ bs) ∙ rw ran)

  call_gave : outputs giving a.result.steps ≡ a.given
  unfolding called
  call_gave =
      (call_sound reader_lawful giving (meaning s) [] input (length was) (waits s)).gave
      ∙ ap (λ (l : List Thing). a.given ++ l) (call_none_due h)
      ∙ append-nil a.given

  lines_through : {text : List ℕ} → text ≡ thing_lines (outputs giving (run reader (fed (meaning r.reader) rest)).steps)
      → read_text s.phase r row ++ text ≡ thing_lines (outputs giving (run reader (fed (meaning s) (input ++ bs))).steps)
  unfolding joined
  lines_through e =
      ap₂ ◌++◌ (call_lines h ∙ ap thing_lines (sym call_gave)) e
      ∙ sym (lines-append (outputs giving a.result.steps) (outputs giving (run reader (fed (meaning r.reader) rest)).steps))
      ∙ ap thing_lines (sym (outputs-append giving a.result.steps (run reader (fed (meaning r.reader) rest)).steps))
      ∙ ap (λ (t : Result Phase Event). thing_lines (outputs giving t.steps)) (sym run_through)

pub listed_lines : {s z : Reader} {bs text : List ℕ} → Listed s bs text z → text ≡ thing_lines (outputs giving (run reader (fed (meaning s) bs)).steps)
unfolding stopped outputs events flat_map thing_lines
listed_lines (over {s}) = rw (run_none reader_lawful (meaning s) (waits s))
listed_lines (reads input was row r bs h u) = lines_through h bs (listed_lines u)

-- ---- the last line

listed_skipped : {s z : Reader} {bs text : List ℕ} → Listed s bs text z → capped z.skipped ≡ capped (s.skipped + skipped (run reader (fed (meaning s) bs)).steps)
unfolding heard lost
listed_skipped {s} {z} {bs} u =
    let v = history_heard (listed_history u).1 in
    let r : Result Phase Event = run reader (fed (meaning s) bs) in
    let n : map byte bs ++ [] ≡ map byte bs = append-nil {A = Input Request} (map byte bs) in
    let h : heard reader begins (meaning s) (map byte bs) ≡ map step r.steps ++ [] = ap (heard reader begins (meaning s)) (sym n) ∙ heard_bytes reader_lawful begins (meaning s) bs [] (waits s) in
    let k : lost (heard reader begins (meaning s) (map byte bs)) ≡ skipped r.steps = ap lost h ∙ lost_steps r.steps [] ∙ omega arith in
    v.skip ∙ ap (λ (m : ℕ). capped (s.skipped + m)) k

plain_counts : (z : Reader) → Plain z → (capped z.skipped ≡ z.skipped) × (length (meaning z).bytes ≡ z.n)
unfolding Plain written
plain_counts z p = (ap (λ (x : Reader). x.skipped) p, ap (λ (x : Reader). x.n) p)

-- from a reader as `new`, `read` and `tell` make it, the counts of the last line are those of the run
pub listed_end : {s z : Reader} {bs text : List ℕ} → Plain s → Listed s bs text z
    → (z.skipped ≡ capped (s.skipped + skipped (run reader (fed (meaning s) bs)).steps)) × (z.n ≡ length (run reader (fed (meaning s) bs)).end.bytes)
listed_end {s} {z} {bs} p u =
    let v = listed_history u in
    let c = plain_counts z (history_plain v.1 p) in
    (sym c.0 ∙ listed_skipped u, sym c.1 ∙ ap (λ (x : State Phase). length x.bytes) (one_reading bs v.1).1)

-- ---- any cuts and rooms

pub listed_anywhere : {s y z : Reader} {bs text other : List ℕ} → Plain s → Listed s bs text y → Listed s bs other z → (text ≡ other) × (y ≡ z)
listed_anywhere p u v = (listed_lines u ∙ sym (listed_lines v), (cut_anywhere p (listed_history u).1 (listed_history v).1).1)

-- ---- the program

-- from phase p, with nothing held and nothing skipped
from_fresh : {s z : Reader} {bs text : List ℕ} (p : Phase) → Plain s → meaning s ≡ fresh p → s.skipped ≡ 0 → Listed s bs text z
    → text ++ end_line (length bs) z.skipped z.n ≡ run_text p bs
unfolding run_text
from_fresh {s} {z} {bs} p plain m k u =
    let d = listed_end plain u in
    let lines = rw m at (listed_lines u) in
    let skip : z.skipped ≡ capped (skipped (run reader (fed (fresh p) bs)).steps) = rw (m, k) at d.0 ∙ ap capped (omega arith) in
    let held : z.n ≡ length (run reader (fed (fresh p) bs)).end.bytes = rw m at d.1 in
    rw (lines, skip, held)

none_skipped : idle.skipped + length (held_of idle) ≡ 0
unfolding idle written capped held_of width
none_skipped = refl

refused_by : {A : Type 0} (f : Phase → A) (m : ℕ) (bs : List ℕ) (o : Outcome Phase) → refuses m ≡ mapped f o → refused_line m ≡ text_by o bs
unfolding mapped text_by
refused_by f m bs (gives p) e = absurd (gives_refuses (sym e))
refused_by f m bs (refuses n) e = ap refused_line (refuses_one e)

module _ {s : Reader} {q : Request} {t : Answered Reader Refusal} (made : Made s) (tells : Tells s q t) where
  -- a code that the reader takes begins a phase, with nothing held and nothing skipped
  opened : {r : Reader} → t ≡ Ok r → (p : Phase) × ((opens q ≡ gives p) × (r ≡ written (fresh p) 0))
  unfolding outcome
  opened {r} e =
      let g = mapped_given (begun s) (opens q) (ap outcome (sym e) ∙ tells.answer) in
      let none : s.skipped + length (held_of s) ≡ 0 = rw made.answer none_skipped in
      (g.0, (g.1.0, g.1.1 ∙ ap (written (fresh g.0)) none))

  told_plain : {r : Reader} → t ≡ Ok r → Plain r
  unfolding after
  told_plain e = rw e at (history_plain (one_telling q t tells none_left) (rw made.answer idle_plain))

  -- WHAT IS PRINTED: of a fresh reader that is told a code it takes, the texts of any calls, until no byte is left, and the last line
  pub scan_listed : {r z : Reader} {bs text : List ℕ} → t ≡ Ok r → Listed r bs text z → text ++ end_line (length bs) z.skipped z.n ≡ scan_text q bs
  unfolding scan_text text_by written capped
  scan_listed e u =
      let o = opened e in
      let p : Phase = o.0 in
      let f = o.1.1 in
      rw o.1.0 (from_fresh p (told_plain e) (ap meaning f ∙ meaning_written (fresh p) 0 (width_pos p)) (ap (λ (x : Reader). x.skipped) f) u)

  -- and of a code that it refuses
  pub scan_refused : {n : Refusal} (bs : List ℕ) → t ≡ Err n → refused_line (number_of n) ≡ scan_text q bs
  unfolding scan_text outcome
  scan_refused {n} bs e = refused_by (begun s) (number_of n) bs (opens q) (ap outcome (sym e) ∙ tells.answer)
