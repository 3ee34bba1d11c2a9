-- THE LAW OF CALLS over the promises of the code, with requests told between. `history_heard`: what a caller sees, and where the reader
-- stands, is what the stream says by definition; `one_reading`: with no request told, that is one reading of all the bytes; `cut_anywhere`:
-- two histories of one stream see the same and end in the same reader.
use mathlib.Core.Path.{◌≡◌, refl, sym, ap, ap₂, subst, ◌∙◌}
use mathlib.Core.Bool.{true}
use mathlib.Core.List.{List, [], ◌∷◌, ◌++◌, map, map-append, flat_map, append-nil}
use Prim.Native.Nat.{ℕ, ◌+◌, ◌-◌, ◌<◌, min}
use native.Mathlib.Nat.{add-zero}
use native.Mathlib.Omega.{arith}
use lib.ListN.{length, take, drop, replicate}
use lib.Seq.{take_at}
use Rattle.paper.specs.Outcome.{Outcome, gives, refuses, if_given, mapped}
use Rattle.std.specs.Prelude.{Result as Answered, Ok, Err}
use Rattle.paper.specs.Refusals.{outcome}
use Rattle.paper.specs.Writing.{over as over_row}
use Rattle.paper.specs.declared.refusal.Refusal.{Refusal}
use Rattle.paper.proofs.Outcome.{gives_one, gives_refuses}
use Rattle.framing.specs.Framing.{State, fresh, fed}
use Rattle.framing.specs.Run.{Result, run, skipped}
use Rattle.framing.specs.Calls.{outputs, Stop as Reason, all_taken, ended_by, no_room, Answer as CallAnswer}
use Rattle.framing.specs.Stream.{Input, byte, told, Heard, step, forgot, Shown, gave, asked, lost, shown, standing, heard, Uses, over as nothing, calls, tells as telling, refuses as refusing}
use Rattle.framing.proofs.Giving.{flat_map-append}
use Rattle.framing.proofs.Calls.{call_more, call_single}
use Rattle.framing.proofs.Stops.{quiet, Ended, call_ended}
use Rattle.framing.proofs.Stream.{lost_steps, shown_steps, heard_bytes, standing_bytes, uses_heard}
use Rattle.framing.proofs.Windows.{more_few}
use Rattle.wire.specs.declared.request.Request.{Request}
use Rattle.wire.specs.Sample.{words_of}
use Rattle.stream.specs.declared.Phase.{Phase}
use Rattle.stream.specs.declared.Phase.TheVariants.{Idle}
use Rattle.stream.specs.declared.Reader.{Reader}
use Rattle.stream.specs.declared.Reading.{Reading}
use Rattle.stream.specs.Table.{Event, Thing, headed, replied, unread, point, width, reader, giving, ends_call, row_of}
use Rattle.stream.specs.State.{held_of, meaning, twenty, capped, written, idle}
use Rattle.stream.specs.Stops.{reply_for, stop_of}
use Rattle.stream.specs.Telling.{opens, begun, told_reader, after, begins}
use Rattle.stream.specs.Promises.{called, row_given, Reads, Tells}
use Rattle.stream.specs.History.{Seen, word, taken, notice_by, seen_by, told_by, seen_of, History, over, reads, tells, Plain}
use Rattle.stream.proofs.Table.{width_pos, reader_lawful, by_window, one_thing}
use Rattle.stream.proofs.Determined.{stop_one}
use Rattle.stream.proofs.Telling.{tells_after}
use Rattle.stream.proofs.inner.Hold.{capped_capped}
use Rattle.stream.proofs.inner.Promise.{waits}

-- ---- a state that is written means what was written

pub meaning_written : (s : State Phase) (k : ℕ) → length s.bytes < width s.phase → meaning (written s k) ≡ s
unfolding meaning held_of written twenty
meaning_written s k h =
    let e : min (length s.bytes) (width s.phase - 1) ≡ length s.bytes = omega arith in
    rw (e, take_at s.bytes (replicate (20 - length s.bytes) 0) (length s.bytes) refl)

-- ---- what is seen of things given

-- things that end no call are samples, and seen by their words
quiet_seen : (xs : List Thing) → quiet reader giving xs ≡ true → flat_map seen_of (map gave xs) ≡ map word (flat_map row_of xs)
unfolding quiet ends_call flat_map seen_of row_of
quiet_seen [] e = refl
quiet_seen (headed ∷ xs) e = cc
quiet_seen (replied w ∷ xs) e = cc
quiet_seen (unread ∷ xs) e = cc
quiet_seen (point m ∷ xs) e = ap (λ (l : List Seen). map word (words_of m) ++ l) (quiet_seen xs e) ∙ sym (map-append word (words_of m) (flat_map row_of xs))

-- one that ends a call has no words, and is seen by the stop
last_seen : (x : Thing) → ends_call x ≡ true → (seen_of (gave x) ≡ notice_by (stop_of (ended_by x)) (twenty (reply_for (ended_by x)))) × (row_of x ≡ [])
unfolding ends_call seen_of notice_by stop_of reply_for row_of
last_seen headed e = (refl, refl)
last_seen (replied w) e = (refl, refl)
last_seen unread e = (refl, refl)
last_seen (point m) e = (cc, cc)

given_seen : (xs : List Thing) (w : Reason Thing) → Ended reader giving xs w
    → flat_map seen_of (map gave xs) ≡ map word (flat_map row_of xs) ++ notice_by (stop_of w) (twenty (reply_for w))
unfolding Ended notice_by stop_of flat_map
given_seen xs all_taken e = quiet_seen xs e ∙ sym (append-nil _)
given_seen xs no_room e = quiet_seen xs e ∙ sym (append-nil _)
given_seen xs (ended_by x) e = rw e.1 (ended e.0 e.2 (last_seen x e.3))
  where
    ended : (ys : List Thing) → quiet reader giving ys ≡ true → (seen_of (gave x) ≡ notice_by (stop_of (ended_by x)) (twenty (reply_for (ended_by x)))) × (row_of x ≡ [])
        → flat_map seen_of (map gave (ys ++ x ∷ [])) ≡ map word (flat_map row_of (ys ++ x ∷ [])) ++ notice_by (stop_of (ended_by x)) (twenty (reply_for (ended_by x)))
    ended ys q l =
        ap (flat_map seen_of) (map-append gave ys (x ∷ []))
        ∙ flat_map-append seen_of (map gave ys) (gave x ∷ [])
        ∙ ap₂ ◌++◌ (quiet_seen ys q) (append-nil (seen_of (gave x)) ∙ l.0)
        ∙ ap (λ (r : List ℕ). map word r ++ notice_by (stop_of (ended_by x)) (twenty (reply_for (ended_by x))))
        (sym (flat_map-append row_of ys (x ∷ []) ∙ ap (λ (r : List ℕ). flat_map row_of ys ++ r) (append-nil (row_of x) ∙ l.1) ∙ append-nil (flat_map row_of ys)))

-- ---- one call

module _ {s : Reader} {input was row : List ℕ} {r : Reading} (h : Reads s input was r row) where
  abbrev a : CallAnswer Phase Event Thing
  a = called s input was

  end_few : length a.result.end.bytes < width a.result.end.phase
  unfolding called
  end_few = more_few reader_lawful (by_window a.result.end.phase) a.result.end.bytes (call_more reader_lawful giving (meaning s) [] input (length was) (waits s))

  -- the reader that it answers means the end of the call
  pub call_means : meaning r.reader ≡ a.result.end
  call_means = ap meaning h.reader ∙ meaning_written a.result.end (s.skipped + skipped a.result.steps) end_few

  -- nothing is due then
  pub call_none_due : a.due ≡ []
  unfolding called
  call_none_due = call_single reader_lawful giving one_thing (meaning s) input (length was) (waits s)

  call_skipped : r.reader.skipped ≡ capped (s.skipped + skipped a.result.steps)
  unfolding written
  call_skipped = ap (λ (x : Reader). x.skipped) h.reader

  -- and its caller sees what was given
  call_seen : seen_by r row ≡ flat_map seen_of (map gave a.given)
  unfolding seen_by called row_given over_row
  call_seen =
      let words : take r.words row ≡ flat_map row_of a.given = rw (h.words, h.row) (take_at (flat_map row_of a.given) _ (length (flat_map row_of a.given)) refl) in
      rw (words, stop_one r.stop (stop_of a.stop) h.stop, h.reply) (sym (given_seen a.given a.stop (call_ended reader giving (meaning s) [] input (length was))))

-- ---- a history is a use of the framing

-- what a history comes to in the theory
pub record Used (s : Reader) (is : List (Input Request)) (xs : List Seen) (z : Reader) : Type 0 where
  pub hs : List (Heard Request Event)
  pub ys : List (Shown Request Thing)
  pub uses : Uses reader begins giving (meaning s) [] is hs ys [] (meaning z)
  pub seen : xs ≡ flat_map seen_of ys
  pub skip : capped z.skipped ≡ capped (s.skipped + lost hs)

skip_on : {x n : ℕ} (y k m : ℕ) → x ≡ capped (y + k) → n ≡ k + m → capped (x + m) ≡ capped (y + n)
skip_on y k m e f = rw (e, f) (capped_capped (y + k) m ∙ ap capped (omega arith))

used_call : {s z : Reader} {xs : List Seen} (input was row : List ℕ) (r : Reading) (is : List (Input Request)) → Reads s input was r row
    → Used r.reader (map byte (drop r.taken input) ++ is) xs z → Used s (map byte input ++ is) (seen_by r row ++ xs) z
unfolding called
used_call {s} {z} {xs} input was row r is h u =
    let a : CallAnswer Phase Event Thing = called s input was in
    let e : Uses reader begins giving a.result.end [] (map byte (drop a.taken input) ++ is) u.hs u.ys [] (meaning z) = rw (call_means h, h.taken) at u.uses in
    let f = subst (λ (d : List Thing). Uses reader begins giving a.result.end d (map byte (drop a.taken input) ++ is) u.hs u.ys [] (meaning z)) (sym (call_none_due h)) e in
    record {
      hs = map step a.result.steps ++ u.hs;
      ys = map gave a.given ++ u.ys;
      uses = calls input (length was) is f;
      seen = ap₂ ◌++◌ (call_seen h) u.seen ∙ sym (flat_map-append seen_of (map gave a.given) u.ys);
      skip = u.skip ∙ skip_on s.skipped (skipped a.result.steps) (lost u.hs) (call_skipped h) (lost_steps a.result.steps u.hs);
    }

-- a request that is taken
used_taken : {s t z : Reader} {xs : List Seen} {is : List (Input Request)} (q : Request) (p : Phase) → opens q ≡ gives p → t ≡ written (fresh p) (s.skipped + length (held_of s))
    → Used t is xs z → Used s (told q ∷ is) (taken q ∷ xs) z
unfolding begins if_given flat_map seen_of meaning written lost
used_taken {s} {t} {z} q p e g u =
    let m : meaning t ≡ fresh p = ap meaning g ∙ meaning_written (fresh p) (s.skipped + length (held_of s)) (width_pos p) in
    let v : Uses reader begins giving (fresh p) [] _ u.hs u.ys [] (meaning z) = rw m at u.uses in
    record {
      hs = forgot q (length (held_of s)) ∷ u.hs;
      ys = asked q ∷ u.ys;
      uses = telling {p = p} q (rw e) v;
      seen = ap {B = List Seen} (λ l. taken q ∷ l) u.seen;
      skip = u.skip ∙ skip_on s.skipped (length (held_of s)) (lost u.hs) (ap (λ (x : Reader). x.skipped) g) refl;
    }

-- a request that is refused
used_refused : {s z : Reader} {xs : List Seen} {is : List (Input Request)} (q : Request) (n : ℕ) → opens q ≡ refuses n → Used s is xs z → Used s (told q ∷ is) xs z
unfolding begins if_given
used_refused q n e u = record { hs = u.hs; ys = u.ys; uses = refusing q (rw e) u.uses; seen = u.seen; skip = u.skip }

used_tell : {s z : Reader} {xs : List Seen} {is : List (Input Request)} (q : Request) (t : Answered Reader Refusal) → Tells s q t → Used (after s t) is xs z → Used s (told q ∷ is) (told_by q t ++ xs) z
unfolding mapped outcome told_by after
used_tell {s} {z} {xs} {is} q t h = by (opens q) t refl h.answer
  where
    by : (o : Outcome Phase) (x : Answered Reader Refusal) → opens q ≡ o → outcome x ≡ mapped (begun s) o → Used (after s x) is xs z → Used s (told q ∷ is) (told_by q x ++ xs) z
    by (gives p) (Ok r) e f u = used_taken q p e (gives_one f) u
    by (gives p) (Err n) e f u = absurd (gives_refuses (sym f))
    by (refuses n) (Ok r) e f u = absurd (gives_refuses f)
    by (refuses n) (Err m) e f u = used_refused q n e u

used : {s z : Reader} {is : List (Input Request)} {xs : List Seen} → History s is xs z → Used s is xs z
unfolding flat_map lost
used (over {s}) = record { hs = []; ys = []; uses = nothing; seen = refl; skip = rw add-zero }
used (reads input was row r is h u) = used_call input was row r is h (used u)
used (tells q t h u) = used_tell q t h (used u)

-- ---- the law

-- what the caller sees, and where the reader stands, by the definitions
pub record HeardOf (s : Reader) (is : List (Input Request)) (xs : List Seen) (z : Reader) : Type 0 where
  pub seen : xs ≡ flat_map seen_of (shown giving (heard reader begins (meaning s) is))
  pub stands : meaning z ≡ standing reader begins (meaning s) is
  pub skip : capped z.skipped ≡ capped (s.skipped + lost (heard reader begins (meaning s) is))

pub history_heard : {s z : Reader} {is : List (Input Request)} {xs : List Seen} → History s is xs z → HeardOf s is xs z
history_heard {s} {z} {is} {xs} u =
    let v = used u in
    let w = uses_heard reader_lawful begins giving v.uses (waits s) in
    record {
      seen = v.seen ∙ ap (flat_map seen_of) (sym (w.show ∙ append-nil v.ys) ∙ ap (shown giving) (sym w.hear));
      stands = sym w.stand;
      skip = v.skip ∙ rw w.hear;
    }

-- with no request told: one reading of all the bytes
pub one_reading : {s z : Reader} {xs : List Seen} (bs : List ℕ) → History s (map byte bs) xs z
    → (xs ≡ flat_map seen_of (map gave (outputs giving (run reader (fed (meaning s) bs)).steps))) × (meaning z ≡ (run reader (fed (meaning s) bs)).end)
unfolding heard standing shown
one_reading {s} {z} bs g =
    let v = history_heard g in
    let r : Result Phase Event = run reader (fed (meaning s) bs) in
    let n : map byte bs ++ [] ≡ map byte bs = append-nil {A = Input Request} (map byte bs) in
    let h : heard reader begins (meaning s) (map byte bs) ≡ map step r.steps ++ [] = ap (heard reader begins (meaning s)) (sym n) ∙ heard_bytes reader_lawful begins (meaning s) bs [] (waits s) in
    let e : standing reader begins (meaning s) (map byte bs) ≡ r.end = ap (standing reader begins (meaning s)) (sym n) ∙ standing_bytes reader_lawful begins (meaning s) bs [] (waits s) in
    (v.seen ∙ ap (flat_map seen_of) (ap (shown giving) h ∙ shown_steps giving r.steps [] ∙ append-nil _), v.stands ∙ e)

-- ---- the reader at the end, whole

same_written : {s t : State Phase} (j k : ℕ) → s ≡ t → capped j ≡ capped k → written s j ≡ written t k
unfolding written
same_written j k e f = rw (e, f)

capped_twice : (s : State Phase) (k : ℕ) → capped (written s k).skipped ≡ capped k
unfolding written capped
capped_twice s k = omega arith

plain_written : (s : State Phase) (k : ℕ) → length s.bytes < width s.phase → Plain (written s k)
unfolding Plain
plain_written s k h = same_written (written s k).skipped k (meaning_written s k h) (capped_twice s k)

-- a fresh reader is plain, and what a plain reader comes to is plain
pub idle_plain : Plain idle
unfolding idle
idle_plain = plain_written (fresh Idle) 0 (width_pos Idle)

plain_told : (s : Reader) (o : Outcome Phase) → Plain s → Plain (if_given o (begun s) s)
unfolding if_given
plain_told s (gives p) h = plain_written (fresh p) (s.skipped + length (held_of s)) (width_pos p)
plain_told s (refuses n) h = h

pub history_plain : {s z : Reader} {is : List (Input Request)} {xs : List Seen} → History s is xs z → Plain s → Plain z
history_plain over p = p
history_plain (reads {s} input was row r is h u) p = history_plain u (rw h.reader (plain_written (called s input was).result.end _ (end_few h)))
history_plain (tells {s} q t h u) p = history_plain u (rw (tells_after h) (unfold told_reader in plain_told s (opens q) p))

-- CUT ANYWHERE: two histories of one stream, from one plain reader, see the same and end in the same reader
pub cut_anywhere : {s y z : Reader} {is : List (Input Request)} {xs ys : List Seen} → Plain s → History s is xs y → History s is ys z → (xs ≡ ys) × (y ≡ z)
unfolding Plain
cut_anywhere {s} {y} {z} p g h =
    let v = history_heard g in
    let w = history_heard h in (
      v.seen ∙ sym w.seen,
      sym (history_plain g p) ∙ same_written y.skipped z.skipped (v.stands ∙ sym w.stands) (v.skip ∙ sym w.skip) ∙ history_plain h p,
    )
