-- A row of words, gathered until none is left, feeds its samples to the gatherer, and each turn that closes makes its record: `row_fed`.
use Prim.Native.Nat.{ℕ, ◌+◌, ◌*◌, ◌<◌}
use mathlib.Core.Path.{◌≡◌, refl, sym, ap, ◌∙◌}
use mathlib.Core.Bool.{Bool, true, false, not}
use Rattle.std.specs.Prelude.{Option, Some, None, Ok, Err}
use mathlib.Core.List.{List, [], ◌∷◌, ◌++◌, flat_map, append_assoc}
use native.Mathlib.Omega.{arith}
use borrow.Author.Tests.{not-false}
use lib.ListN.{length, drop}
use lib.Seq.{drop_at}
use Rattle.paper.specs.Outcome.{gives, if_given, mapped}
use Rattle.paper.specs.Writing.{over as overwritten}
use Rattle.paper.specs.Refusals.{outcome}
use Rattle.paper.specs.declared.refusal.Refusal.{Refusal}
use Rattle.paper.proofs.Outcome.{gives_one, gives_refuses, refuse_no, refuse_not}
use Rattle.framing.proofs.Giving.{flat_map-append}
use Rattle.wire.specs.declared.sample.Sample.{Sample}
use Rattle.wire.specs.Sample.{fit, words_of, are_words, sample_from, words_of_sample, sample_of_words}
use Rattle.paper.proofs.Cases.{both_hold, none_some}
use Rattle.wire.proofs.WriteThenRead.{words_back}
use Rattle.turn.specs.Turns.{Turn}
use Rattle.turn.specs.Gather.{Held, End, closes, next, taken, row_reads, samples_in, row_of, told_by, count_in}
use Rattle.turn.specs.Promises.{gathering, Gathers}
use Rattle.turn.specs.Calls.{Fed}
use Rattle.turn.specs.Calls as calls
use Rattle.turn.proofs.Gathering.{taken_closed, taken_more}
use Rattle.record.specs.Record.{record_of}
use Rattle.host.specs.Host.{gathered, record_for, ready, turned}
use Rattle.host.specs.Promises.{Turns}
use Rattle.host.specs.declared.Host.{Host}
use Rattle.host.specs.declared.Turned.{Turned}
use Rattle.whole.specs.Work.{ready_by, Gathered, done, refused, more}
use Rattle.whole.proofs.Things.{all_fit}

-- ---- the words of samples are those samples' row

words_read : (m : Sample) → fit m.angle.0 m.quality ≡ true → (are_words (words_of m) ≡ true) × (sample_from (words_of m) ≡ m)
unfolding sample_of_words words_of_sample
words_read m e =
    let w = words_back m (words_of m) (refuse_no _ _ (ap not e)) in
    let p = refuse_not (not (are_words (words_of m))) _ _ w in
    (not-false _ p.0, gives_one p.1)

row_reads_lem : (ms : List Sample) → all_fit ms ≡ true → (row_reads (flat_map words_of ms) ≡ true) × (samples_in (flat_map words_of ms) ≡ ms)
unfolding all_fit flat_map words_of row_reads samples_in
row_reads_lem [] e = (refl, refl)
row_reads_lem (m ∷ ms) e =
    let f = both_hold (fit m.angle.0 m.quality) (all_fit ms) e in
    let w = words_read m f.0 in
    let r = row_reads_lem ms f.1 in
    (rw (w.0, r.0), rw (w.1, r.1))

row_of_lem : (ms : List Sample) → all_fit ms ≡ true → row_of (flat_map words_of ms) ≡ gives ms
unfolding row_of
row_of_lem ms e = let r = row_reads_lem ms e in refuse_no _ _ (ap not r.0) ∙ ap gives r.1

words_length : (ms : List Sample) → length (flat_map words_of ms) ≡ 3 * length ms
unfolding flat_map words_of
words_length [] = refl
words_length (m ∷ ms) = omega (arith, words_length ms)

drop_words : (front back : List Sample) → drop (3 * length front) (flat_map words_of (front ++ back)) ≡ flat_map words_of back
drop_words front back =
    ap (drop (3 * length front)) (flat_map-append words_of front back) ∙ drop_at (flat_map words_of front) (flat_map words_of back) (3 * length front) (words_length front)

no_words : (ms : List Sample) → [] ≡ flat_map words_of ms → ms ≡ []
no_words [] e = refl
no_words (m ∷ ms) e = let n = ap length e ∙ words_length (m ∷ ms) in absurd (omega arith)

fit_back : (front back : List Sample) → all_fit (front ++ back) ≡ true → all_fit back ≡ true
unfolding all_fit
fit_back [] back e = e
fit_back (m ∷ ms) back e = fit_back ms back (both_hold (fit m.angle.0 m.quality) (all_fit (ms ++ back)) e).1

-- ---- how far a call goes

-- the samples taken, and those handed back; where no turn closes, none
record Split (h : Held) (k : ℕ) (ms : List Sample) : Type 0 where
  front : List Sample
  back : List Sample
  is : ms ≡ front ++ back
  words : (taken h k ms).words ≡ k + 3 * length front
  all : (taken h k ms).turn ≡ None → back ≡ []

split_step : (h : Held) (k : ℕ) (m : Sample) (ms : List Sample) → Split (next h m) (k + 3) ms → (b : Bool) → closes h.count m ≡ b → Split h k (m ∷ ms)
split_step h k m ms s true e =
    let on = taken_closed h m ms k e in
    record {
      front = m ∷ [];
      back = ms;
      is = refl;
      words = ap (λ (x : End). x.words) on;
      all = λ t. absurd (none_some (sym t ∙ ap (λ (x : End). x.turn) on));
    }
split_step h k m ms s false e =
    let on = taken_more h m ms k e in
    let w : (taken h k (m ∷ ms)).words ≡ (taken (next h m) (k + 3) ms).words = ap (λ (x : End). x.words) on in
    record {
      front = m ∷ s.front;
      back = s.back;
      is = ap {B = List Sample} (λ l. m ∷ l) s.is;
      words = w ∙ s.words ∙ omega arith;
      all = λ t. s.all (sym (ap (λ (x : End). x.turn) on) ∙ t);
    }

split : (h : Held) (k : ℕ) (ms : List Sample) → Split h k ms
unfolding taken
split h k [] = record { front = []; back = []; is = refl; words = omega arith; all = λ t. refl }
split h k (m ∷ ms) = split_step h k m ms (split (next h m) (k + 3) ms) (closes h.count m) refl

-- ---- one call

-- records made of turns: each written over a memory of 754 bytes, with a number of 32 bits
unfoldable pub Made : List ℕ → List (List ℕ) → List Turn → Type 0
Made serial [] [] = Unit {0}
Made serial [] (t ∷ ts) = ⊥
Made serial (rec ∷ recs) [] = ⊥
Made serial (rec ∷ recs) (t ∷ ts) =
    ((number : ℕ) × (was : List ℕ) × (number < 4294967296) × (length was ≡ 754)
    × (rec ≡ if_given (record_of (record { number = number; count = t.count; serial = serial; cells = t.cells })) (overwritten was) was))
    × Made serial recs ts

-- what gathering a row comes to, whatever samples follow it
pub record Rowed (h : Host) (ms : List Sample) (f c : List ℕ) (recs : List (List ℕ)) (z : Host) (f' c' : List ℕ) : Type 0 where
  pub turns : List Turn
  pub fed : (rest : List Sample) (later : List Turn) → Fed z.gatherer f' c' rest later → Fed h.gatherer f c (ms ++ rest) (turns ++ later)
  pub made : Made h.serial recs turns

-- a call over the words of samples
record Took (h : Host) (ms : List Sample) (number : ℕ) (f c was : List ℕ) (r : Turned) (f' c' is : List ℕ) : Type 0 where
  answer : r ≡ turned h (gathering h.gatherer f c ms)
  filled : f' ≡ (gathering h.gatherer f c ms).held.filling
  shown : c' ≡ (gathering h.gatherer f c ms).held.closed
  ready : is ≡ ready h number was (gathering h.gatherer f c ms).turn c'

took : {h : Host} {row : List ℕ} {number : ℕ} {f c was : List ℕ} {r : Turned} {f' c' is : List ℕ} (ms : List Sample) → row_of row ≡ gives ms
    → Turns h row number f c was (Ok r) f' c' is → Took h ms number f c was r f' c' is
unfolding outcome mapped if_given
took ms e p = record {
  answer = gives_one (p.answer ∙ rw e);
  filled = p.filled ∙ rw e;
  shown = p.shown ∙ rw e;
  ready = p.ready ∙ rw e;
}

-- samples that are fit are not refused
never_refused : {h : Host} {row : List ℕ} {number : ℕ} {f c was f' c' is : List ℕ} {q : Refusal} (ms : List Sample) → row_of row ≡ gives ms
    → Turns h row number f c was (Err q) f' c' is → ⊥
unfolding outcome mapped
never_refused {h} {row} {number} {f} {c} ms e p =
    gives_refuses (sym (p.answer ∙ ap (mapped (λ (xs : List Sample). turned h (gathering h.gatherer f c xs))) e))

module _ {h : Host} {ms : List Sample} {number : ℕ} {f c was f₁ c₁ is : List ℕ} {r : Turned} (t : Took h ms number f c was r f₁ c₁ is) where
  abbrev e : End
  e = gathering h.gatherer f c ms

  gatherer_is : r.host.gatherer ≡ record { count = e.held.count }
  unfolding turned gathered
  gatherer_is = ap (λ (x : Turned). x.host.gatherer) t.answer

  serial_is : r.host.serial ≡ h.serial
  unfolding turned gathered
  serial_is = ap (λ (x : Turned). x.host.serial) t.answer

  words_is : r.words ≡ e.words
  unfolding turned
  words_is = ap (λ (x : Turned). x.words) t.answer

  turn_is : r.turn ≡ e.turn
  unfolding turned
  turn_is = ap (λ (x : Turned). x.turn) t.answer

  -- as the gatherer's promise says it
  gathers_told : Gathers told_by (gives ms) h.gatherer f c (Ok (record { gatherer = r.host.gatherer; turn = r.turn })) f₁ c₁
  unfolding outcome mapped if_given told_by
  gathers_told = record { answer = rw (gatherer_is, turn_is); filled = t.filled; shown = t.shown }

  -- no turn closed
  call_open : {z : Host} {f₂ c₂ : List ℕ} {recs : List (List ℕ)} → e.turn ≡ None → Rowed r.host [] f₁ c₁ recs z f₂ c₂ → Rowed h ms f c (ready_by r.turn is ++ recs) z f₂ c₂
  unfolding ready_by
  call_open n w =
      let a : r.turn ≡ None = turn_is ∙ n in
      rw a (record {
        turns = w.turns;
        fed = λ rest later x. calls.taken ms refl (rw a at gathers_told) (w.fed rest later x);
        made = rw serial_is at w.made;
      })

  -- a turn of n samples closed
  call_closed : {z : Host} {f₂ c₂ : List ℕ} {recs : List (List ℕ)} (n : ℕ) (front back : List Sample) → number < 4294967296 → length was ≡ 754 → e.turn ≡ Some n → ms ≡ front ++ back → e.words ≡ 3 * length front → Rowed r.host back f₁ c₁ recs z f₂ c₂
      → Rowed h ms f c (ready_by r.turn is ++ recs) z f₂ c₂
  unfolding ready_by Made ready record_for
  call_closed n front back small room k i j w =
      let a : r.turn ≡ Some n = turn_is ∙ k in
      let one : is ≡ if_given (record_of (record { number = number; count = n; serial = h.serial; cells = c₁ })) (overwritten was) was = t.ready ∙ rw k in
      rw a (record {
        turns = record { count = n; cells = c₁ } ∷ w.turns;
        fed = λ rest later x.
            calls.closed front back rest (ap (λ (l : List Sample). l ++ rest) i ∙ append_assoc front back rest)
            (rw i at (rw a at gathers_told))
            (rw i at j)
            (w.fed rest later x);
        made = ((number, was, small, room, one), rw serial_is at w.made);
      })

-- ---- the row

pub row_fed : {h z : Host} {row f c f' c' : List ℕ} {recs : List (List ℕ)} → Gathered h row f c recs z f' c' → (ms : List Sample) → all_fit ms ≡ true → row ≡ flat_map words_of ms
    → Rowed h ms f c recs z f' c'
unfolding Made gathering all_fit
row_fed (done {h} {f} {c}) ms e i = rw (no_words ms i) (record { turns = []; fed = λ rest later x. x; made = tt })
row_fed (refused {h} {z} {row} {f} {c} number was is q p d) ms e i = absurd (never_refused ms (ap row_of i ∙ row_of_lem ms e) p)
row_fed (more {h} {z} {row} {f} {c} {f₁} {c₁} {f₂} {c₂} {recs} number was is r small room p d) ms e i =
    by (took ms (ap row_of i ∙ row_of_lem ms e) p) (split (record { count = count_in h.gatherer; filling = f; closed = c }) 0 ms) (gathering h.gatherer f c ms).turn refl (λ back b j. row_fed d back b j)
  where
    left : (t : Took h ms number f c was r f₁ c₁ is) (s : Split (record { count = count_in h.gatherer; filling = f; closed = c }) 0 ms) → drop r.words row ≡ flat_map words_of s.back
    left t s =
        let w : r.words ≡ 3 * length s.front = words_is t ∙ s.words ∙ omega arith in
        rw (w, i) (ap (λ (l : List Sample). drop (3 * length s.front) (flat_map words_of l)) s.is ∙ drop_words s.front s.back)

    by : (t : Took h ms number f c was r f₁ c₁ is) (s : Split (record { count = count_in h.gatherer; filling = f; closed = c }) 0 ms) (o : Option ℕ) → (gathering h.gatherer f c ms).turn ≡ o
        → ((back : List Sample) → all_fit back ≡ true → drop r.words row ≡ flat_map words_of back → Rowed r.host back f₁ c₁ recs z f₂ c₂)
        → Rowed h ms f c (ready_by r.turn is ++ recs) z f₂ c₂
    by t s None k on =
        let b = s.all k in
        call_open t k (on [] refl (left t s ∙ ap (flat_map words_of) b))
    by t s (Some n) k on =
        call_closed t n s.front s.back small room k s.is (s.words ∙ omega arith) (on s.back (fit_back s.front s.back (rw s.is at e)) (left t s))
