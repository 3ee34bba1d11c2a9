-- A host at work makes a record of each turn that the samples close, in order: `work_tells`.
use Prim.Native.Nat.{ℕ, ◌≤◌, ◌<◌}
use mathlib.Core.Path.{◌≡◌, refl, sym, ap, subst, ◌∙◌}
use mathlib.Core.Bool.{true}
use mathlib.Core.List.{List, [], ◌∷◌, ◌++◌, append-nil}
use native.Mathlib.Omega.{arith}
use borrow.Author.Tests.{le-leb}
use lib.ListN.{length, drop}
use lib.ListN.{drop_of_length-le}
use Rattle.paper.specs.Outcome.{gives, if_given}
use Rattle.paper.specs.Words.{Each, Bytes}
use Rattle.paper.specs.Writing.{over as overwritten}
use Rattle.paper.proofs.Outcome.{refuse_no}
use Rattle.wire.specs.declared.sample.Sample.{Sample}
use Rattle.stream.specs.Table.{Thing}
use Rattle.stream.specs.Promises.{called}
use Rattle.turn.specs.Turns.{Turn, closed_by}
use Rattle.turn.specs.Promises.{Fresh}
use Rattle.turn.specs.Calls.{Fed}
use Rattle.turn.specs.Calls as calls
use Rattle.turn.specs.declared.gather.Gatherer.{Gatherer}
use Rattle.turn.proofs.Portions.{any_portions}
use Rattle.record.specs.Fields.{fields_of}
use Rattle.record.specs.Record.{fields, count_fits, values_of, record_of, reads as record_reads, turn_of, IsTurn}
use Rattle.record.specs.Record as record_spec
use Rattle.record.proofs.Writing.{record_length}
use Rattle.record.proofs.RoundTrip.{written_reads, write_then_read}
use Rattle.ring.specs.Answers.{is_all_read}
use Rattle.host.specs.declared.Host.{Host}
use Rattle.whole.specs.Work.{Works, over, reads, Tell}
use Rattle.whole.proofs.Things.{points_of, scans, points-append, scans_split, row_points, points_fit, scans_keep}
use Rattle.whole.proofs.Given.{given, call_given, call_row, row_alike, nothing_given}
use Rattle.whole.proofs.Rows.{Made, row_fed}
use Rattle.whole.proofs.Fit.{Fit, Near, closed_fit}

-- ---- the turns and their records

pub record Recorded (h : Host) (f c bs : List ℕ) (recs : List (List ℕ)) : Type 0 where
  pub turns : List Turn
  pub fed : Fed h.gatherer f c (points_of (given h.reader bs)) turns
  pub made : Made h.serial recs turns

made_append : (serial : List ℕ) (recs later : List (List ℕ)) (ts us : List Turn) → Made serial recs ts → Made serial later us → Made serial (recs ++ later) (ts ++ us)
unfolding Made
made_append serial [] later [] us a b = b
made_append serial [] later (t ∷ ts) us a b = absurd a
made_append serial (r ∷ recs) later [] us a b = absurd a
made_append serial (r ∷ recs) later (t ∷ ts) us a b = (a.0, made_append serial recs later ts us a.1 b)

fed_same : {g s : Gatherer} {f c : List ℕ} {xs ys : List Sample} {ts : List Turn} → g ≡ s → xs ≡ ys → Fed g f c xs ts → Fed s f c ys ts
fed_same {g} {s} {f} {c} {xs} {ys} {ts} e i x = subst (λ (a : Gatherer). Fed a f c ys ts) e (subst (λ (l : List Sample). Fed g f c l ts) i x)

made_same : {a b : List ℕ} (recs : List (List ℕ)) (ts : List Turn) → a ≡ b → Made a recs ts → Made b recs ts
made_same recs ts e m = subst (λ (x : List ℕ). Made x recs ts) e m

pub work_recorded : {h z : Host} {f c bs : List ℕ} {recs : List (List ℕ)} → Works h f c bs recs z → scans (given h.reader bs) ≡ true → Recorded h f c bs recs
unfolding points_of Made
work_recorded (over {h}) e = record { turns = []; fed = rw (nothing_given h.reader).0 calls.done; made = tt }
work_recorded (reads {h} {g} {z} {f} {c} {f₁} {c₁} {recs} {later} input was row rest r p d w) e =
    let bs : List ℕ = drop r.taken input ++ rest in
    let xs : List Thing = (called h.reader input was).given in
    let s = scans_split xs (given r.host.reader bs) (ap scans (sym (call_given p rest)) ∙ e) in
    let x = row_alike d in
    let rowed = row_fed d (points_of xs) (points_fit xs s.0) (call_row p rest ∙ row_points xs) in
    let on = work_recorded w (ap (λ s. scans (given s bs)) x.reader ∙ s.1) in
    let serial : r.host.serial ≡ h.serial = p.serial ∙ scans_keep h.serial xs s.0 in
    let all : points_of (given h.reader (input ++ rest)) ≡ points_of xs ++ points_of (given g.reader bs) =
    ap points_of (call_given p rest) ∙ points-append xs (given r.host.reader bs) ∙ ap (λ s. points_of xs ++ points_of (given s bs)) (sym x.reader) in
    record {
      turns = rowed.turns ++ on.turns;
      fed = fed_same p.gatherer (sym all) (rowed.fed (points_of (given g.reader bs)) on.turns on.fed);
      made = made_append h.serial recs later rowed.turns on.turns (made_same recs rowed.turns serial rowed.made) (made_same later on.turns (x.serial ∙ serial) on.made);
    }

-- ---- a record that was made reads as its turn

module _ (serial : List ℕ) (long : length serial ≡ 16) (bytes : Bytes serial) where
  is_turn : (number : ℕ) (t : Turn) → Fit t → number < 4294967296 → IsTurn (record { number = number; count = t.count; serial = serial; cells = t.cells })
  is_turn number t f n = record { number = n; serial = long; serial_bytes = bytes; cells = f.cells; cell_words = f.words }

  -- a memory of 754 bytes is written whole
  whole_over : (xs was : List ℕ) → length xs ≡ 754 → length was ≡ 754 → overwritten was xs ≡ xs
  unfolding overwritten
  whole_over xs was a b = let l : length was ≤ length xs = omega arith in rw (drop_of_length-le was l) (append-nil xs)

  made_is : (number : ℕ) (t : Turn) (was rec : List ℕ) → Fit t → length was ≡ 754
      → rec ≡ if_given (record_of (record { number = number; count = t.count; serial = serial; cells = t.cells })) (overwritten was) was
      → record_of (record { number = number; count = t.count; serial = serial; cells = t.cells }) ≡ gives rec
  unfolding record_of count_fits if_given
  made_is number t was rec f l e =
      let u : record_spec.Turn = record { number = number; count = t.count; serial = serial; cells = t.cells } in
      let o : record_of u ≡ gives (fields_of fields (values_of u)) = refuse_no _ _ (rw (le-leb 1 t.count f.one, le-leb t.count 8192 f.most)) in
      let r : rec ≡ overwritten was (fields_of fields (values_of u)) = rw o at e in
      o ∙ ap gives (sym (r ∙ whole_over (fields_of fields (values_of u)) was (record_length u long f.cells) l))

  -- records that were made of turns that closed tell these, and read
  pub made_tells : (recs : List (List ℕ)) (ts : List Turn) → Each Fit ts → Made serial recs ts → Tell serial recs ts × (is_all_read recs ≡ true)
  unfolding Made Tell Each is_all_read
  made_tells [] [] f m = (tt, refl)
  made_tells [] (t ∷ ts) f m = absurd m
  made_tells (rec ∷ recs) [] f m = absurd m
  made_tells (rec ∷ recs) (t ∷ ts) f m =
      let a = m.0 in
      let i = is_turn a.0 t f.0 a.2 in
      let w = made_is a.0 t a.1 rec f.0 a.3 a.4 in
      let on = made_tells recs ts f.1 m.1 in
      (((a.0, write_then_read _ rec i w), on.0), rw (written_reads _ rec i w, on.1))

  -- A HOST AT WORK: its records tell the turns that the samples close, one for one and in order
  pub work_tells : {h z : Host} {f c bs : List ℕ} {recs : List (List ℕ)} → Fresh h.gatherer → h.serial ≡ serial → Works h f c bs recs z → scans (given h.reader bs) ≡ true
      → Each Near (points_of (given h.reader bs)) → Tell serial recs (closed_by (points_of (given h.reader bs))) × (is_all_read recs ≡ true)
  work_tells {h} {bs = bs} {recs} fresh e w s n =
      let r = work_recorded w s in
      let t : r.turns ≡ closed_by (points_of (given h.reader bs)) = any_portions fresh r.fed in
      made_tells recs (closed_by (points_of (given h.reader bs))) (closed_fit _ n) (made_same recs _ e (subst (λ (ts : List Turn). Made h.serial recs ts) t r.made))
