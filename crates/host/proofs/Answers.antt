-- How each promise of the host is met from those of session, reader, gatherer and record.
use Prim.Native.Nat.{ℕ}
use mathlib.Core.Path.{◌≡◌, refl, ap, ◌∙◌}
use mathlib.Core.Bool.{Bool, true, false, not}
use mathlib.Core.List.{List}
use native.Mathlib.Omega.{arith}
use lib.ListN.{length}
use Rattle.std.specs.Prelude.{Result, Ok, Err}
use Rattle.paper.specs.Outcome.{Outcome, gives, refuses, if_given, mapped}
use Rattle.paper.specs.Refusals.{number_of, outcome}
use Rattle.paper.specs.Writing.{Writes, fitting, over}
use Rattle.paper.specs.declared.refusal.Refusal.{Refusal}
use Rattle.paper.specs.declared.refusal.Refusal.TheVariants.{NotARecord}
use Rattle.paper.proofs.Outcome.{gives_one, gives_refuses, refuse_yes, refuse_no, refused_other, refused_as, given_as}
use Rattle.paper.proofs.Writing.{fitting_yes}
use Rattle.record.specs.Fields.{fields_of}
use Rattle.record.specs.Record.{Turn, fields, count_fits, values_of, record_of}
use Rattle.record.proofs.Writing.{record_length}
use Rattle.wire.specs.declared.request.Request.{Request}
use Rattle.wire.specs.declared.sample.Sample.{Sample}
use Rattle.session.specs.Promises.{RequestSent}
use Rattle.session.specs.declared.Session.{Session}
use Rattle.session.specs.declared.Sent.{Sent}
use Rattle.std.specs.Result.{result_unwrap_or}
use Rattle.stream.specs.Promises.{Reads, Tells}
use Rattle.stream.specs.Telling.{told_reader, after}
use Rattle.stream.proofs.Telling.{tells_after}
use Rattle.stream.specs.declared.Reader.{Reader}
use Rattle.stream.specs.declared.Reading.{Reading}
use Rattle.turn.specs.Gather.{row_of, told_by, row_told_by}
use Rattle.turn.specs.Promises.{Fresh, Gathers, gathering}
use Rattle.turn.specs.declared.gather.Gatherer.{Gatherer}
use Rattle.turn.specs.declared.gather.RowGathered.{RowGathered}
use Rattle.host.specs.Host.{asked, reading_of, gathered, ready, turned}
use Rattle.host.specs.Promises.{Asks, Hears, Turns}
use Rattle.host.specs.inner.Noted.{waited_at, is_info, kept_at}
use Rattle.host.specs.declared.Host.{Host}
use Rattle.host.proofs.Noted.{noted_session, noted_serial}

-- ---- a request

-- the reader that is told, or the very reader where it refuses
pub reader_told : {s : Reader} {q : Request} (r : Result Reader Refusal) → Tells s q r → result_unwrap_or r s ≡ told_reader s q
unfolding after
reader_told {s} r p = which r ∙ tells_after p
  where
    which : (r : Result Reader Refusal) → result_unwrap_or r s ≡ after s r
    which (Ok t) = refl
    which (Err q) = refl

module _ {h : Host} {time : ℕ} {q : Request} {payload was is : List ℕ} where
  -- what the session refuses
  pub asks_no : {a : Refusal} → RequestSent h.session time q payload was (Err a) is → Asks h time q payload was (Err a) is
  unfolding outcome
  asks_no p = record { answer = refused_as _ _ _ p.answer; output = p.output }

  -- what it sends: the reader and the gatherer are told
  pub asks_yes : {sent : Sent} {t : Result Reader Refusal} {r : Reader} {g : Gatherer} → RequestSent h.session time q payload was (Ok sent) is → Tells h.reader q t → r ≡ result_unwrap_or t h.reader → Fresh g
      → Asks h time q payload was (Ok (record { host = record { session = sent.session; reader = r; gatherer = g; serial = h.serial }; bytes = sent.bytes })) is
  unfolding outcome asked
  asks_yes {sent} {t} {r} {g} p v e f = record {
    answer = given_as _ _ (λ (s : Sent). record { host = record { session = s.session; reader = r; gatherer = g; serial = h.serial }; bytes = s.bytes }) _
        (λ xs. rw (e ∙ reader_told t v, f.answer)) p.answer;
    output = p.output;
  }

-- ---- bytes

pub hears : {h : Host} {input was row : List ℕ} {r : Reading} {s : Session} {serial : List ℕ} → Reads h.reader input was r row
    → s ≡ waited_at r.stop h.session → serial ≡ kept_at (is_info h.reader.phase r.stop) r.reply h.serial
    → Hears h input was (record {
      host = record { session = s; reader = r.reader; gatherer = h.gatherer; serial = serial };
      taken = r.taken;
      words = r.words;
      stop = r.stop;
      reply = r.reply;
    }) row
unfolding reading_of
hears {h} p e f = record { reads = p; session = e ∙ noted_session p h.session; gatherer = refl; serial = f ∙ noted_serial p h.serial }

-- ---- a row

-- a memory of 754 bytes has room for a record
pub made_ready : (t : Turn) (was is : List ℕ) (w : Result ℕ Refusal) → length t.serial ≡ 16 → length t.cells ≡ 360 → length was ≡ 754 → Writes (record_of t) was w is
    → is ≡ if_given (record_of t) (over was) was
unfolding if_given record_of fitting
made_ready t was is w s c l p = go (not (count_fits t.count)) refl
  where
    go : (b : Bool) → not (count_fits t.count) ≡ b → is ≡ if_given (record_of t) (over was) was
    go true e = let o = refuse_yes (number_of NotARecord) (gives (fields_of fields (values_of t))) e in rw o (rw o at p.output)
    go false e =
        let o = refuse_no (number_of NotARecord) (gives (fields_of fields (values_of t))) e in
        let f = fitting_yes (fields_of fields (values_of t)) (length was) (omega (arith, record_length t s c)) in
        rw o (rw (o, f) at p.output)

module _ {h : Host} {row : List ℕ} (number : ℕ) {f c : List ℕ} (rec : List ℕ) {f' c' : List ℕ} where
  -- refused: all is as it was
  pub turns_no : {q : Refusal} → Gathers row_told_by (row_of row) h.gatherer f c (Err q) f' c' → Turns h row number f c rec (Err q) f' c' rec
  unfolding outcome
  turns_no p = record {
    answer = refused_as _ _ _ p.answer;
    filled = p.filled;
    shown = p.shown;
    ready = refused_other (λ (ms : List Sample). ms) _ _ _ (refused_as _ (row_of row) (λ (ms : List Sample). ms) p.answer);
  }

  -- gathered: a turn closed or none did, and what the record then is
  pub turns_yes : {g : RowGathered} {rec' : List ℕ} → Gathers row_told_by (row_of row) h.gatherer f c (Ok g) f' c' → rec' ≡ ready h number rec g.gathered.turn c'
      → Turns h row number f c rec (Ok (record {
        host = record { session = h.session; reader = h.reader; gatherer = g.gathered.gatherer; serial = h.serial };
        words = g.words;
        turn = g.gathered.turn;
      })) f' c' rec'
  unfolding outcome mapped if_given row_told_by told_by turned gathered
  turns_yes {g} {rec'} p z = go (row_of row) refl p.answer
    where
      go : (o : Outcome (List Sample)) → row_of row ≡ o → gives g ≡ mapped (λ (ms : List Sample). row_told_by (gathering h.gatherer f c ms)) o
          → Turns h row number f c rec (Ok (record {
            host = record { session = h.session; reader = h.reader; gatherer = g.gathered.gatherer; serial = h.serial };
            words = g.words;
            turn = g.gathered.turn;
          })) f' c' rec'
      go (refuses n) i v = absurd (gives_refuses v)
      go (gives ms) i v =
          let w : g ≡ row_told_by (gathering h.gatherer f c ms) = gives_one v in
          record {
            answer = rw i (ap (λ (x : RowGathered). gives (record {
              host = record { session = h.session; reader = h.reader; gatherer = x.gathered.gatherer; serial = h.serial };
              words = x.words;
              turn = x.gathered.turn;
            })) w);
            filled = p.filled;
            shown = p.shown;
            ready = rw i (z ∙ ap (λ (x : RowGathered). ready h number rec x.gathered.turn c') w);
          }
