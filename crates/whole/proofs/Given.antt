-- A host at work reads as one reading of all the bytes does: `work-session`, `work-serial`, `work-stands` over what that gives.
use Prim.Native.Nat.{ℕ}
use mathlib.Core.Path.{◌≡◌, refl, sym, ap, ◌∙◌}
use mathlib.Core.List.{List, [], ◌++◌, append-nil, append_assoc, flat_map}
use lib.ListN.{length, take, drop}
use lib.Seq.{take_at}
use lib.ListN.{take-append-drop}
use Rattle.paper.specs.Writing.{over as over_row}
use Rattle.framing.specs.Framing.{fed}
use Rattle.framing.specs.Run.{Result, run, joined, stopped, events}
use Rattle.framing.specs.Calls.{Answer, outputs}
use Rattle.framing.proofs.Run.{cutting_at, run_none}
use Rattle.framing.proofs.Giving.{outputs-append}
use Rattle.framing.proofs.Calls.{call_sound}
use Rattle.stream.specs.Table.{Event, Thing, reader, giving, row_of}
use Rattle.stream.specs.State.{meaning}
use Rattle.stream.specs.Promises.{called, row_given}
use Rattle.stream.specs.declared.Phase.{Phase}
use Rattle.stream.specs.declared.Reader.{Reader}
use Rattle.stream.proofs.Table.{reader_lawful}
use Rattle.stream.proofs.History.{call_means, call_none_due}
use Rattle.stream.proofs.inner.Promise.{waits}
use Rattle.paper.specs.Outcome.{Outcome, gives, refuses, mapped}
use Rattle.paper.specs.Refusals.{outcome}
use Rattle.paper.proofs.Outcome.{gives_one, gives_refuses}
use Rattle.wire.specs.declared.sample.Sample.{Sample}
use Rattle.turn.specs.Gather.{End, row_of as row_samples}
use Rattle.turn.specs.Promises.{gathering}
use Rattle.host.specs.Host.{waited, kept, through, reading_of, gathered, turned}
use Rattle.host.specs.Promises.{Hears}
use Rattle.host.specs.declared.Host.{Host}
use Rattle.host.specs.declared.Heard.{Heard}
use Rattle.host.specs.declared.Turned.{Turned}
use Rattle.host.proofs.Noted.{through_append}
use Rattle.whole.specs.Work.{Gathered, done, refused, more, Works, over, reads}

-- one reading of these bytes, and what it gives
abbrev pub reading : Reader → List ℕ → Result Phase Event
reading s bs = run reader (fed (meaning s) bs)

unfoldable pub given : Reader → List ℕ → List Thing
given s bs = outputs giving (reading s bs).steps

-- ---- one call

module _ {h : Host} {input was row : List ℕ} {r : Heard} (p : Hears h input was r row) (rest : List ℕ) where
  abbrev a : Answer Phase Event Thing
  a = called h.reader input was

  cut : input ++ rest ≡ take r.taken input ++ (drop r.taken input ++ rest)
  cut = ap (λ (l : List ℕ). l ++ rest) (sym (take-append-drop r.taken input)) ∙ append_assoc (take r.taken input) (drop r.taken input) rest

  ran : run reader (fed (meaning h.reader) (take r.taken input)) ≡ a.result
  unfolding called reading_of
  ran = rw p.reads.taken (call_sound reader_lawful giving (meaning h.reader) [] input (length was) (waits h.reader)).ran

  stands : a.result.end ≡ meaning r.host.reader
  unfolding reading_of
  stands = sym (call_means p.reads)

  gave : outputs giving a.result.steps ≡ a.given
  unfolding called
  gave =
      (call_sound reader_lawful giving (meaning h.reader) [] input (length was) (waits h.reader)).gave
      ∙ ap (λ (l : List Thing). a.given ++ l) (call_none_due p.reads) ∙ append-nil a.given

  on : reading h.reader (input ++ rest) ≡ joined a.result (reading r.host.reader (drop r.taken input ++ rest))
  on =
      ap (reading h.reader) cut
      ∙ cutting_at reader_lawful (meaning h.reader) (take r.taken input) (drop r.taken input ++ rest)
      ∙ rw (ran, stands)

  pub call_given : given h.reader (input ++ rest) ≡ a.given ++ given r.host.reader (drop r.taken input ++ rest)
  unfolding given joined
  call_given =
      ap (λ (x : Result Phase Event). outputs giving x.steps) on
      ∙ outputs-append giving a.result.steps (reading r.host.reader (drop r.taken input ++ rest)).steps
      ∙ ap (λ (l : List Thing). l ++ given r.host.reader (drop r.taken input ++ rest)) gave

  pub call_stands : (reading h.reader (input ++ rest)).end ≡ (reading r.host.reader (drop r.taken input ++ rest)).end
  unfolding joined
  call_stands = ap (λ (x : Result Phase Event). x.end) on

  -- its words
  pub call_row : take r.words row ≡ flat_map row_of a.given
  unfolding row_given over_row reading_of
  call_row = rw (p.reads.words, p.reads.row) (take_at (flat_map row_of a.given) _ (length (flat_map row_of a.given)) refl)

-- ---- gathering leaves session, reader and serial

-- what two hosts share
pub record Alike (h z : Host) : Type 0 where
  pub session : z.session ≡ h.session
  pub reader : z.reader ≡ h.reader
  pub serial : z.serial ≡ h.serial

alike : {h z : Host} → z.session ≡ h.session → z.reader ≡ h.reader → z.serial ≡ h.serial → Alike h z
alike a b c = record { session = a; reader = b; serial = c }

turned_alike : (h : Host) (o : Outcome (List Sample)) (e : List Sample → End) (r : Turned) → gives r ≡ mapped (λ (ms : List Sample). turned h (e ms)) o → Alike h r.host
unfolding mapped turned gathered
turned_alike h (gives ms) e r i = rw (gives_one i) (alike refl refl refl)
turned_alike h (refuses n) e r i = absurd (gives_refuses i)

pub row_alike : {h z : Host} {row f c f' c' : List ℕ} {recs : List (List ℕ)} → Gathered h row f c recs z f' c' → Alike h z
unfolding outcome
row_alike done = alike refl refl refl
row_alike (refused number was is q p d) = row_alike d
row_alike (more {h} {z} {row} {f} {c} number was is r b l p d) =
    let x = turned_alike h (row_samples row) (gathering h.gatherer f c) r p.answer in
    let y = row_alike d in
    alike (y.session ∙ x.session) (y.reader ∙ x.reader) (y.serial ∙ x.serial)

-- ---- a host at work

pub nothing_given : (s : Reader) → (given s [] ≡ []) × ((reading s []).end ≡ meaning s)
unfolding given outputs events flat_map stopped
nothing_given s = let e = run_none reader_lawful (meaning s) (waits s) in (rw e, rw e)

-- what is noted at work is what one reading of all the bytes gives
pub record Noted (h : Host) (bs : List ℕ) (z : Host) : Type 0 where
  pub session : z.session ≡ through waited h.session (given h.reader bs)
  pub serial : z.serial ≡ through kept h.serial (given h.reader bs)
  pub stands : meaning z.reader ≡ (reading h.reader bs).end

pub work_noted : {h z : Host} {f c bs : List ℕ} {recs : List (List ℕ)} → Works h f c bs recs z → Noted h bs z
unfolding through
work_noted (over {h}) =
    let e = nothing_given h.reader in
    record { session = rw e.0; serial = rw e.0; stands = sym e.1 }
work_noted (reads {h} {g} {z} input was row rest r p d w) =
    let x = row_alike d in
    let y = work_noted w in
    let bs : List ℕ = drop r.taken input ++ rest in
    let xs : List Thing = (called h.reader input was).given in
    record {
      session = y.session ∙ rw (x.session, x.reader, p.session, call_given p rest) (sym (through_append waited h.session xs (given r.host.reader bs)));
      serial = y.serial ∙ rw (x.serial, x.reader, p.serial, call_given p rest) (sym (through_append kept h.serial xs (given r.host.reader bs)));
      stands = y.stands ∙ rw x.reader (sym (call_stands p rest));
    }
