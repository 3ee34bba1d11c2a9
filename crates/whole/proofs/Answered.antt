-- What the model sends, one reading reads back: `descriptor_given`, `info_given`, `health_given`, `scan_given`.
use Prim.Native.Nat.{ℕ, ◌+◌}
use mathlib.Core.Path.{◌≡◌, refl, sym, ap, ◌∙◌}
use mathlib.Core.Bool.{true, not}
use mathlib.Core.Option.{some}
use mathlib.Core.List.{List, [], ◌∷◌, ◌++◌, map, flat_map, append-nil}
use native.Mathlib.Omega.{arith}
use borrow.Author.Tests.{eqb-true, not-false}
use lib.Dec.{eqb}
use lib.ListN.{length, take, drop}
use lib.Seq.{take_at, drop_at, take_all}
use Rattle.paper.proofs.Writing.{written_front}
use Rattle.paper.specs.Outcome.{gives, if_given}
use Rattle.paper.specs.Words.{Each}
use Rattle.std.specs.Prelude.{Ok}
use Rattle.paper.specs.Writing.{Writes}
use Rattle.paper.proofs.Outcome.{refuse_not}
use Rattle.framing.specs.Framing.{frame, size, State, fresh, fed, after}
use Rattle.framing.specs.Run.{Result, run, joined, stepped, events}
use Rattle.framing.specs.Stages.{step_of}
use Rattle.framing.specs.Calls.{outputs}
use Rattle.wire.specs.declared.sample.Sample.{Sample}
use Rattle.wire.specs.declared.reply.Health.{Health}
use Rattle.wire.specs.Sample.{fit, is_sample, passes, sample_of, bytes_of_sample}
use Rattle.wire.specs.Reply.{health_of, is_health}
use Rattle.wire.specs.Descriptor.{scan_descriptor}
use Rattle.paper.proofs.Cases.{both_hold}
use Rattle.stream.specs.Table.{Event, descriptor, reply, Thing, headed, replied, point, width, says, read_health, reader, giving, things_of, follows}
use Rattle.stream.specs.State.{meaning}
use Rattle.stream.specs.Readings.{first_place, Scan, scan, sampled, over}
use Rattle.stream.specs.declared.Phase.{Phase}
use Rattle.stream.specs.declared.Phase.TheVariants.{Idle, SeekScan, InfoReply, HealthReply}
use Rattle.stream.specs.declared.Reader.{Reader}
use Rattle.stream.specs.inner.Seek.{Seeks}
use Rattle.stream.proofs.Table.{same_refl}
use Rattle.stream.proofs.inner.Seek.{seeks_scan}
use Rattle.stream.proofs.Readings.{idle_run, found_run, reply_run, scan_run}
use Rattle.device.specs.Model.{sends_samples, sample_sent}
use Rattle.device.specs.declared.model.Model.{Model}
use Rattle.device.proofs.ReadBack.{sample_read_lem}
use Rattle.whole.specs.Line.{Sends, none, one}
use Rattle.whole.proofs.Given.{given}
use Rattle.whole.proofs.Things.{all_fit}
use Rattle.whole.proofs.Fit.{Near}

-- ---- the descriptor

place_at_front : (d bs : List ℕ) → length d ≡ 7 → first_place d (d ++ bs) ≡ some 0
unfolding first_place
place_at_front [] bs l = absurd (omega arith)
place_at_front (x ∷ xs) bs l = rw (take_at (x ∷ xs) bs 7 l, same_refl (x ∷ xs))

-- it is given, and the reading goes on behind it
pub descriptor_given : {p q : Phase} {d : List ℕ} → Seeks p d q → (s : Reader) → meaning s ≡ fresh p → (bs : List ℕ)
    → given s (d ++ bs) ≡ headed ∷ outputs giving (run reader (record { phase = q; bytes = bs })).steps
unfolding given joined fed outputs events flat_map things_of
descriptor_given {p} {q} {d} z s e bs =
    let b : drop (0 + 7) (d ++ bs) ≡ bs = drop_at d bs 7 z.long in
    let r : run reader (record { phase = p; bytes = d ++ bs }) ≡ joined (record { steps = frame 7 descriptor ∷ []; end = fresh q }) (run reader (record { phase = q; bytes = bs })) =
    found_run z (d ++ bs) 0 (place_at_front d bs z.long) ∙ rw b in
    ap (λ (x : State Phase). outputs giving (run reader (fed x (d ++ bs))).steps) e
    ∙ ap (λ (x : Result Phase Event). outputs giving x.steps) r

-- ---- replies

reply_given : (p : Phase) (w : List ℕ) → length w ≡ width p → step_of (width p) (says p w) ≡ frame (width p) (reply w) → ((e : Event) → follows p e ≡ Idle)
    → outputs giving (run reader (record { phase = p; bytes = w })).steps ≡ replied w ∷ []
unfolding stepped outputs events flat_map things_of after size
reply_given p w l v f =
    let t : take (width p) w ≡ w = take_all (width p) w (omega arith) in
    let b : drop (width p) w ≡ [] = ap (drop (width p)) (sym (append-nil w)) ∙ drop_at w [] (width p) l in
    let r : run reader (record { phase = p; bytes = w }) ≡ stepped (frame (width p) (reply w)) (run reader (record { phase = Idle; bytes = [] })) =
    reply_run p w (frame (width p) (reply w)) (omega arith) (rw t v) ∙ rw (b, f (reply w)) in
    let i = idle_run [] in
    ap (λ (x : Result Phase Event). outputs giving x.steps) r ∙ rw i

pub info_given : (w : List ℕ) → length w ≡ 20 → outputs giving (run reader (record { phase = InfoReply; bytes = w })).steps ≡ replied w ∷ []
unfolding width says follows step_of
info_given w l = reply_given InfoReply w l refl (λ e. refl)

health_long : (w : List ℕ) {h : Health} → health_of w ≡ gives h → length w ≡ 3
unfolding health_of is_health
health_long w e = eqb-true (length w) 3 (both_hold (eqb (length w) 3) _ (not-false _ (refuse_not _ _ _ e).0)).0

pub health_given : (w : List ℕ) {h : Health} → health_of w ≡ gives h → outputs giving (run reader (record { phase = HealthReply; bytes = w })).steps ≡ replied w ∷ []
unfolding width says follows step_of read_health if_given
health_given w e = reply_given HealthReply w (health_long w e) (rw e) (λ x. refl)

-- ---- samples

sample_long : (w : List ℕ) {m : Sample} → sample_of w ≡ gives m → length w ≡ 5
unfolding sample_of is_sample
sample_long w e = eqb-true (length w) 5 (both_hold (eqb (length w) 5) (passes w) (not-false _ (refuse_not _ _ _ e).0)).0

scan_sample : (w bs : List ℕ) (m : Sample) → length w ≡ 5 → sample_of w ≡ gives m → scan (w ++ bs) ≡ sampled m (scan bs)
unfolding scan if_given
scan_sample (a ∷ b ∷ c ∷ d ∷ e ∷ []) bs m l i = rw i
scan_sample [] bs m l i = absurd (omega arith)
scan_sample (a ∷ []) bs m l i = absurd (omega arith)
scan_sample (a ∷ b ∷ []) bs m l i = absurd (omega arith)
scan_sample (a ∷ b ∷ c ∷ []) bs m l i = absurd (omega arith)
scan_sample (a ∷ b ∷ c ∷ d ∷ []) bs m l i = absurd (omega arith)
scan_sample (a ∷ b ∷ c ∷ d ∷ e ∷ f ∷ w) bs m l i = absurd (omega arith)

-- what the model sends is fit
fit_sent : (m : Model) (x : Sample) (was is : List ℕ) (n : ℕ) → Writes (sample_sent m x) was (Ok n) is → fit x.angle.0 x.quality ≡ true
unfolding sample_sent bytes_of_sample
fit_sent m x was is n w =
    let f = written_front (sample_sent m x) was is n w in
    let g = refuse_not (not (sends_samples m.state m.stable)) _ _ f.given in
    not-false _ (refuse_not (not (fit x.angle.0 x.quality)) _ _ g.1).0

-- the samples that the model sent, as the scan reads them
pub record Sent (ms : List Sample) (bs : List ℕ) : Type 0 where
  pub fits : all_fit ms ≡ true
  pub near : Each Near ms
  pub read : scan bs ≡ record { samples = ms; skipped = 0; left = [] }

pub sends_read : {m : Model} {ms : List Sample} {bs : List ℕ} → Sends m ms bs → Sent ms bs
unfolding all_fit Each scan over sampled
sends_read none = record { fits = refl; near = tt; read = refl }
sends_read {m} (one {ms} {bs} x was is n l w more) =
    let on = sends_read more in
    let b = sample_read_lem m x was is n l w in
    record { fits = rw (fit_sent m x was is n w, on.fits); near = (l, on.near); read = scan_sample (take n is) bs x (sample_long (take n is) b) b ∙ rw on.read }

-- behind the descriptor of a scan they are given, and nothing else
pub scan_given : {m : Model} {ms : List Sample} {bs : List ℕ} → Sends m ms bs → (s : Reader) → meaning s ≡ fresh SeekScan → given s (scan_descriptor ++ bs) ≡ headed ∷ map point ms
scan_given {ms = ms} {bs} x s e =
    descriptor_given (seeks_scan refl) s e bs ∙ ap {B = List Thing} (λ l. headed ∷ l) ((scan_run bs).things ∙ ap (λ (y : Scan). map point y.samples) (sends_read x).read)
