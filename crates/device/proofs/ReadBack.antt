-- What the model sends reads back: its descriptors are the expected ones, and its info, health and samples are what the bench gave.
-- `scan_read`, `info_read`, `health_read_lem` over the promise of a request, `sample_read_lem` over that of a sample, `descriptors_read` of the three descriptors.
use Prim.Native.Nat.{ℕ, ◌<◌}
use mathlib.Core.Path.{◌≡◌, refl, sym, ap, ◌∙◌}
use mathlib.Core.Bool.{Bool, true, false, cond, not}
use mathlib.Core.List.{List, [], ◌++◌}
use lib.ListN.{length, take, drop}
use lib.Seq.{take_at, drop_at}
use Rattle.paper.specs.Outcome.{Outcome, gives, refuses, refuse_if, mapped}
use Rattle.paper.specs.Refusals.{number_of, outcome}
use Rattle.paper.specs.Words.{value_of}
use Rattle.paper.specs.Writing.{Writes}
use Rattle.paper.specs.declared.refusal.Refusal.TheVariants.{NoSampleSent}
use Rattle.paper.specs.declared.refusal.Refusal.{Refusal}
use Rattle.std.specs.Prelude.{Result, Ok}
use Rattle.paper.proofs.Outcome.{gives_one, gives_refuses, refuse_not}
use Rattle.paper.proofs.Writing.{Front, written_front, written_count}
use Rattle.wire.specs.Request.{kind_of}
use Rattle.wire.specs.Descriptor.{is_descriptor, descriptor_in, descriptor_of, scan_descriptor, info_descriptor, health_descriptor}
use Rattle.wire.specs.Reply.{info_of, bytes_of_info, health_of, bytes_of_health}
use Rattle.wire.specs.Sample.{sample_of, bytes_of_sample}
use Rattle.wire.proofs.WriteThenRead.{info_back, health_back, sample_back}
use Rattle.wire.specs.declared.request.Request.{Request}
use Rattle.wire.specs.declared.request.Kind.{Kind}
use Rattle.wire.specs.declared.request.Kind.TheVariants.{Scan, ForceScan, GetInfo, GetHealth}
use Rattle.wire.specs.declared.sample.Sample.{Sample}
use Rattle.device.specs.Model.{protected, health_now, behind_descriptor, sent, sends_samples, sample_sent}
use Rattle.device.specs.Promises.{Asking}
use Rattle.device.specs.declared.model.Model.{Model}
use Rattle.device.specs.declared.model.Asked.{Asked}

-- a reply behind its descriptor
behind_front : (d : List ℕ) (o : Outcome (List ℕ)) (n : ℕ) (is : List ℕ) → length d ≡ 7 → Front (behind_descriptor d o) n is
    → (take 7 (take n is) ≡ d) × (o ≡ gives (drop 7 (take n is)))
unfolding behind_descriptor mapped
behind_front d (refuses m) n is l f = absurd (gives_refuses (sym f.given))
behind_front d (gives xs) n is l f =
    let all : take n is ≡ d ++ xs = f.front ∙ sym (gives_one f.given) in
    (ap (take 7) all ∙ take_at d xs 7 l, ap gives (sym (ap (drop 7) all ∙ drop_at d xs 7 l)))

-- the three descriptors, by the definition of reading one: five bytes again and again, twenty bytes once, three bytes once
pub descriptors_read : (descriptor_of scan_descriptor ≡ gives (record { length = 5; mode = 1; kind = 0x81 }))
    × (descriptor_of info_descriptor ≡ gives (record { length = 20; mode = 0; kind = 0x04 }))
    × (descriptor_of health_descriptor ≡ gives (record { length = 3; mode = 0; kind = 0x06 }))
unfolding descriptor_of is_descriptor descriptor_in scan_descriptor info_descriptor health_descriptor refuse_if value_of
descriptors_read = (refl, refl, refl)

-- a request that was answered with n bytes
module _ (m : Model) (request : Request) (was is : List ℕ) (r : Result Asked Refusal) (x : Asked) (done : r ≡ Ok x) (asking : Asking m request was r is) where
  bytes_sent : Writes (sent m (kind_of request.0)) was (Ok x.bytes) is
  unfolding outcome
  bytes_sent = written_count (λ (y : Asked). y.bytes) _ (λ xs. refl) (rw done at asking.answer) asking.output

  front_of : (kind : Kind) → kind_of request.0 ≡ kind → Front (sent m kind) x.bytes is
  front_of kind k = written_front (sent m kind) was is x.bytes (rw k at bytes_sent)

  -- SCAN and FORCE_SCAN: the expected descriptor, or nothing in protection stop
  pub scan_read : (forced : Bool) → kind_of request.0 ≡ cond forced ForceScan Scan → take x.bytes is ≡ protected m.state [] scan_descriptor
  unfolding sent
  scan_read true k = let f = front_of ForceScan k in f.front ∙ sym (gives_one f.given)
  scan_read false k = let f = front_of Scan k in f.front ∙ sym (gives_one f.given)

  -- GET_INFO: the expected descriptor, and then bytes that read to the info that the bench gave
  pub info_read : kind_of request.0 ≡ GetInfo → length m.info.serial ≡ 16
      → (take 7 (take x.bytes is) ≡ info_descriptor) × (info_of (drop 7 (take x.bytes is)) ≡ gives m.info)
  unfolding sent info_descriptor
  info_read k l =
      let f = behind_front info_descriptor (bytes_of_info m.info) x.bytes is refl (front_of GetInfo k) in
      (f.0, info_back m.info (drop 7 (take x.bytes is)) l f.1)

  -- GET_HEALTH: the expected descriptor, and then bytes that read to the model's health
  pub health_read_lem : kind_of request.0 ≡ GetHealth → m.error < 65536
      → (take 7 (take x.bytes is) ≡ health_descriptor) × (health_of (drop 7 (take x.bytes is)) ≡ gives (health_now m))
  unfolding sent health_descriptor health_now
  health_read_lem k l =
      let f = behind_front health_descriptor (bytes_of_health (health_now m)) x.bytes is refl (front_of GetHealth k) in
      (f.0, health_back (health_now m) (drop 7 (take x.bytes is)) l f.1)

-- a sample that was sent reads to the one that the bench gave
pub sample_read_lem : (m : Model) (x : Sample) (was is : List ℕ) (n : ℕ) → x.distance.0 < 65536 → Writes (sample_sent m x) was (Ok n) is
    → sample_of (take n is) ≡ gives x
unfolding sample_sent
sample_read_lem m x was is n l w =
    let f = written_front (sample_sent m x) was is n w in
    let g = refuse_not (not (sends_samples m.state m.stable)) (number_of NoSampleSent) (bytes_of_sample x) f.given in
    rw f.front (sample_back x f.bytes l g.1)
