-- THE WHOLE LOOP. `info_back` and `health_back`: the host reads back the info and the health that the bench gave and set. `model_to_records`: of
-- exactly the samples that the model was given, in order and whatever the cuts, each turn that closes becomes a record that tells it.
-- `model_to_listing`: these records, stored, are what the listing shows. From the model to the listing nothing is lost, invented or reordered.
use Prim.Native.Nat.{ℕ, ◌-◌, ◌<◌}
use mathlib.Core.Path.{◌≡◌, refl, sym, ap, subst, ◌∙◌}
use mathlib.Core.Bool.{true}
use mathlib.Core.List.{List, [], ◌∷◌, ◌++◌, map}
use borrow.Author.Tests.{eqb-true, not-false}
use lib.ListN.{length, take, drop, take-append-drop}
use Rattle.paper.proofs.Outcome.{refuse_not}
use Rattle.paper.specs.Outcome.{gives, if_given}
use Rattle.paper.specs.Words.{Each, Bytes}
use Rattle.std.specs.Prelude.{Ok}
use Rattle.wire.specs.Request.{kind_of}
use Rattle.wire.specs.Reply.{info_of, health_of}
use Rattle.wire.specs.Descriptor.{scan_descriptor, info_descriptor, health_descriptor}
use Rattle.wire.specs.declared.request.Request.{Request}
use Rattle.wire.specs.declared.request.Kind.TheVariants.{GetInfo, GetHealth}
use Rattle.wire.specs.declared.reply.Info.{Info}
use Rattle.wire.specs.declared.sample.Sample.{Sample}
use Rattle.session.specs.Session.{ended}
use Rattle.stream.specs.Table.{Thing, headed, replied, point}
use Rattle.stream.specs.Telling.{opening, opens}
use Rattle.stream.specs.declared.Phase.TheVariants.{SeekInfo, SeekHealth, SeekScan}
use Rattle.stream.proofs.inner.Seek.{seeks_info, seeks_health}
use Rattle.turn.specs.Turns.{closed_by}
use Rattle.ring.specs.Ring.{turns}
use Rattle.ring.specs.Answers.{is_all_read}
use Rattle.ring.specs.History.{last}
use Rattle.ring.specs.Calls.{Led, Start}
use Rattle.device.specs.Model.{health_now}
use Rattle.device.specs.Promises.{Asking}
use Rattle.device.specs.declared.model.Model.{Model}
use Rattle.device.specs.declared.model.Asked.{Asked as Answered}
use Rattle.device.proofs.ReadBack.{info_read, health_read_lem}
use Rattle.listing.specs.Text.{lines, held_line, text_of}
use Rattle.host.specs.Host.{waited, kept as kept_by, through}
use Rattle.host.specs.Promises.{Asks}
use Rattle.host.specs.declared.Host.{Host}
use Rattle.host.specs.declared.Asked.{Asked}
use Rattle.whole.specs.Work.{Works, Tell}
use Rattle.whole.specs.Line.{Sends, wholly}
use Rattle.whole.proofs.Things.{points_of, scans, points-map, scans-map}
use Rattle.whole.proofs.Given.{given, work_noted}
use Rattle.whole.proofs.Fit.{Near}
use Rattle.whole.proofs.Recorded.{work_tells}
use Rattle.whole.proofs.Answered.{descriptor_given, info_given, health_given, sends_read, scan_given}
use Rattle.whole.proofs.Asked.{asked_fresh, asked_serial, asked_awaits}
use Rattle.whole.proofs.Shown.{stored_listed}

info_long : (w : List ℕ) {i : Info} → info_of w ≡ gives i → length w ≡ 20
unfolding info_of
info_long w e = eqb-true (length w) 20 (not-false _ (refuse_not _ _ _ e).0)

-- the host has sent a request
module _ {h : Host} {time : ℕ} {q : Request} {payload was : List ℕ} {r : Asked} {is : List ℕ} (a : Asks h time q payload was (Ok r) is) where
  -- what it reads back of a reply: behind the descriptor these bytes and nothing else, and the session awaits none
  pub record Replied (w bs : List ℕ) (z : Host) : Type 0 where
    pub things : given r.host.reader bs ≡ headed ∷ replied w ∷ []
    pub session : z.session ≡ ended r.host.session

  module _ (m : Model) (was' is' : List ℕ) (s : Answered) (asking : Asking m q was' (Ok s) is') where
    -- THE INFO THAT THE BENCH GAVE, and its serial is kept
    pub record InfoBack (z : Host) : Type 0 where
      pub reply : List ℕ
      pub replied : Replied reply (take s.bytes is') z
      pub info : info_of reply ≡ gives m.info
      pub serial : z.serial ≡ m.info.serial

    bytes_are : (d : List ℕ) → take 7 (take s.bytes is') ≡ d → take s.bytes is' ≡ d ++ drop 7 (take s.bytes is')
    bytes_are d e = sym (take-append-drop 7 (take s.bytes is')) ∙ ap (λ (l : List ℕ). l ++ drop 7 (take s.bytes is')) e

    pub info_back : {f c : List ℕ} {recs : List (List ℕ)} {z : Host} → kind_of q.0 ≡ GetInfo → length m.info.serial ≡ 16 → Works r.host f c (take s.bytes is') recs z → InfoBack z
    unfolding opening through waited kept_by if_given
    info_back kind l w =
        let reply : List ℕ = drop 7 (take s.bytes is') in
        let i = info_read m q was' is' (Ok s) s refl asking kind l in
        let b : take s.bytes is' ≡ info_descriptor ++ reply = bytes_are info_descriptor i.0 in
        let g : given r.host.reader (take s.bytes is') ≡ headed ∷ replied reply ∷ [] =
        ap (given r.host.reader) b ∙ descriptor_given (seeks_info refl) r.host.reader (asked_awaits a SeekInfo (rw kind)) reply
        ∙ ap {B = List Thing} (λ x. headed ∷ x) (info_given reply (info_long reply i.1)) in
        let x = work_noted w in
        record {
          reply = reply;
          replied = record { things = g; session = x.session ∙ rw g };
          info = i.1;
          serial = x.serial ∙ rw (g, i.1);
        }

    -- THE HEALTH that the bench set
    pub record HealthBack (z : Host) : Type 0 where
      pub reply : List ℕ
      pub replied : Replied reply (take s.bytes is') z
      pub health : health_of reply ≡ gives (health_now m)

    pub health_back : {f c : List ℕ} {recs : List (List ℕ)} {z : Host} → kind_of q.0 ≡ GetHealth → m.error < 65536 → Works r.host f c (take s.bytes is') recs z → HealthBack z
    unfolding opening through waited
    health_back kind l w =
        let reply : List ℕ = drop 7 (take s.bytes is') in
        let i = health_read_lem m q was' is' (Ok s) s refl asking kind l in
        let b : take s.bytes is' ≡ health_descriptor ++ reply = bytes_are health_descriptor i.0 in
        let g : given r.host.reader (take s.bytes is') ≡ headed ∷ replied reply ∷ [] =
        ap (given r.host.reader) b ∙ descriptor_given (seeks_health refl) r.host.reader (asked_awaits a SeekHealth (rw kind)) reply
        ∙ ap {B = List Thing} (λ x. headed ∷ x) (health_given reply i.1) in
        record { reply = reply; replied = record { things = g; session = (work_noted w).session ∙ rw g }; health = i.1 }

  -- SAMPLES TO RECORDS: the model answered a scan's request with its descriptor, and was given these samples
  module _ {m : Model} {ms : List Sample} {bs : List ℕ} (scan : opens q ≡ gives SeekScan) (long : length h.serial ≡ 16) (bytes : Bytes h.serial) (sends : Sends m ms bs) where
    pub samples_given : given r.host.reader (scan_descriptor ++ bs) ≡ headed ∷ map point ms
    samples_given = scan_given sends r.host.reader (asked_awaits a SeekScan scan)

    points_are : points_of (given r.host.reader (scan_descriptor ++ bs)) ≡ ms
    unfolding points_of
    points_are = ap points_of samples_given ∙ points-map ms

    scans_all : scans (given r.host.reader (scan_descriptor ++ bs)) ≡ true
    unfolding scans
    scans_all = ap scans samples_given ∙ scans-map ms (sends_read sends).fits

    pub model_to_records : {f c : List ℕ} {recs : List (List ℕ)} {z : Host} → Works r.host f c (scan_descriptor ++ bs) recs z → Tell h.serial recs (closed_by ms) × (is_all_read recs ≡ true)
    model_to_records {recs = recs} w =
        let near = subst (λ (l : List Sample). Each Near l) (sym points_are) (sends_read sends).near in
        let t = work_tells h.serial long bytes (asked_fresh a) (asked_serial a) w scans_all near in
        (subst (λ (l : List Sample). Tell h.serial recs (closed_by l)) points_are t.0, t.1)

    -- RECORDS TO LISTING: stored one after the other in a ring whose turns read, the last S - 1 of all are what the listing shows
    pub record Listed (S : ℕ) (mem ring : List ℕ) (recs : List (List ℕ)) : Type 0 where
      pub tell : Tell h.serial recs (closed_by ms)
      pub text : text_of S ring ≡ held_line (length (last (S - 1) (turns S mem ++ recs))) ++ lines (last (S - 1) (turns S mem ++ recs))

    pub model_to_listing : {f c : List ℕ} {recs : List (List ℕ)} {z : Host} → Works r.host f c (scan_descriptor ++ bs) recs z
        → (S : ℕ) (mem ring : List ℕ) → Start S mem → Led S mem (wholly recs) ring → Listed S mem ring recs
    model_to_listing {recs = recs} w S mem ring s c =
        let t = model_to_records w in
        record { tell = t.0; text = stored_listed S mem recs ring s t.1 c }
