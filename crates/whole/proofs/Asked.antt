-- A request that a host sends: a collector collects it (`sent_collected`), and the host awaits the answer to it (`asked_awaits`).
use Prim.Native.Nat.{ℕ, suc, ◌-◌, ◌≤◌}
use mathlib.Core.Path.{◌≡◌, refl, sym, ap, ◌∙◌}
use mathlib.Core.List.{List}
use lib.ListN.{length, take}
use Rattle.std.specs.Prelude.{Ok}
use Rattle.paper.proofs.Writing.{written_front, written_count}
use Rattle.paper.specs.Outcome.{Outcome, gives, refuses, if_given, mapped}
use Rattle.paper.specs.Refusals.{outcome}
use Rattle.paper.specs.Writing.{Writes, fitting}
use Rattle.paper.proofs.Outcome.{gives_one, gives_refuses, refuse_not}
use Rattle.framing.specs.Framing.{fresh}
use Rattle.wire.specs.Request.{kind_of, packet_time}
use Rattle.wire.specs.declared.request.Request.{Request}
use Rattle.session.specs.Session.{in_order, sending, accepted}
use Rattle.stream.specs.State.{meaning}
use Rattle.stream.specs.Telling.{opens, told_reader}
use Rattle.stream.specs.declared.Phase.{Phase}
use Rattle.stream.proofs.Table.{width_pos}
use Rattle.stream.proofs.History.{meaning_written}
use Rattle.turn.specs.Promises.{Fresh}
use Rattle.device.specs.Feeding.{feeding, collected_whole}
use Rattle.device.specs.declared.collector.Collector.{Collector}
use Rattle.device.specs.declared.collector.Stage.TheVariants.{Empty}
use Rattle.device.proofs.Collected.{request_collected}
use Rattle.host.specs.Host.{asked}
use Rattle.host.specs.Promises.{Asks}
use Rattle.host.specs.declared.Host.{Host}
use Rattle.host.specs.declared.Asked.{Asked}

module _ {h : Host} {time : ℕ} {q : Request} {payload was : List ℕ} {r : Asked} {is : List ℕ} (a : Asks h time q payload was (Ok r) is) where
  bytes_written : Writes (sending h.session time q.0 payload) was (Ok r.bytes) is
  unfolding outcome
  bytes_written = written_count (λ (y : Asked). y.bytes) _ (λ xs. refl) a.answer a.output

  -- the host is told its own request
  is_asked : r.host ≡ asked h time q
  unfolding outcome mapped
  is_asked = go (fitting (length was) (sending h.session time q.0 payload)) a.answer
    where
      go : (o : Outcome (List ℕ)) → gives r ≡ mapped (λ xs. record { host = asked h time q; bytes = length xs }) o → r.host ≡ asked h time q
      go (gives xs) e = ap (λ (x : Asked). x.host) (gives_one e)
      go (refuses m) e = absurd (gives_refuses e)

  -- WHAT A HOST SENDS, A COLLECTOR COLLECTS: after its last byte and not before, with the same code and payload
  pub sent_collected : (s : Collector) (mem : List ℕ) (t : ℕ → ℕ) → s.stage ≡ Empty → s.last ≤ t 0 → ((j : ℕ) → t j ≤ t (suc j)) → ((j : ℕ) → t j - t 0 ≤ packet_time) → 255 ≤ length mem
      → feeding s mem t (take r.bytes is) ≡ collected_whole q.0 payload (take r.bytes is) mem t
  unfolding sending in_order
  sent_collected s mem t idle late up soon room =
      let f = written_front (sending h.session time q.0 payload) was is r.bytes bytes_written in
      let b = refuse_not _ _ _ f.given in
      let c = refuse_not _ _ _ b.1 in
      let d = refuse_not _ _ _ c.1 in
      let e = refuse_not _ _ _ d.1 in
      request_collected s mem t idle late up soon q.0 payload (take r.bytes is) (e.1 ∙ ap gives (sym f.front)) room

  -- the host behind it: its session has accepted it, no turn is open, and its serial is the same
  pub asked_session : r.host.session ≡ accepted time (kind_of q.0)
  unfolding asked
  asked_session = ap (λ (x : Host). x.session) is_asked

  pub asked_fresh : Fresh r.host.gatherer
  unfolding asked
  asked_fresh = record { answer = ap (λ (x : Host). x.gatherer) is_asked }

  pub asked_serial : r.host.serial ≡ h.serial
  unfolding asked
  asked_serial = ap (λ (x : Host). x.serial) is_asked

  told_means : (p : Phase) → opens q ≡ gives p → meaning (told_reader h.reader q) ≡ fresh p
  unfolding told_reader if_given
  told_means p e = rw e (meaning_written (fresh p) _ (width_pos p))

  -- its reader holds no byte, and looks for what answers the request
  pub asked_awaits : (p : Phase) → opens q ≡ gives p → meaning r.host.reader ≡ fresh p
  unfolding asked
  asked_awaits p e = ap (λ (x : Host). meaning x.reader) is_asked ∙ told_means p e
