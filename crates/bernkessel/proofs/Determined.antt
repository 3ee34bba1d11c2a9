-- Two answers that a promise allows are equal, with the memory lent: one theorem for each function of C, by the library's theorem of the same promise.
use Prim.Native.Nat.{ℕ}
use mathlib.Core.Path.{◌≡◌, sym, ap, ◌∙◌}
use mathlib.Core.List.{List}
use Rattle.paper.proofs.Determined.{writes_determined}
use Rattle.wire.proofs.Determined.{descriptor_read_determined, info_read_determined, health_read_determined, sample_read_determined, words_read_determined}
use Rattle.session.proofs.Determined.{new_determined, send_determined, reply_ended_determined}
use Rattle.device.proofs.Determined.{
  collector_new_determined,
  byte_determined,
  model_new_determined,
  request_determined,
  fault_determined,
  motor_determined,
  error_determined,
  setting_determined,
}
use Rattle.stream.proofs.Determined.{made_determined, tells_determined, reads_determined}
use Rattle.turn.proofs.Determined.{fresh_determined, gathers_determined}
use Rattle.record.proofs.Determined.{check_determined, number_determined, count_determined, cell_determined}
use Rattle.ring.proofs.Determined.{
  held_determined,
  store_determined,
  add_determined,
  turn_determined,
  start_determined,
  refusal_determined,
  all_read_determined,
  erase_determined,
}
use Rattle.listing.proofs.Determined.{list_determined}
use Rattle.host.proofs.Determined as host
use Rattle.bernkessel.specs.Forms.{Form}
use Rattle.bernkessel.specs.Promises.{
  RequestWritten,
  DescriptorWritten,
  DescriptorReads,
  InfoWritten,
  InfoReads,
  HealthWritten,
  HealthReads,
  SampleWritten,
  SampleRowWritten,
  SampleReads,
  SampleRowReads,
  SessionBegun,
  SessionSends,
  SessionEnded,
  CollectorFresh,
  CollectorTakes,
  ModelFresh,
  ModelAsks,
  ModelSends,
  ModelFaults,
  ModelMotor,
  ModelError,
  ModelStatus,
  ModelHealth,
  ReaderMade,
  ReaderTells,
  ReaderReads,
  GathererFresh,
  SampleGathered,
  RowIsGathered,
  RecordWritten,
  RecordChecked,
  RecordNumber,
  RecordCount,
  RecordCell,
  RecordSerial,
  RingHeld,
  RingStored,
  RingAdded,
  RingTurn,
  RingReads,
  RingErased,
  RingListed,
  HostMade,
  HostSends,
  HostReads,
  HostGathers,
  HostNumber,
}
use Rattle.bernkessel.specs.declared.answer.BkWritten.{BkWritten}
use Rattle.bernkessel.specs.declared.codec.BkDescriptor.{BkDescriptor}
use Rattle.bernkessel.specs.declared.codec.BkDescriptorAnswer.{BkDescriptorAnswer}
use Rattle.bernkessel.specs.declared.codec.BkSampleAnswer.{BkSampleAnswer}
use Rattle.bernkessel.specs.declared.replies.BkInfo.{BkInfo}
use Rattle.bernkessel.specs.declared.replies.BkInfoAnswer.{BkInfoAnswer}
use Rattle.bernkessel.specs.declared.replies.BkHealth.{BkHealth}
use Rattle.bernkessel.specs.declared.replies.BkHealthAnswer.{BkHealthAnswer}
use Rattle.bernkessel.specs.declared.sessions.BkSession.{BkSession}
use Rattle.bernkessel.specs.declared.sessions.BkSent.{BkSent}
use Rattle.bernkessel.specs.declared.collector.BkCollector.{BkCollector}
use Rattle.bernkessel.specs.declared.collector.BkCollected.{BkCollected}
use Rattle.bernkessel.specs.declared.model.BkModel.{BkModel}
use Rattle.bernkessel.specs.declared.model.BkAsked.{BkAsked}
use Rattle.bernkessel.specs.declared.model.BkHealthSet.{BkHealthSet}
use Rattle.bernkessel.specs.declared.reader.BkReader.{BkReader}
use Rattle.bernkessel.specs.declared.reader.BkTold.{BkTold}
use Rattle.bernkessel.specs.declared.reader.BkReading.{BkReading}
use Rattle.bernkessel.specs.declared.sample.BkSample.{BkSample}
use Rattle.bernkessel.specs.declared.turns.BkGatherer.{BkGatherer}
use Rattle.bernkessel.specs.declared.turns.BkGathered.{BkGathered}
use Rattle.bernkessel.specs.declared.turns.BkRowGathered.{BkRowGathered}
use Rattle.bernkessel.specs.declared.records.BkNumber.{BkNumber}
use Rattle.bernkessel.specs.declared.records.BkCount.{BkCount}
use Rattle.bernkessel.specs.declared.records.BkCell.{BkCell}
use Rattle.bernkessel.specs.declared.rings.BkHeld.{BkHeld}
use Rattle.bernkessel.specs.declared.rings.BkPart.{BkPart}
use Rattle.bernkessel.specs.declared.hosts.BkHost.{BkHost}
use Rattle.bernkessel.specs.declared.hosts.BkHostSent.{BkHostSent}
use Rattle.bernkessel.specs.declared.hosts.BkHeard.{BkHeard}
use Rattle.bernkessel.specs.declared.hosts.BkTurned.{BkTurned}

-- two forms of one answer are equal
form_one : {A B : Type 0} {P Q : A → Type 0} {out : A → B} {r s : B} (p : Form P out r) (q : Form Q out s) → p.answer ≡ q.answer → r ≡ s
form_one {out = out} p q e = p.handed ∙ ap out e ∙ sym q.handed

-- the same, with what is known of the memory lent
form_with : {A B X : Type 0} {P Q : A → Type 0} {out : A → B} {r s : B} (p : Form P out r) (q : Form Q out s) → (p.answer ≡ q.answer) × X → (r ≡ s) × X
form_with p q d = (form_one p q d.0, d.1)

-- ---- codecs

pub request_write_determined : (code : ℕ) (payload : List ℕ) {was is js : List ℕ} {r s : BkWritten}
    → RequestWritten code payload was r is → RequestWritten code payload was s js → (r ≡ s) × (is ≡ js)
request_write_determined code payload p q = form_with p q (writes_determined p.kept q.kept)

pub descriptor_write_determined : (x : BkDescriptor) {was is js : List ℕ} {r s : BkWritten}
    → DescriptorWritten x was r is → DescriptorWritten x was s js → (r ≡ s) × (is ≡ js)
descriptor_write_determined x p q = form_with p q (writes_determined p.kept q.kept)

pub descriptor_reads_determined : {xs : List ℕ} {r s : BkDescriptorAnswer} → DescriptorReads xs r → DescriptorReads xs s → r ≡ s
descriptor_reads_determined p q = form_one p q (descriptor_read_determined p.kept q.kept)

pub info_write_determined : (x : BkInfo) {was is js : List ℕ} {r s : BkWritten} → InfoWritten x was r is → InfoWritten x was s js → (r ≡ s) × (is ≡ js)
info_write_determined x p q = form_with p q (writes_determined p.kept q.kept)

pub info_reads_determined : {xs : List ℕ} {r s : BkInfoAnswer} → InfoReads xs r → InfoReads xs s → r ≡ s
info_reads_determined p q = form_one p q (info_read_determined p.kept q.kept)

pub health_write_determined : (x : BkHealth) {was is js : List ℕ} {r s : BkWritten} → HealthWritten x was r is → HealthWritten x was s js → (r ≡ s) × (is ≡ js)
health_write_determined x p q = form_with p q (writes_determined p.kept q.kept)

pub health_reads_determined : {xs : List ℕ} {r s : BkHealthAnswer} → HealthReads xs r → HealthReads xs s → r ≡ s
health_reads_determined p q = form_one p q (health_read_determined p.kept q.kept)

pub sample_write_determined : (m : BkSample) {was is js : List ℕ} {r s : BkWritten} → SampleWritten m was r is → SampleWritten m was s js → (r ≡ s) × (is ≡ js)
sample_write_determined m p q = form_with p q (writes_determined p.kept q.kept)

pub sample_words_determined : (m : BkSample) {was is js : List ℕ} {r s : BkWritten} → SampleRowWritten m was r is → SampleRowWritten m was s js → (r ≡ s) × (is ≡ js)
sample_words_determined m p q = form_with p q (writes_determined p.kept q.kept)

-- `bk_sample_read`, `bk_sample_front`
pub sample_reads_determined : {xs : List ℕ} {r s : BkSampleAnswer} → SampleReads xs r → SampleReads xs s → r ≡ s
sample_reads_determined p q = form_one p q (sample_read_determined p.kept q.kept)

pub sample_row_determined : {ws : List ℕ} {r s : BkSampleAnswer} → SampleRowReads ws r → SampleRowReads ws s → r ≡ s
sample_row_determined p q = form_one p q (words_read_determined p.kept q.kept)

-- ---- the session

pub session_new_determined : {r s : BkSession} → SessionBegun r → SessionBegun s → r ≡ s
session_new_determined p q = form_one p q (new_determined p.kept q.kept)

pub session_send_determined : (x : BkSession) {time code : ℕ} {payload was is js : List ℕ} {r s : BkSent}
    → SessionSends x time code payload was r is → SessionSends x time code payload was s js → (r ≡ s) × (is ≡ js)
session_send_determined x p q = form_with p q (send_determined p.kept q.kept)

pub session_ended_determined : (x : BkSession) {r s : BkSession} → SessionEnded x r → SessionEnded x s → r ≡ s
session_ended_determined x p q = form_one p q (reply_ended_determined p.kept q.kept)

-- ---- the bench's side

pub collector_fresh_determined : {r s : BkCollector} → CollectorFresh r → CollectorFresh s → r ≡ s
collector_fresh_determined p q = form_one p q (collector_new_determined p.kept q.kept)

pub collector_byte_determined : (x : BkCollector) {time b : ℕ} {was is js : List ℕ} {r s : BkCollected}
    → CollectorTakes x time b was r is → CollectorTakes x time b was s js → (r ≡ s) × (is ≡ js)
collector_byte_determined x p q = form_with p q (byte_determined p.kept q.kept)

pub model_fresh_determined : (i : BkInfo) {r s : BkModel} → ModelFresh i r → ModelFresh i s → r ≡ s
model_fresh_determined i p q = form_one p q (model_new_determined p.kept q.kept)

pub model_request_determined : (m : BkModel) {code : ℕ} {was is js : List ℕ} {r s : BkAsked} → ModelAsks m code was r is → ModelAsks m code was s js → (r ≡ s) × (is ≡ js)
model_request_determined m p q = form_with p q (request_determined p.kept q.kept)

pub model_sample_determined : (m : BkModel) (x : BkSample) {was is js : List ℕ} {r s : BkWritten} → ModelSends m x was r is → ModelSends m x was s js → (r ≡ s) × (is ≡ js)
model_sample_determined m x p q = form_with p q (writes_determined p.kept q.kept)

pub model_fault_determined : (m : BkModel) {r s : BkModel} → ModelFaults m r → ModelFaults m s → r ≡ s
model_fault_determined m p q = form_one p q (fault_determined p.kept q.kept)

pub model_motor_determined : (m : BkModel) (stable : ℕ) {r s : BkModel} → ModelMotor m stable r → ModelMotor m stable s → r ≡ s
model_motor_determined m stable p q = form_one p q (motor_determined p.kept q.kept)

pub model_error_determined : (m : BkModel) {error : ℕ} {r s : BkModel} → ModelError m error r → ModelError m error s → r ≡ s
model_error_determined m p q = form_one p q (error_determined p.kept q.kept)

pub model_status_determined : (m : BkModel) {status : ℕ} {r s : BkHealthSet} → ModelStatus m status r → ModelStatus m status s → r ≡ s
model_status_determined m p q = form_one p q (setting_determined p.kept q.kept)

pub model_health_determined : (m : BkModel) {status error : ℕ} {r s : BkHealthSet} → ModelHealth m status error r → ModelHealth m status error s → r ≡ s
model_health_determined m p q = form_one p q (setting_determined p.kept q.kept)

-- ---- the reader

pub reader_new_determined : {r s : BkReader} → ReaderMade r → ReaderMade s → r ≡ s
reader_new_determined p q = form_one p q (made_determined p.kept q.kept)

pub reader_tell_determined : (reader : BkReader) {code : ℕ} {r s : BkTold} → ReaderTells reader code r → ReaderTells reader code s → r ≡ s
reader_tell_determined reader p q = form_one p q (tells_determined p.kept q.kept)

pub reader_read_determined : (reader : BkReader) {input was is js : List ℕ} {r s : BkReading}
    → ReaderReads reader input was r is → ReaderReads reader input was s js → (r ≡ s) × (is ≡ js)
reader_read_determined reader p q = form_with p q (reads_determined p.kept q.kept)

-- ---- turns

-- `bk_gatherer_new`, `bk_gatherer_request`
pub gatherer_fresh_determined : {r s : BkGatherer} → GathererFresh r → GathererFresh s → r ≡ s
gatherer_fresh_determined p q = form_one p q (fresh_determined p.kept q.kept)

pub gatherer_sample_determined : (g : BkGatherer) (m : BkSample) {f c f₁ f₂ c₁ c₂ : List ℕ} {r s : BkGathered}
    → SampleGathered g m f c r f₁ c₁ → SampleGathered g m f c s f₂ c₂ → (r ≡ s) × (f₁ ≡ f₂) × (c₁ ≡ c₂)
gatherer_sample_determined g m p q = let d = gathers_determined p.kept q.kept in (form_one p q d.0, d.1, d.2)

pub gatherer_row_determined : (g : BkGatherer) (ws : List ℕ) {f c f₁ f₂ c₁ c₂ : List ℕ} {r s : BkRowGathered}
    → RowIsGathered g ws f c r f₁ c₁ → RowIsGathered g ws f c s f₂ c₂ → (r ≡ s) × (f₁ ≡ f₂) × (c₁ ≡ c₂)
gatherer_row_determined g ws p q = let d = gathers_determined p.kept q.kept in (form_one p q d.0, d.1, d.2)

-- ---- records

pub record_write_determined : (number count : ℕ) (serial cells : List ℕ) {was is js : List ℕ} {r s : BkWritten}
    → RecordWritten number count serial cells was r is → RecordWritten number count serial cells was s js → (r ≡ s) × (is ≡ js)
record_write_determined number count serial cells p q = form_with p q (writes_determined p.kept q.kept)

pub record_check_determined : {rec : List ℕ} {r s : ℕ} → RecordChecked rec r → RecordChecked rec s → r ≡ s
record_check_determined p q = form_one p q (check_determined p.kept q.kept)

pub record_number_determined : {rec : List ℕ} {r s : BkNumber} → RecordNumber rec r → RecordNumber rec s → r ≡ s
record_number_determined p q = form_one p q (number_determined p.kept q.kept)

pub record_count_determined : {rec : List ℕ} {r s : BkCount} → RecordCount rec r → RecordCount rec s → r ≡ s
record_count_determined p q = form_one p q (count_determined p.kept q.kept)

pub record_cell_determined : {rec : List ℕ} {c : ℕ} {r s : BkCell} → RecordCell rec c r → RecordCell rec c s → r ≡ s
record_cell_determined p q = form_one p q (cell_determined p.kept q.kept)

pub record_serial_determined : (rec : List ℕ) {was is js : List ℕ} {r s : BkWritten} → RecordSerial rec was r is → RecordSerial rec was s js → (r ≡ s) × (is ≡ js)
record_serial_determined rec p q = form_with p q (writes_determined p.kept q.kept)

-- ---- the ring and its text

pub ring_held_determined : {mem : List ℕ} {r s : BkHeld} → RingHeld mem r → RingHeld mem s → r ≡ s
ring_held_determined p q = form_one p q (held_determined p.kept q.kept)

pub ring_store_determined : {was rec is js : List ℕ} {k r s : ℕ} → RingStored was rec k r is → RingStored was rec k s js → (r ≡ s) × (is ≡ js)
ring_store_determined p q = form_with p q (store_determined p.kept q.kept)

pub ring_add_determined : {was rec is js : List ℕ} {r s : ℕ} → RingAdded was rec r is → RingAdded was rec s js → (r ≡ s) × (is ≡ js)
ring_add_determined p q = form_with p q (add_determined p.kept q.kept)

same_part : (r s : BkPart) → r.offset ≡ s.offset → r.length ≡ s.length → r.refusal ≡ s.refusal → r ≡ s
same_part r s a b c =
    ap (λ (x : ℕ). record { offset = x; length = r.length; refusal = r.refusal }) a
    ∙ ap (λ (x : ℕ). record { offset = s.offset; length = x; refusal = r.refusal }) b
    ∙ ap (λ (x : ℕ). record { offset = s.offset; length = s.length; refusal = x }) c

pub ring_turn_determined : {mem : List ℕ} {i : ℕ} {r s : BkPart} → RingTurn mem i r → RingTurn mem i s → r ≡ s
ring_turn_determined {r = r} {s = s} p q =
    same_part r s (form_one p.offset q.offset (start_determined p.offset.kept q.offset.kept)) (form_one p.size q.size (turn_determined p.size.kept q.size.kept))
    (form_one p.refusal q.refusal (refusal_determined p.refusal.kept q.refusal.kept))

pub ring_all_read_determined : {mem : List ℕ} {r s : ℕ} → RingReads mem r → RingReads mem s → r ≡ s
ring_all_read_determined p q = form_one p q (all_read_determined p.kept q.kept)

pub ring_erase_determined : {was is js : List ℕ} {r s : ℕ} → RingErased was r is → RingErased was s js → (r ≡ s) × (is ≡ js)
ring_erase_determined p q = form_with p q (erase_determined p.kept q.kept)

pub ring_list_determined : {mem was is js : List ℕ} {r s : BkWritten} → RingListed mem was r is → RingListed mem was s js → (r ≡ s) × (is ≡ js)
ring_list_determined p q = form_with p q (list_determined p.kept q.kept)

-- ---- the recorder's core

pub host_new_determined : {r s : BkHost} → HostMade r → HostMade s → r ≡ s
host_new_determined p q = form_one p q (host.made_determined p.kept q.kept)

pub host_send_determined : (h : BkHost) {time code : ℕ} {payload was is js : List ℕ} {r s : BkHostSent}
    → HostSends h time code payload was r is → HostSends h time code payload was s js → (r ≡ s) × (is ≡ js)
host_send_determined h p q = form_with p q (host.asks_determined p.kept q.kept)

pub host_read_determined : (h : BkHost) {input was is js : List ℕ} {r s : BkHeard} → HostReads h input was r is → HostReads h input was s js → (r ≡ s) × (is ≡ js)
host_read_determined h p q = form_with p q (host.hears_determined p.kept q.kept)

pub host_gather_determined : (h : BkHost) {row : List ℕ} {number : ℕ} {f c rec f₁ c₁ rec₁ f₂ c₂ rec₂ : List ℕ} {r s : BkTurned}
    → HostGathers h row number f c rec r f₁ c₁ rec₁ → HostGathers h row number f c rec s f₂ c₂ rec₂ → (r ≡ s) × (f₁ ≡ f₂) × (c₁ ≡ c₂) × (rec₁ ≡ rec₂)
host_gather_determined h p q = let d = host.turns_determined p.kept q.kept in (form_one p q d.0, d.1, d.2, d.3)

pub host_number_determined : {mem : List ℕ} {r s : BkNumber} → HostNumber mem r → HostNumber mem s → r ≡ s
host_number_determined p q = form_one p q (host.number_determined p.kept q.kept)
