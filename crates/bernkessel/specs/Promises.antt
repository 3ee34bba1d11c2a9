-- What each function of C promises: the C form of an answer that the library's promise allows, and lent memory as that promise has it.
use Rattle.std.specs.Prelude.{ℕ, List, length}
use Rattle.std.specs.Result.{result_unwrap_or}
use Rattle.paper.specs.Outcome.{mapped}
use Rattle.paper.specs.Writing.{Writes}
use Rattle.wire.specs.Request.{request_of}
use Rattle.wire.specs.Descriptor.{bytes_of_descriptor}
use Rattle.wire.specs.Reply.{bytes_of_info, bytes_of_health}
use Rattle.wire.specs.Sample.{bytes_of_sample, words_of_sample}
use Rattle.wire.specs.Promises.{DescriptorIsRead, InfoIsRead, HealthIsRead, SampleIsRead, WordsAreRead}
use Rattle.session.specs.Promises.{Begun, RequestSent, ReplyEnded}
use Rattle.device.specs.Model.{sample_sent}
use Rattle.device.specs.Promises.{FreshCollector, ByteCollected, FreshModel, Asking, InAnother, MotorSet, ErrorSet, HealthSetting}
use Rattle.device.specs.declared.model.State.TheVariants.{ProtectionStop}
use Rattle.stream.specs.Promises.{Made, Tells, Reads}
use Rattle.turn.specs.Gather.{one_of, row_of, told_by, row_told_by}
use Rattle.turn.specs.Promises.{Fresh, Gathers}
use Rattle.record.specs.Record.{Turn, record_of, turn_of}
use Rattle.record.specs.Promises.{Checked, NumberGiven, CountGiven, CellGiven}
use Rattle.ring.specs.Ring.{slots}
use Rattle.ring.specs.Promises.{HeldGiven, StoreGiven, AddGiven, TurnGiven, TurnStartGiven, TurnRefusalGiven, AllReadGiven, EraseGiven}
use Rattle.listing.specs.Promises.{ListGiven}
use Rattle.host.specs.Promises as host
use Rattle.bernkessel.specs.Forms.{Form}
use Rattle.bernkessel.specs.Answers.{answer_out, written_out, flag_in}
use Rattle.bernkessel.specs.Codec.{descriptor_in, descriptor_out, sample_read_out}
use Rattle.bernkessel.specs.Reply.{info_in, info_read_out, health_in, health_read_out}
use Rattle.bernkessel.specs.Session.{session_in, session_out, sent_out}
use Rattle.bernkessel.specs.Collector.{collector_in, collector_out, collected_out}
use Rattle.bernkessel.specs.Model.{model_in, model_out, asked_out, health_set_out}
use Rattle.bernkessel.specs.Reader.{reader_in, reader_out, told_out, reading_out}
use Rattle.bernkessel.specs.Sample.{sample_in}
use Rattle.bernkessel.specs.Turn.{gatherer_in, gatherer_out, gathered_out, row_out}
use Rattle.bernkessel.specs.Record.{number_out, count_out, cell_out}
use Rattle.bernkessel.specs.Ring.{held_out}
use Rattle.bernkessel.specs.Host.{host_in, host_out, asked_out as host_asked_out, heard_out, turned_out}
use Rattle.bernkessel.specs.declared.answer.BkWritten.{BkWritten}
use Rattle.bernkessel.specs.declared.codec.BkDescriptor.{BkDescriptor}
use Rattle.bernkessel.specs.declared.codec.BkDescriptorAnswer.{BkDescriptorAnswer}
use Rattle.bernkessel.specs.declared.codec.BkSampleAnswer.{BkSampleAnswer}
use Rattle.bernkessel.specs.declared.replies.BkInfo.{BkInfo}
use Rattle.bernkessel.specs.declared.replies.BkInfoAnswer.{BkInfoAnswer}
use Rattle.bernkessel.specs.declared.replies.BkHealth.{BkHealth}
use Rattle.bernkessel.specs.declared.replies.BkHealthAnswer.{BkHealthAnswer}
use Rattle.bernkessel.specs.declared.sessions.BkSession.{BkSession}
use Rattle.bernkessel.specs.declared.sessions.BkSent.{BkSent}
use Rattle.bernkessel.specs.declared.collector.BkCollector.{BkCollector}
use Rattle.bernkessel.specs.declared.collector.BkCollected.{BkCollected}
use Rattle.bernkessel.specs.declared.model.BkModel.{BkModel}
use Rattle.bernkessel.specs.declared.model.BkAsked.{BkAsked}
use Rattle.bernkessel.specs.declared.model.BkHealthSet.{BkHealthSet}
use Rattle.bernkessel.specs.declared.reader.BkReader.{BkReader}
use Rattle.bernkessel.specs.declared.reader.BkTold.{BkTold}
use Rattle.bernkessel.specs.declared.reader.BkReading.{BkReading}
use Rattle.bernkessel.specs.declared.sample.BkSample.{BkSample}
use Rattle.bernkessel.specs.declared.turns.BkGatherer.{BkGatherer}
use Rattle.bernkessel.specs.declared.turns.BkGathered.{BkGathered}
use Rattle.bernkessel.specs.declared.turns.BkRowGathered.{BkRowGathered}
use Rattle.bernkessel.specs.declared.records.BkNumber.{BkNumber}
use Rattle.bernkessel.specs.declared.records.BkCount.{BkCount}
use Rattle.bernkessel.specs.declared.records.BkCell.{BkCell}
use Rattle.bernkessel.specs.declared.rings.BkHeld.{BkHeld}
use Rattle.bernkessel.specs.declared.rings.BkPart.{BkPart}
use Rattle.bernkessel.specs.declared.hosts.BkHost.{BkHost}
use Rattle.bernkessel.specs.declared.hosts.BkHostSent.{BkHostSent}
use Rattle.bernkessel.specs.declared.hosts.BkHeard.{BkHeard}
use Rattle.bernkessel.specs.declared.hosts.BkTurned.{BkTurned}

-- ---- codecs

-- `bk_request_write`
abbrev pub RequestWritten : ℕ → List ℕ → List ℕ → BkWritten → List ℕ → Type 0
RequestWritten code payload was r is = Form (λ a. Writes (request_of code payload) was a is) written_out r

-- `bk_descriptor_write`
abbrev pub DescriptorWritten : BkDescriptor → List ℕ → BkWritten → List ℕ → Type 0
DescriptorWritten d was r is = Form (λ a. Writes (bytes_of_descriptor (descriptor_in d)) was a is) written_out r

-- `bk_descriptor_read`
abbrev pub DescriptorReads : List ℕ → BkDescriptorAnswer → Type 0
DescriptorReads xs r = Form (DescriptorIsRead xs) descriptor_out r

-- `bk_info_write`
abbrev pub InfoWritten : BkInfo → List ℕ → BkWritten → List ℕ → Type 0
InfoWritten i was r is = Form (λ a. Writes (bytes_of_info (info_in i)) was a is) written_out r

-- `bk_info_read`
abbrev pub InfoReads : List ℕ → BkInfoAnswer → Type 0
InfoReads xs r = Form (InfoIsRead xs) info_read_out r

-- `bk_health_write`
abbrev pub HealthWritten : BkHealth → List ℕ → BkWritten → List ℕ → Type 0
HealthWritten h was r is = Form (λ a. Writes (bytes_of_health (health_in h)) was a is) written_out r

-- `bk_health_read`
abbrev pub HealthReads : List ℕ → BkHealthAnswer → Type 0
HealthReads xs r = Form (HealthIsRead xs) health_read_out r

-- `bk_sample_write`
abbrev pub SampleWritten : BkSample → List ℕ → BkWritten → List ℕ → Type 0
SampleWritten m was r is = Form (λ a. Writes (bytes_of_sample (sample_in m)) was a is) written_out r

-- `bk_sample_write_words`
abbrev pub SampleRowWritten : BkSample → List ℕ → BkWritten → List ℕ → Type 0
SampleRowWritten m was r is = Form (λ a. Writes (words_of_sample (sample_in m)) was a is) written_out r

-- `bk_sample_read`, and `bk_sample_front` of the first five bytes
abbrev pub SampleReads : List ℕ → BkSampleAnswer → Type 0
SampleReads xs r = Form (SampleIsRead xs) sample_read_out r

-- `bk_sample_read_words`
abbrev pub SampleRowReads : List ℕ → BkSampleAnswer → Type 0
SampleRowReads ws r = Form (WordsAreRead ws) sample_read_out r

-- ---- the session

-- `bk_session_new`
abbrev pub SessionBegun : BkSession → Type 0
SessionBegun r = Form Begun session_out r

-- `bk_session_send`
abbrev pub SessionSends : BkSession → ℕ → ℕ → List ℕ → List ℕ → BkSent → List ℕ → Type 0
SessionSends s time code payload was r is = Form (λ a. RequestSent (session_in s) time (record { 0 = code }) payload was a is) (sent_out s) r

-- `bk_session_reply_ended`
abbrev pub SessionEnded : BkSession → BkSession → Type 0
SessionEnded s r = Form (ReplyEnded (session_in s)) session_out r

-- ---- the bench's side

-- `bk_collector_new`
abbrev pub CollectorFresh : BkCollector → Type 0
CollectorFresh r = Form FreshCollector collector_out r

-- `bk_collector_byte`
abbrev pub CollectorTakes : BkCollector → ℕ → ℕ → List ℕ → BkCollected → List ℕ → Type 0
CollectorTakes s time b was r is = Form (λ a. ByteCollected (collector_in s) time b was a is) (collected_out s) r

-- `bk_model_new`
abbrev pub ModelFresh : BkInfo → BkModel → Type 0
ModelFresh i r = Form (FreshModel (info_in i)) model_out r

-- `bk_model_request`
abbrev pub ModelAsks : BkModel → ℕ → List ℕ → BkAsked → List ℕ → Type 0
ModelAsks m code was r is = Form (λ a. Asking (model_in m) (record { 0 = code }) was a is) (asked_out m) r

-- `bk_model_sample`
abbrev pub ModelSends : BkModel → BkSample → List ℕ → BkWritten → List ℕ → Type 0
ModelSends m x was r is = Form (λ a. Writes (sample_sent (model_in m) (sample_in x)) was a is) written_out r

-- `bk_model_fault`
abbrev pub ModelFaults : BkModel → BkModel → Type 0
ModelFaults m r = Form (InAnother (model_in m) ProtectionStop) model_out r

-- `bk_model_set_motor`
abbrev pub ModelMotor : BkModel → ℕ → BkModel → Type 0
ModelMotor m stable r = Form (MotorSet (model_in m) (flag_in stable)) model_out r

-- `bk_model_set_error`
abbrev pub ModelError : BkModel → ℕ → BkModel → Type 0
ModelError m error r = Form (ErrorSet (model_in m) error) model_out r

-- `bk_model_set_status`: the error code stays
abbrev pub ModelStatus : BkModel → ℕ → BkHealthSet → Type 0
ModelStatus m status r = Form (HealthSetting (model_in m) status m.error) (health_set_out m) r

-- `bk_model_set_health`
abbrev pub ModelHealth : BkModel → ℕ → ℕ → BkHealthSet → Type 0
ModelHealth m status error r = Form (HealthSetting (model_in m) status error) (health_set_out m) r

-- ---- the reader

-- `bk_reader_new`
abbrev pub ReaderMade : BkReader → Type 0
ReaderMade r = Form Made reader_out r

-- `bk_reader_tell`
abbrev pub ReaderTells : BkReader → ℕ → BkTold → Type 0
ReaderTells s code r = Form (Tells (reader_in s) (record { 0 = code })) (told_out s) r

-- `bk_reader_read`
abbrev pub ReaderReads : BkReader → List ℕ → List ℕ → BkReading → List ℕ → Type 0
ReaderReads s input was r is = Form (λ a. Reads (reader_in s) input was a is) reading_out r

-- ---- turns

-- `bk_gatherer_new`, `bk_gatherer_request`
abbrev pub GathererFresh : BkGatherer → Type 0
GathererFresh r = Form Fresh gatherer_out r

-- `bk_gatherer_sample`
abbrev pub SampleGathered : BkGatherer → BkSample → List ℕ → List ℕ → BkGathered → List ℕ → List ℕ → Type 0
SampleGathered s m f c r f' c' = Form (λ a. Gathers told_by (one_of (sample_in m)) (gatherer_in s) f c a f' c') (gathered_out s) r

-- `bk_gatherer_row`
abbrev pub RowIsGathered : BkGatherer → List ℕ → List ℕ → List ℕ → BkRowGathered → List ℕ → List ℕ → Type 0
RowIsGathered s ws f c r f' c' = Form (λ a. Gathers row_told_by (row_of ws) (gatherer_in s) f c a f' c') (row_out s) r

-- ---- records

-- `bk_record_write`
abbrev pub RecordWritten : ℕ → ℕ → List ℕ → List ℕ → List ℕ → BkWritten → List ℕ → Type 0
RecordWritten number count serial cells was r is =
    Form (λ a. Writes (record_of (record { number = number; count = count; serial = serial; cells = cells })) was a is) written_out r

-- `bk_record_check`
abbrev pub RecordChecked : List ℕ → ℕ → Type 0
RecordChecked rec r = Form (Checked rec) answer_out r

-- `bk_record_number`
abbrev pub RecordNumber : List ℕ → BkNumber → Type 0
RecordNumber rec r = Form (NumberGiven rec) number_out r

-- `bk_record_count`
abbrev pub RecordCount : List ℕ → BkCount → Type 0
RecordCount rec r = Form (CountGiven rec) count_out r

-- `bk_record_cell`
abbrev pub RecordCell : List ℕ → ℕ → BkCell → Type 0
RecordCell rec c r = Form (CellGiven rec c) cell_out r

-- `bk_record_serial`: the serial is written out
abbrev pub RecordSerial : List ℕ → List ℕ → BkWritten → List ℕ → Type 0
RecordSerial rec was r is = Form (λ a. Writes (mapped (λ (t : Turn). t.serial) (turn_of rec)) was a is) written_out r

-- ---- the ring and its text

-- `bk_ring_held`
abbrev pub RingHeld : List ℕ → BkHeld → Type 0
RingHeld mem r = Form (HeldGiven slots mem) held_out r

-- `bk_ring_store`
abbrev pub RingStored : List ℕ → List ℕ → ℕ → ℕ → List ℕ → Type 0
RingStored was rec k r is = Form (λ a. StoreGiven slots was rec k a is) answer_out r

-- `bk_ring_add`
abbrev pub RingAdded : List ℕ → List ℕ → ℕ → List ℕ → Type 0
RingAdded was rec r is = Form (λ a. AddGiven slots was rec a is) answer_out r

-- `bk_ring_turn`: no part can be handed over, so it is told where the part begins and how long it is
pub record RingTurn (mem : List ℕ) (i : ℕ) (r : BkPart) : Type 0 where
  pub offset : Form (TurnStartGiven slots mem i) (λ a. result_unwrap_or a 0) r.offset
  pub size : Form (TurnGiven slots mem i) length r.length
  pub refusal : Form (TurnRefusalGiven slots mem i) answer_out r.refusal

-- `bk_ring_all_read`
abbrev pub RingReads : List ℕ → ℕ → Type 0
RingReads mem r = Form (AllReadGiven slots mem) answer_out r

-- `bk_ring_erase`
abbrev pub RingErased : List ℕ → ℕ → List ℕ → Type 0
RingErased was r is = Form (λ a. EraseGiven slots was a is) answer_out r

-- `bk_ring_list`
abbrev pub RingListed : List ℕ → List ℕ → BkWritten → List ℕ → Type 0
RingListed mem was r is = Form (λ a. ListGiven slots mem was a is) written_out r

-- ---- the recorder's core

-- `bk_host_new`
abbrev pub HostMade : BkHost → Type 0
HostMade r = Form host.Made host_out r

-- `bk_host_send`
abbrev pub HostSends : BkHost → ℕ → ℕ → List ℕ → List ℕ → BkHostSent → List ℕ → Type 0
HostSends h time code payload was r is = Form (λ a. host.Asks (host_in h) time (record { 0 = code }) payload was a is) (host_asked_out h) r

-- `bk_host_read`
abbrev pub HostReads : BkHost → List ℕ → List ℕ → BkHeard → List ℕ → Type 0
HostReads h input was r is = Form (λ a. host.Hears (host_in h) input was a is) heard_out r

-- `bk_host_gather`
abbrev pub HostGathers : BkHost → List ℕ → ℕ → List ℕ → List ℕ → List ℕ → BkTurned → List ℕ → List ℕ → List ℕ → Type 0
HostGathers h row number f c rec r f' c' rec' = Form (λ a. host.Turns (host_in h) row number f c rec a f' c' rec') (turned_out h) r

-- `bk_host_next_number`
abbrev pub HostNumber : List ℕ → BkNumber → Type 0
HostNumber mem r = Form (host.NumberNext slots mem) number_out r
