-- Two answers that a promise allows are equal: one theorem for each public function of the crate.
use Prim.Native.Nat.{ℕ}
use mathlib.Core.Path.{◌≡◌, sym, ◌∙◌}
use mathlib.Core.List.{List}
use Rattle.paper.specs.Writing.{Writes}
use Rattle.std.specs.Prelude.{Result}
use Rattle.paper.specs.declared.refusal.Refusal.{Refusal}
use Rattle.paper.proofs.Refusals.{outcome_one}
use Rattle.paper.proofs.Determined.{writes_determined}
use Rattle.wire.specs.Request.{request_of}
use Rattle.wire.specs.Descriptor.{bytes_of_descriptor}
use Rattle.wire.specs.Reply.{bytes_of_info, bytes_of_health}
use Rattle.wire.specs.Sample.{bytes_of_sample, words_of_sample}
use Rattle.wire.specs.Promises.{Constructed, KindGiven, DescriptorIsRead, InfoIsRead, HealthIsRead, SampleIsRead, WordsAreRead}
use Rattle.wire.specs.declared.request.Request.{Request}
use Rattle.wire.specs.declared.request.Kind.{Kind}
use Rattle.wire.specs.declared.descriptor.Descriptor.{Descriptor}
use Rattle.wire.specs.declared.reply.Info.{Info}
use Rattle.wire.specs.declared.reply.Health.{Health}
use Rattle.wire.specs.declared.sample.Sample.{Sample}

-- `Request::stop`, `reset`, `scan`, `force_scan`, `get_info`, `get_health`
pub constructed_determined : {code : ℕ} {r s : Request} → Constructed code r → Constructed code s → r ≡ s
constructed_determined p q = p.answer ∙ sym q.answer

pub kind_determined : {request : Request} {r s : Kind} → KindGiven request r → KindGiven request s → r ≡ s
kind_determined p q = p.answer ∙ sym q.answer

pub request_write_determined : (code : ℕ) (payload : List ℕ) {was is js : List ℕ} {r s : Result ℕ Refusal}
    → Writes (request_of code payload) was r is → Writes (request_of code payload) was s js → (r ≡ s) × (is ≡ js)
request_write_determined code payload p q = writes_determined p q

pub descriptor_read_determined : {xs : List ℕ} {r s : Result Descriptor Refusal} → DescriptorIsRead xs r → DescriptorIsRead xs s → r ≡ s
descriptor_read_determined {r = r} {s = s} p q = outcome_one r s (p.answer ∙ sym q.answer)

pub descriptor_write_determined : (d : Descriptor) {was is js : List ℕ} {r s : Result ℕ Refusal}
    → Writes (bytes_of_descriptor d) was r is → Writes (bytes_of_descriptor d) was s js → (r ≡ s) × (is ≡ js)
descriptor_write_determined d p q = writes_determined p q

pub info_read_determined : {xs : List ℕ} {r s : Result Info Refusal} → InfoIsRead xs r → InfoIsRead xs s → r ≡ s
info_read_determined {r = r} {s = s} p q = outcome_one r s (p.answer ∙ sym q.answer)

pub info_write_determined : (i : Info) {was is js : List ℕ} {r s : Result ℕ Refusal}
    → Writes (bytes_of_info i) was r is → Writes (bytes_of_info i) was s js → (r ≡ s) × (is ≡ js)
info_write_determined i p q = writes_determined p q

pub health_read_determined : {xs : List ℕ} {r s : Result Health Refusal} → HealthIsRead xs r → HealthIsRead xs s → r ≡ s
health_read_determined {r = r} {s = s} p q = outcome_one r s (p.answer ∙ sym q.answer)

pub health_write_determined : (h : Health) {was is js : List ℕ} {r s : Result ℕ Refusal}
    → Writes (bytes_of_health h) was r is → Writes (bytes_of_health h) was s js → (r ≡ s) × (is ≡ js)
health_write_determined h p q = writes_determined p q

-- `Sample::read`, `Sample::front`
pub sample_read_determined : {xs : List ℕ} {r s : Result Sample Refusal} → SampleIsRead xs r → SampleIsRead xs s → r ≡ s
sample_read_determined {r = r} {s = s} p q = outcome_one r s (p.answer ∙ sym q.answer)

pub words_read_determined : {ws : List ℕ} {r s : Result Sample Refusal} → WordsAreRead ws r → WordsAreRead ws s → r ≡ s
words_read_determined {r = r} {s = s} p q = outcome_one r s (p.answer ∙ sym q.answer)

pub sample_write_determined : (m : Sample) {was is js : List ℕ} {r s : Result ℕ Refusal}
    → Writes (bytes_of_sample m) was r is → Writes (bytes_of_sample m) was s js → (r ≡ s) × (is ≡ js)
sample_write_determined m p q = writes_determined p q

pub words_write_determined : (m : Sample) {was is js : List ℕ} {r s : Result ℕ Refusal}
    → Writes (words_of_sample m) was r is → Writes (words_of_sample m) was s js → (r ≡ s) × (is ≡ js)
words_write_determined m p q = writes_determined p q
