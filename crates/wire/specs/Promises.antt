-- What each public function of the crate promises; a writer's promise is `Writes` of `paper` over the bytes of its definition.
use Rattle.std.specs.Prelude.{ℕ, ◌≡◌, List, Result}
use Rattle.paper.specs.Refusals.{outcome}
use Rattle.paper.specs.declared.refusal.Refusal.{Refusal}
use Rattle.wire.specs.Request.{kind_of}
use Rattle.wire.specs.Descriptor.{descriptor_of}
use Rattle.wire.specs.Reply.{info_of, health_of}
use Rattle.wire.specs.Sample.{sample_of, sample_of_words}
use Rattle.wire.specs.declared.request.Request.{Request}
use Rattle.wire.specs.declared.request.Kind.{Kind}
use Rattle.wire.specs.declared.descriptor.Descriptor.{Descriptor}
use Rattle.wire.specs.declared.reply.Info.{Info}
use Rattle.wire.specs.declared.reply.Health.{Health}
use Rattle.wire.specs.declared.sample.Sample.{Sample}

-- the request type's constructors
pub record Constructed (code : ℕ) (r : Request) : Type 0 where
  pub answer : r ≡ record { 0 = code }

-- `Request::kind`
pub record KindGiven (s : Request) (r : Kind) : Type 0 where
  pub answer : r ≡ kind_of s.0

-- `Descriptor::read`
pub record DescriptorIsRead (xs : List ℕ) (r : Result Descriptor Refusal) : Type 0 where
  pub answer : outcome r ≡ descriptor_of xs

-- `Info::read`
pub record InfoIsRead (xs : List ℕ) (r : Result Info Refusal) : Type 0 where
  pub answer : outcome r ≡ info_of xs

-- `Health::read`
pub record HealthIsRead (xs : List ℕ) (r : Result Health Refusal) : Type 0 where
  pub answer : outcome r ≡ health_of xs

-- `Sample::read`, and `Sample::front` of the first five bytes
pub record SampleIsRead (xs : List ℕ) (r : Result Sample Refusal) : Type 0 where
  pub answer : outcome r ≡ sample_of xs

-- `Sample::read_words`
pub record WordsAreRead (ws : List ℕ) (r : Result Sample Refusal) : Type 0 where
  pub answer : outcome r ≡ sample_of_words ws
