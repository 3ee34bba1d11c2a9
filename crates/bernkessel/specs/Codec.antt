-- The C form of a descriptor, and of what the readers of descriptors and samples answer: all fields 0 where it is refused.
use Rattle.std.specs.Prelude.{Result, Ok, Err}
use Rattle.paper.specs.Refusals.{number_of}
use Rattle.paper.specs.declared.refusal.Refusal.{Refusal}
use Rattle.wire.specs.declared.descriptor.Descriptor.{Descriptor}
use Rattle.wire.specs.declared.sample.Sample.{Sample}
use Rattle.bernkessel.specs.Sample.{sample_out, none}
use Rattle.bernkessel.specs.declared.codec.BkDescriptor.{BkDescriptor}
use Rattle.bernkessel.specs.declared.codec.BkDescriptorAnswer.{BkDescriptorAnswer}
use Rattle.bernkessel.specs.declared.codec.BkSampleAnswer.{BkSampleAnswer}

unfoldable pub descriptor_in : BkDescriptor → Descriptor
descriptor_in c = record { length = c.length; mode = c.mode; kind = c.kind }

unfoldable pub descriptor_out : Result Descriptor Refusal → BkDescriptorAnswer
descriptor_out (Ok d) = record { descriptor = record { length = d.length; mode = d.mode; kind = d.kind }; refusal = 0 }
descriptor_out (Err q) = record { descriptor = record { length = 0; mode = 0; kind = 0 }; refusal = number_of q }

unfoldable pub sample_read_out : Result Sample Refusal → BkSampleAnswer
sample_read_out (Ok m) = record { sample = sample_out m; refusal = 0 }
sample_read_out (Err q) = record { sample = none; refusal = number_of q }
