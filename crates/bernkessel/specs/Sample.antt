-- The C form of a sample.
use Rattle.wire.specs.declared.sample.Sample.{Sample}
use Rattle.bernkessel.specs.Answers.{flag_in, flag_out}
use Rattle.bernkessel.specs.declared.sample.BkSample.{BkSample}

unfoldable pub sample_in : BkSample → Sample
sample_in c = record { start = flag_in c.start; quality = c.quality; angle = record { 0 = c.angle.q6 }; distance = record { 0 = c.distance.q2 } }

unfoldable pub sample_out : Sample → BkSample
sample_out m = record { start = flag_out m.start; quality = m.quality; angle = record { q6 = m.angle.0 }; distance = record { q2 = m.distance.0 } }

-- what stands beside a refusal
unfoldable pub none : BkSample
none = record { start = 0; quality = 0; angle = record { q6 = 0 }; distance = record { q2 = 0 } }
