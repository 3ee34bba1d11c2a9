-- Bytes fed to a collector one after another: the k-th byte comes at time t k.
use Rattle.std.specs.Prelude.{ℕ, suc, ◌-◌, ◌≡◌, List, [], ◌∷◌, ◌++◌, length, replicate, Option, Some, None}
use Rattle.paper.specs.Outcome.{Outcome, gives}
use Rattle.paper.specs.Writing.{over}
use Rattle.wire.specs.Request.{request_of}
use Rattle.device.specs.Collector.{answered, answer_to, collector_after, memory_after}
use Rattle.device.specs.declared.collector.Stage.TheVariants.{Empty}
use Rattle.device.specs.declared.collector.Collector.{Collector}
use Rattle.device.specs.declared.collector.Packet.{Packet}

-- an answer for each byte, and the collector and the memory behind the last one
pub record Fed : Type 0 where
  pub answers : List (Outcome (Option Packet))
  pub collector : Collector
  pub memory : List ℕ

-- an answer, and then what the further bytes lead to
unfoldable pub onward : Outcome (Option Packet) → Fed → Fed
onward a rest = record { answers = a ∷ rest.answers; collector = rest.collector; memory = rest.memory }

unfoldable pub feeding : Collector → List ℕ → (ℕ → ℕ) → List ℕ → Fed
feeding s mem t [] = record { answers = []; collector = s; memory = mem }
feeding s mem t (b ∷ bs) =
    onward (answer_to s mem (t 0) b) (feeding (collector_after s mem (t 0) b) (memory_after s mem (t 0) b) (λ k. t (suc k)) bs)

-- a whole request: nothing is complete before its last byte, and then its packet is, with the payload at the front of the memory
unfoldable pub collected_whole : ℕ → List ℕ → List ℕ → List ℕ → (ℕ → ℕ) → Fed
collected_whole code payload request mem t = record {
  answers = replicate (length request - 1) (gives None) ++ gives (Some (answered code (length payload))) ∷ [];
  collector = record { stage = Empty; begun = 0; last = t (length request - 1) };
  memory = over mem payload;
}

-- The bytes fed end with those of the request that a code and a payload write.
pub record EndsWith (fed : List ℕ) (code : ℕ) (payload : List ℕ) : Type 0 where
  pub before : List ℕ
  pub request : List ℕ
  pub split : fed ≡ before ++ request
  pub writes : request_of code payload ≡ gives request
