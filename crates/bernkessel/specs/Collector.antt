-- The C form of a collector and of what it answers.
use Rattle.std.specs.Prelude.{cond, eqb, Result, Ok, Err, Option, Some, None}
use Rattle.paper.specs.Refusals.{number_of}
use Rattle.paper.specs.declared.refusal.Refusal.{Refusal}
use Rattle.device.specs.declared.collector.Stage.{Stage}
use Rattle.device.specs.declared.collector.Stage.TheVariants.{Empty, Started, Coded, Sized}
use Rattle.device.specs.declared.collector.Collector.{Collector}
use Rattle.device.specs.declared.collector.Packet.{Packet}
use Rattle.device.specs.declared.collector.Collected.{Collected}
use Rattle.bernkessel.specs.declared.collector.BkStage.{BkStage}
use Rattle.bernkessel.specs.declared.collector.BkCollector.{BkCollector}
use Rattle.bernkessel.specs.declared.collector.BkCollected.{BkCollected}

-- a stage by its byte, and what is known of the packet; what is not known yet is 0
unfoldable pub stage_out : Stage → BkStage
stage_out Empty = record { kind = 0; code = 0; size = 0; count = 0; sum = 0 }
stage_out Started = record { kind = 1; code = 0; size = 0; count = 0; sum = 0 }
stage_out (Coded code) = record { kind = 2; code = code; size = 0; count = 0; sum = 0 }
stage_out (Sized code size count sum) = record { kind = 3; code = code; size = size; count = count; sum = sum }

-- and back; any other byte is that of an empty one, and what a stage does not know is not looked at
unfoldable pub stage_in : BkStage → Stage
stage_in c =
    cond (eqb c.kind 1) Started
    (cond (eqb c.kind 2) (Coded c.code)
    (cond (eqb c.kind 3) (Sized c.code c.size c.count c.sum)
    Empty))

unfoldable pub collector_in : BkCollector → Collector
collector_in c = record { stage = stage_in c.stage; begun = c.begun; last = c.last }

unfoldable pub collector_out : Collector → BkCollector
collector_out s = record { stage = stage_out s.stage; begun = s.begun; last = s.last }

-- the collector behind a byte, and the packet that the byte completed
unfoldable pub packet_out : Option Packet → BkCollector → BkCollected
packet_out None c = record { collector = c; complete = 0; code = 0; size = 0; refusal = 0 }
packet_out (Some p) c = record { collector = c; complete = 1; code = p.request.0; size = p.size; refusal = 0 }

-- a refusal gives back the very collector
unfoldable pub collected_out : BkCollector → Result Collected Refusal → BkCollected
collected_out was (Ok r) = packet_out r.packet (collector_out r.collector)
collected_out was (Err q) = record { collector = was; complete = 0; code = 0; size = 0; refusal = number_of q }
