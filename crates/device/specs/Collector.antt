-- Collecting requests: the bytes of a packet so far, and what the next byte makes of them.
use Rattle.std.specs.Prelude.{ℕ, ◌+◌, ◌-◌, Bool, false, cond, not, ◌&&◌, ◌||◌, List, [], ◌∷◌, ◌++◌, ltb, eqb, length, get_or, take, drop, Option, Some, None, Result, Ok, Err}
use Rattle.std.specs.Int.Bits.{bit_xor}
use Rattle.paper.specs.Outcome.{Outcome, gives, refuse_if, if_given, mapped}
use Rattle.paper.specs.Refusals.{number_of}
use Rattle.paper.specs.Writing.{over}
use Rattle.paper.specs.declared.refusal.Refusal.{Refusal}
use Rattle.paper.specs.declared.refusal.Refusal.TheVariants.{TimeEarlier}
use Rattle.wire.specs.Request.{start_byte, packet_time}
use Rattle.device.specs.declared.collector.Stage.{Stage}
use Rattle.device.specs.declared.collector.Stage.TheVariants.{Empty, Started, Coded, Sized}
use Rattle.device.specs.declared.collector.Collector.{Collector}
use Rattle.device.specs.declared.collector.Packet.{Packet}
use Rattle.device.specs.declared.collector.Collected.{Collected}

-- A packet so far: its bytes (none where no packet is begun), their exclusive or, and when its A5 came.
pub record Part : Type 0 where
  pub bytes : List ℕ
  pub sum : ℕ
  pub begun : ℕ

-- no packet is begun
unfoldable pub empty : Part
empty = record { bytes = []; sum = 0; begun = 0 }

-- an A5 is there, since a time
unfoldable pub started : ℕ → Part
started time = record { bytes = start_byte ∷ []; sum = start_byte; begun = time }

-- bytes before an A5 are skipped
unfoldable pub begin : ℕ → ℕ → Part
begin time b = cond (eqb b start_byte) (started time) empty

-- a byte that comes more than 5,000 ms after the packet's A5; at exactly 5,000 it still belongs
unfoldable pub late : Part → ℕ → Bool
late p time = ltb packet_time (time - p.begun)

-- two bytes are a packet for a code below 0x80; from 0x80 on there are a size, the payload and a checksum
unfoldable pub whole : List ℕ → Bool
whole [] = false
whole (a ∷ []) = false
whole (a ∷ code ∷ []) = ltb code 0x80
whole (a ∷ code ∷ size ∷ rest) = eqb (length rest) (size + 1)

-- the checksum is the exclusive or of all bytes before it; a packet of two bytes has none
unfoldable pub wrong : Part → ℕ → Bool
wrong p b = ltb 1 (length p.bytes) && not (eqb b p.sum)

-- What a byte leads to: a packet so far, or a whole packet's code and payload.
pub data Taken : Type 0 where
  goes : Part → Taken
  packet : ℕ → List ℕ → Taken

-- a byte that belongs to the packet begun; a wrong checksum discards the whole packet
unfoldable pub joining : Part → ℕ → Taken
joining p b =
    cond (whole (p.bytes ++ b ∷ []))
    (cond (wrong p b) (goes empty) (packet (get_or (p.bytes ++ b ∷ []) 1 0) (drop 3 p.bytes)))
    (goes (record { bytes = p.bytes ++ b ∷ []; sum = bit_xor p.sum b; begun = p.begun }))

-- a late byte discards the packet begun, and is then looked at as a possible start
unfoldable pub taking : Part → ℕ → ℕ → Taken
taking p time b = cond (eqb (length p.bytes) 0 || late p time) (goes (begin time b)) (joining p b)

-- what a collector and its memory hold of a packet
unfoldable pub part_of : Stage → ℕ → List ℕ → Part
part_of Empty time mem = record { bytes = []; sum = 0; begun = time }
part_of Started time mem = started time
part_of (Coded code) time mem = record { bytes = start_byte ∷ code ∷ []; sum = bit_xor start_byte code; begun = time }
part_of (Sized code size count sum) time mem = record { bytes = start_byte ∷ code ∷ size ∷ take count (take size mem); sum = sum; begun = time }

-- how a packet so far is held
unfoldable pub stage_of : List ℕ → ℕ → Stage
stage_of [] sum = Empty
stage_of (a ∷ []) sum = Started
stage_of (a ∷ code ∷ []) sum = Coded code
stage_of (a ∷ code ∷ size ∷ rest) sum = Sized code size (length rest) sum

-- a byte with its time: an earlier time than that of the last byte accepted is refused
unfoldable pub collecting : Collector → List ℕ → ℕ → ℕ → Outcome Taken
collecting s mem time b = refuse_if (ltb time s.last) (number_of TimeEarlier) (gives (taking (part_of s.stage s.begun mem) time b))

-- the collector behind a byte that was taken
unfoldable pub behind : ℕ → Taken → Collector
behind time (goes p) = record { stage = stage_of p.bytes p.sum; begun = p.begun; last = time }
behind time (packet code payload) = record { stage = Empty; begun = 0; last = time }

-- the payload so far, which stands at the front of the lent memory
unfoldable pub payload_in : Taken → List ℕ
payload_in (goes p) = drop 3 p.bytes
payload_in (packet code payload) = payload

-- a packet as it is answered: its code and the size of its payload
unfoldable pub answered : ℕ → ℕ → Packet
answered code size = record { request = record { 0 = code }; size = size }

-- a whole packet is answered
unfoldable pub told : Taken → Option Packet
told (goes p) = None
told (packet code payload) = Some (answered code (length payload))

-- what a byte that was taken comes to
unfoldable pub collected : ℕ → Taken → Collected
collected time t = record { collector = behind time t; packet = told t }

-- the three things that a byte leads to: an answer, the collector and the memory; where it is refused, both are as they were
unfoldable pub answer_to : Collector → List ℕ → ℕ → ℕ → Outcome (Option Packet)
answer_to s mem time b = mapped told (collecting s mem time b)

unfoldable pub collector_after : Collector → List ℕ → ℕ → ℕ → Collector
collector_after s mem time b = if_given (collecting s mem time b) (behind time) s

unfoldable pub memory_after : Collector → List ℕ → ℕ → ℕ → List ℕ
memory_after s mem time b = if_given (collecting s mem time b) (λ x. over mem (payload_in x)) mem

-- the collector behind a call: the answer's, and the very one where the byte is refused
unfoldable pub after : Collector → Result Collected Refusal → Collector
after s (Ok r) = r.collector
after s (Err q) = s
