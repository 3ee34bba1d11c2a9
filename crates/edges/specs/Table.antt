-- The edges that the scope paper marks P, as one table about the definitions: what they come to, beside what the paper says of them.
use Rattle.std.specs.Prelude.{ℕ, Bool, true, cond, ◌&&◌, List, [], ◌∷◌, length, replicate}
use Rattle.paper.specs.Outcome.{Outcome, gives, refuses}
use Rattle.wire.specs.Sample.{sample_of}
use Rattle.wire.specs.Reply.{health_of}
use Rattle.wire.specs.Request.{request_of}
use Rattle.wire.specs.declared.sample.Sample.{Sample}
use Rattle.wire.specs.declared.reply.Health.{Health}
use Rattle.stream.specs.Readings.{Scan, scan}
use Rattle.stream.specs.Table.{same}
use Rattle.turn.specs.Cells.{cell_of}
use Rattle.ring.specs.Ring.{slots, head_of, slot_of, store}
use Rattle.ring.specs.Answers.{counting}

-- an outcome as numbers: 1 and the numbers of what is given, or 0 and the number of the refusal
unfoldable pub told : {A : Type 0} → (A → List ℕ) → Outcome A → List ℕ
told f (gives a) = 1 ∷ f a
told f (refuses n) = 0 ∷ n ∷ []

-- S, quality, angle, distance, cell
unfoldable pub of_sample : Sample → List ℕ
of_sample m = cond m.start 1 0 ∷ m.quality ∷ m.angle.0 ∷ m.distance.0 ∷ cell_of m ∷ []

-- status, error code
unfoldable pub of_health : Health → List ℕ
of_health h = h.status ∷ h.error ∷ []

-- how many bytes a scan skips, and how many samples it gives
unfoldable pub of_scan : Scan → List ℕ
of_scan s = s.skipped ∷ length s.samples ∷ []

-- a ring's memory with a head, and zeros in all slots
unfoldable pub ring_at : ℕ → List ℕ
ring_at h = h ∷ replicate 49152 0

-- the head after the last store of adding, and the slot of the oldest turn then
unfoldable pub added : ℕ → List ℕ
added h = head_of (store slots (ring_at h) [] 754) ∷ slot_of slots (head_of (store slots (ring_at h) [] 754)) 0 ∷ []

-- an edge: what the definitions give, and what the paper says
pub record Edge : Type 0 where
  pub given : List ℕ
  pub said : List ℕ

abbrev edge : List ℕ → List ℕ → Edge
edge given said = record { given = given; said = said }

unfoldable pub table : List Edge
table =
    -- 3D 01 2D A0 0F is S = 1, quality 15, angle 5,760, distance 4,000, cell 90
    edge (told of_sample (sample_of (0x3D ∷ 0x01 ∷ 0x2D ∷ 0xA0 ∷ 0x0F ∷ []))) (1 ∷ 1 ∷ 15 ∷ 5760 ∷ 4000 ∷ 90 ∷ [])
    -- 02 FF B3 00 00 passes: angle 23,039, cell 359, invalid distance
    ∷ edge (told of_sample (sample_of (0x02 ∷ 0xFF ∷ 0xB3 ∷ 0x00 ∷ 0x00 ∷ []))) (1 ∷ 0 ∷ 0 ∷ 23039 ∷ 0 ∷ 359 ∷ [])
    -- 02 01 B4 00 00 is refused: angle 23,040
    ∷ edge (told of_sample (sample_of (0x02 ∷ 0x01 ∷ 0xB4 ∷ 0x00 ∷ 0x00 ∷ []))) (0 ∷ 8 ∷ [])
    -- 3D 00 2D A0 0F is refused: C is 0
    ∷ edge (told of_sample (sample_of (0x3D ∷ 0x00 ∷ 0x2D ∷ 0xA0 ∷ 0x0F ∷ []))) (0 ∷ 8 ∷ [])
    -- 3F 01 2D A0 0F: S equals its inverse
    ∷ edge (told of_sample (sample_of (0x3F ∷ 0x01 ∷ 0x2D ∷ 0xA0 ∷ 0x0F ∷ []))) (0 ∷ 8 ∷ [])
    -- in scan reading, 00 3D 01 2D A0 0F skips one byte and gives one sample
    ∷ edge (of_scan (scan (0x00 ∷ 0x3D ∷ 0x01 ∷ 0x2D ∷ 0xA0 ∷ 0x0F ∷ []))) (1 ∷ 1 ∷ [])
    -- health 02 34 12 is status 2, code 4,660
    ∷ edge (told of_health (health_of (0x02 ∷ 0x34 ∷ 0x12 ∷ []))) (1 ∷ 2 ∷ 4660 ∷ [])
    -- 03 00 00 is refused
    ∷ edge (told of_health (health_of (0x03 ∷ 0x00 ∷ 0x00 ∷ []))) (0 ∷ 7 ∷ [])
    -- code 82 with payload 00 00 00 00 00 is A5 82 05 00 00 00 00 00 22
    ∷ edge (told (λ xs. xs) (request_of 0x82 (0x00 ∷ 0x00 ∷ 0x00 ∷ 0x00 ∷ 0x00 ∷ [])))
    (1 ∷ 0xA5 ∷ 0x82 ∷ 0x05 ∷ 0x00 ∷ 0x00 ∷ 0x00 ∷ 0x00 ∷ 0x00 ∷ 0x22 ∷ [])
    -- head 63, add: head 64, oldest in slot 1
    ∷ edge (added 63) (64 ∷ 1 ∷ [])
    -- head 127, add: head 64
    ∷ edge (head_of (store slots (ring_at 127) [] 754) ∷ []) (64 ∷ [])
    -- head 128: refusal 11
    ∷ edge (told (λ n. n ∷ []) (counting slots (ring_at 128))) (0 ∷ 11 ∷ [])
    ∷ []

-- every edge is what the paper says
unfoldable pub holds : List Edge → Bool
holds [] = true
holds (e ∷ es) = same e.given e.said && holds es
