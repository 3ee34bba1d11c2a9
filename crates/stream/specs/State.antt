-- The reader's state: what every value of it means, and how a meaning is written.
use Rattle.std.specs.Prelude.{List, ◌++◌, ℕ, ◌-◌, min, length, take, replicate}
use Rattle.framing.specs.Framing.{State, fresh}
use Rattle.stream.specs.declared.Phase.{Phase}
use Rattle.stream.specs.declared.Phase.TheVariants.{Idle}
use Rattle.stream.specs.declared.Reader.{Reader}
use Rattle.stream.specs.Table.{width}

-- the bytes held: fewer than the phase looks at together, and a larger count is read as the most of these
unfoldable pub held_of : Reader → List ℕ
held_of r = take (min r.n (width r.phase - 1)) r.held

-- where the reading stands
unfoldable pub meaning : Reader → State Phase
meaning r = record { phase = r.phase; bytes = held_of r }

-- twenty bytes, those that are not used 0
unfoldable pub twenty : List ℕ → List ℕ
twenty xs = xs ++ replicate (20 - length xs) 0

-- a count of 32 bits, which stays at its largest value
unfoldable pub capped : ℕ → ℕ
capped n = min n 4294967295

-- the reader that stands at s, k bytes skipped
unfoldable pub written : State Phase → ℕ → Reader
written s k = record { phase = s.phase; n = length s.bytes; held = twenty s.bytes; skipped = capped k }

-- a fresh reader is idle
unfoldable pub idle : Reader
idle = written (fresh Idle) 0
