-- What the collector's private function answers, over the byte taken.
use Rattle.std.specs.Prelude.{ℕ, ◌≡◌, List, Option}
use Rattle.paper.specs.Writing.{over}
use Rattle.device.specs.Collector.{Taken, goes, begin, joining, part_of, payload_in, collected}
use Rattle.device.specs.declared.collector.Stage.{Stage}
use Rattle.device.specs.declared.collector.Stage.TheVariants.{Empty, Started, Coded, Sized}
use Rattle.device.specs.declared.collector.Packet.{Packet}

-- what a byte at a time makes of a stage, where the packet was begun at another time and is not late
unfoldable pub stepping : Stage → ℕ → List ℕ → ℕ → ℕ → Taken
stepping Empty begun mem time b = goes (begin time b)
stepping Started begun mem time b = joining (part_of Started begun mem) b
stepping (Coded code) begun mem time b = joining (part_of (Coded code) begun mem) b
stepping (Sized code size count sum) begun mem time b = joining (part_of (Sized code size count sum) begun mem) b

-- when the packet was begun that is at a stage behind a byte at a time: at that time where the byte is its A5, and otherwise when it was before
unfoldable pub begun_by : Stage → ℕ → ℕ → ℕ
begun_by Empty begun time = 0
begun_by Started begun time = time
begun_by (Coded code) begun time = begun
begun_by (Sized code size count sum) begun time = begun

-- `Stage::next`, at all times
pub record Stepped (st : Stage) (b : ℕ) (was : List ℕ) (r : Stage × Option Packet) (is : List ℕ) : Type 0 where
  pub answer : (begun time : ℕ) → collected time (stepping st begun was time b)
      ≡ record { collector = record { stage = r.0; begun = begun_by r.0 begun time; last = time }; packet = r.1 }
  pub memory : (begun time : ℕ) → over was (payload_in (stepping st begun was time b)) ≡ is
