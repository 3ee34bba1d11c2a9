-- The C form of a reader and of what it answers.
use Rattle.std.specs.Prelude.{ℕ, cond, eqb, Result, Ok, Err}
use Rattle.paper.specs.Refusals.{number_of}
use Rattle.paper.specs.declared.refusal.Refusal.{Refusal}
use Rattle.stream.specs.Stops.{stop_number}
use Rattle.stream.specs.declared.Phase.{Phase}
use Rattle.stream.specs.declared.Phase.TheVariants.{Idle, SeekInfo, SeekHealth, SeekScan, InfoReply, HealthReply, Scanning}
use Rattle.stream.specs.declared.Reader.{Reader}
use Rattle.stream.specs.declared.Reading.{Reading}
use Rattle.bernkessel.specs.declared.reader.BkReader.{BkReader}
use Rattle.bernkessel.specs.declared.reader.BkTold.{BkTold}
use Rattle.bernkessel.specs.declared.reader.BkReading.{BkReading}

-- the bytes of the phases
unfoldable pub phase_out : Phase → ℕ
phase_out Idle = 0
phase_out SeekInfo = 1
phase_out SeekHealth = 2
phase_out SeekScan = 3
phase_out InfoReply = 4
phase_out HealthReply = 5
phase_out Scanning = 6

-- and back; any other byte is idle
unfoldable pub phase_in : ℕ → Phase
phase_in b =
    cond (eqb b (phase_out SeekInfo)) SeekInfo
    (cond (eqb b (phase_out SeekHealth)) SeekHealth
    (cond (eqb b (phase_out SeekScan)) SeekScan
    (cond (eqb b (phase_out InfoReply)) InfoReply
    (cond (eqb b (phase_out HealthReply)) HealthReply
    (cond (eqb b (phase_out Scanning)) Scanning
    Idle)))))

unfoldable pub reader_in : BkReader → Reader
reader_in c = record { phase = phase_in c.phase; n = c.n; held = c.held; skipped = c.skipped }

unfoldable pub reader_out : Reader → BkReader
reader_out r = record { phase = phase_out r.phase; n = r.n; held = r.held; skipped = r.skipped }

-- a refused telling gives back the very reader
unfoldable pub told_out : BkReader → Result Reader Refusal → BkTold
told_out was (Ok r) = record { reader = reader_out r; refusal = 0 }
told_out was (Err q) = record { reader = was; refusal = number_of q }

unfoldable pub reading_out : Reading → BkReading
reading_out r = record { reader = reader_out r.reader; taken = r.taken; words = r.words; stop = stop_number r.stop; reply = r.reply }
