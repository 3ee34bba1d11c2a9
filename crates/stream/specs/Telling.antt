-- Being told a request: which phase it begins.
use Rattle.std.specs.Prelude.{◌+◌, length, Result, Ok, Err}
use Rattle.std.proofs.Math.Option.{Option, none, some}
use Rattle.paper.specs.Outcome.{Outcome, gives, refuses, if_given}
use Rattle.paper.specs.Refusals.{number_of}
use Rattle.paper.specs.declared.refusal.Refusal.{Refusal}
use Rattle.paper.specs.declared.refusal.Refusal.TheVariants.{CodeNotPermitted}
use Rattle.wire.specs.Request.{kind_of}
use Rattle.wire.specs.declared.request.Request.{Request}
use Rattle.wire.specs.declared.request.Kind.{Kind}
use Rattle.wire.specs.declared.request.Kind.TheVariants.{Stop, Reset, Scan, ForceScan, GetInfo, GetHealth, Other}
use Rattle.framing.specs.Framing.{fresh}
use Rattle.stream.specs.State.{held_of, written}
use Rattle.stream.specs.declared.Reader.{Reader}
use Rattle.stream.specs.declared.Phase.{Phase}
use Rattle.stream.specs.declared.Phase.TheVariants.{Idle, SeekInfo, SeekHealth, SeekScan}

-- After STOP and RESET the reader is idle; for the others it looks for the expected descriptor; a code not of the six is refused.
unfoldable pub opening : Kind → Outcome Phase
opening Stop = gives Idle
opening Reset = gives Idle
opening Scan = gives SeekScan
opening ForceScan = gives SeekScan
opening GetInfo = gives SeekInfo
opening GetHealth = gives SeekHealth
opening Other = refuses (number_of CodeNotPermitted)

abbrev pub opens : Request → Outcome Phase
opens q = opening (kind_of q.0)

-- a reader that begins phase p: the bytes held are forgotten and count as skipped
abbrev pub begun : Reader → Phase → Reader
begun s p = written (fresh p) (s.skipped + length (held_of s))

-- the reader that is told a request; a refused one leaves it as it was
unfoldable pub told_reader : Reader → Request → Reader
told_reader s q = if_given (opens q) (begun s) s

-- the reader after an answer: the answer's, and the very reader that was asked where it is refused
unfoldable pub after : Reader → Result Reader Refusal → Reader
after s (Ok r) = r
after s (Err q) = s

-- the same for the theory, to which a refused request begins nothing
unfoldable pub begins : Request → Option Phase
begins q = if_given (opens q) some none
