-- The reader's table: how many bytes each phase looks at together, what they say, which phase follows, and what a call gives of it.
use Rattle.std.specs.Prelude.{Bool, true, false, cond, ◌&&◌, List, [], ◌∷◌, map, ℕ, eqb}
use Rattle.paper.specs.Outcome.{if_given}
use Rattle.framing.specs.Framing.{Framing}
use Rattle.framing.specs.Stages.{Look, staged, Verdict, fails, passes, spoiled, windowed}
use Rattle.framing.specs.Calls.{Giving}
use Rattle.wire.specs.declared.sample.Sample.{Sample}
use Rattle.wire.specs.Sample.{sample_of, words_of}
use Rattle.wire.specs.Reply.{health_of}
use Rattle.wire.specs.Descriptor.{info_descriptor, health_descriptor, scan_descriptor}
use Rattle.stream.specs.declared.Phase.{Phase}
use Rattle.stream.specs.declared.Phase.TheVariants.{Idle, SeekInfo, SeekHealth, SeekScan, InfoReply, HealthReply, Scanning}

-- what the bytes of a phase say
pub data Event : Type 0 where
  descriptor : Event
  reply : List ℕ → Event
  bad_health : Event
  samples : List Sample → Event

-- these bytes are those
unfoldable pub same : List ℕ → List ℕ → Bool
same [] [] = true
same [] (y ∷ ys) = false
same (x ∷ xs) [] = false
same (x ∷ xs) (y ∷ ys) = eqb x y && same xs ys

-- seven bytes equal the expected descriptor
unfoldable pub seeking : List ℕ → List ℕ → Verdict Event
seeking d w = cond (same w d) (passes descriptor) fails

-- a health reply that does not read counts as skipped
unfoldable pub read_health : List ℕ → Verdict Event
read_health w = if_given (health_of w) (λ h. passes (reply w)) (spoiled bad_health)

-- five bytes that pass are a sample; if they do not, the first is skipped
unfoldable pub read_sample : List ℕ → Verdict Event
read_sample w = if_given (sample_of w) (λ m. passes (samples (m ∷ []))) fails

-- how many bytes are looked at together
unfoldable pub width : Phase → ℕ
width Idle = 1
width SeekInfo = 7
width SeekHealth = 7
width SeekScan = 7
width InfoReply = 20
width HealthReply = 3
width Scanning = 5

-- what so many bytes say; an idle reader skips each byte
unfoldable pub says : Phase → List ℕ → Verdict Event
says Idle w = fails
says SeekInfo w = seeking info_descriptor w
says SeekHealth w = seeking health_descriptor w
says SeekScan w = seeking scan_descriptor w
says InfoReply w = passes (reply w)
says HealthReply w = read_health w
says Scanning w = read_sample w

-- the phase that follows: after its descriptor the reply or the scan, after a reply idle; a scan goes on
unfoldable pub follows : Phase → Event → Phase
follows Idle e = Idle
follows SeekInfo e = InfoReply
follows SeekHealth e = HealthReply
follows SeekScan e = Scanning
follows InfoReply e = Idle
follows HealthReply e = Idle
follows Scanning e = Scanning

-- how each phase looks at the bytes
abbrev pub looks : Phase → Look Event
looks p = windowed (width p) (says p)

-- the reader as a framing
abbrev pub reader : Framing Phase Event
reader = staged looks follows

-- what a call gives: that the descriptor is there, a reply, that a health reply does not read, a sample
pub data Thing : Type 0 where
  headed : Thing
  replied : List ℕ → Thing
  unread : Thing
  point : Sample → Thing

unfoldable pub things_of : Event → List Thing
things_of descriptor = headed ∷ []
things_of (reply w) = replied w ∷ []
things_of bad_health = unread ∷ []
things_of (samples ms) = map point ms

-- a sample takes three words
unfoldable pub words_for : Thing → ℕ
words_for headed = 0
words_for (replied w) = 0
words_for unread = 0
words_for (point m) = 3

-- a call stops right after a descriptor, a reply, or a health reply that does not read
unfoldable pub ends_call : Thing → Bool
ends_call headed = true
ends_call (replied w) = true
ends_call unread = true
ends_call (point m) = false

abbrev pub giving : Giving Event Thing
giving = record { gives = things_of; words = words_for; ends = ends_call }

-- the words of a thing: of a sample its three, of others none
unfoldable pub row_of : Thing → List ℕ
row_of headed = []
row_of (replied w) = []
row_of unread = []
row_of (point m) = words_of m
