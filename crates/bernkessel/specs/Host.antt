-- The C form of the recorder's core and of what it answers.
use Rattle.std.specs.Prelude.{Result, Ok, Err, unwrap_or}
use Rattle.paper.specs.Refusals.{number_of}
use Rattle.paper.specs.declared.refusal.Refusal.{Refusal}
use Rattle.stream.specs.Stops.{stop_number}
use Rattle.host.specs.declared.Host.{Host}
use Rattle.host.specs.declared.Asked.{Asked}
use Rattle.host.specs.declared.Heard.{Heard}
use Rattle.host.specs.declared.Turned.{Turned}
use Rattle.bernkessel.specs.Reader.{reader_in, reader_out}
use Rattle.bernkessel.specs.Session.{session_in, session_out}
use Rattle.bernkessel.specs.Turn.{gatherer_in, gatherer_out}
use Rattle.bernkessel.specs.declared.hosts.BkHost.{BkHost}
use Rattle.bernkessel.specs.declared.hosts.BkHostSent.{BkHostSent}
use Rattle.bernkessel.specs.declared.hosts.BkHeard.{BkHeard}
use Rattle.bernkessel.specs.declared.hosts.BkTurned.{BkTurned}

unfoldable pub host_in : BkHost → Host
host_in c = record { session = session_in c.session; reader = reader_in c.reader; gatherer = gatherer_in c.gatherer; serial = c.serial }

unfoldable pub host_out : Host → BkHost
host_out h = record { session = session_out h.session; reader = reader_out h.reader; gatherer = gatherer_out h.gatherer; serial = h.serial }

-- a refusal gives back the very host
unfoldable pub asked_out : BkHost → Result Asked Refusal → BkHostSent
asked_out was (Ok r) = record { host = host_out r.host; written = record { bytes = r.bytes; refusal = 0 } }
asked_out was (Err q) = record { host = was; written = record { bytes = 0; refusal = number_of q } }

unfoldable pub heard_out : Heard → BkHeard
heard_out r = record { host = host_out r.host; taken = r.taken; words = r.words; stop = stop_number r.stop; reply = r.reply }

-- 0 where no turn closed; a refusal gives back the very host
unfoldable pub turned_out : BkHost → Result Turned Refusal → BkTurned
turned_out was (Ok r) = record { host = host_out r.host; words = r.words; turn = unwrap_or r.turn 0; refusal = 0 }
turned_out was (Err q) = record { host = was; words = 0; turn = 0; refusal = number_of q }
