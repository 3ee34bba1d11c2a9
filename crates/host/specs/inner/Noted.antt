-- What a stop does to the session and to the serial, as code finds it.
use Rattle.std.specs.Prelude.{Bool, true, false, cond, List, ℕ, drop}
use Rattle.session.specs.Session.{ended}
use Rattle.session.specs.declared.Session.{Session}
use Rattle.stream.specs.declared.Phase.{Phase}
use Rattle.stream.specs.declared.Phase.TheVariants.{Idle, SeekInfo, SeekHealth, SeekScan, InfoReply, HealthReply, Scanning}
use Rattle.stream.specs.declared.Stop.{Stop}
use Rattle.stream.specs.declared.Stop.TheVariants.{AllTaken, NoRoom, Descriptor, Reply, BadHealth}

-- a reply ends the awaiting, also one that does not read
unfoldable pub waited_at : Stop → Session → Session
waited_at AllTaken s = s
waited_at NoRoom s = s
waited_at Descriptor s = s
waited_at Reply s = ended s
waited_at BadHealth s = ended s

-- the call began where an info reply is read
unfoldable pub reads_info : Phase → Bool
reads_info Idle = false
reads_info SeekInfo = false
reads_info SeekHealth = false
reads_info SeekScan = false
reads_info InfoReply = true
reads_info HealthReply = false
reads_info Scanning = false

-- and it ended with the reply
unfoldable pub is_info : Phase → Stop → Bool
is_info p AllTaken = false
is_info p NoRoom = false
is_info p Descriptor = false
is_info p Reply = reads_info p
is_info p BadHealth = false

-- the last sixteen of the twenty bytes are the serial
unfoldable pub kept_at : Bool → List ℕ → List ℕ → List ℕ
kept_at t reply serial = cond t (drop 4 reply) serial
