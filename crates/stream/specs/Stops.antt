-- The numbers of the stops, and the twenty bytes that a stop answers.
use Rattle.std.specs.Prelude.{List, [], ℕ}
use Rattle.framing.specs.Calls.{Stop as Reason, all_taken, ended_by, no_room}
use Rattle.stream.specs.declared.Stop.{Stop}
use Rattle.stream.specs.declared.Stop.TheVariants.{AllTaken, NoRoom, Descriptor, Reply, BadHealth}
use Rattle.stream.specs.Table.{Thing, headed, replied, unread, point}

-- the paper's number of each stop
unfoldable pub stop_number : Stop → ℕ
stop_number AllTaken = 0
stop_number NoRoom = 1
stop_number Descriptor = 2
stop_number Reply = 3
stop_number BadHealth = 4

-- the stop for each reason; a sample ends no call
unfoldable pub stop_of : Reason Thing → Stop
stop_of all_taken = AllTaken
stop_of no_room = NoRoom
stop_of (ended_by headed) = Descriptor
stop_of (ended_by (replied w)) = Reply
stop_of (ended_by unread) = BadHealth
stop_of (ended_by (point m)) = AllTaken

-- the reply, where one ended the call
unfoldable pub reply_for : Reason Thing → List ℕ
reply_for all_taken = []
reply_for no_room = []
reply_for (ended_by headed) = []
reply_for (ended_by (replied w)) = w
reply_for (ended_by unread) = []
reply_for (ended_by (point m)) = []
