-- The host: one value for session, reader and gatherer, and the serial for the records. What a request, a thing that the reader gives and a
-- closed turn make of it.
use Rattle.std.specs.Prelude.{ℕ, List, [], ◌∷◌, replicate, Option, Some, None, Result, Ok, Err}
use Rattle.paper.specs.Outcome.{Outcome, if_given}
use Rattle.paper.specs.Writing.{over}
use Rattle.paper.specs.declared.refusal.Refusal.{Refusal}
use Rattle.wire.specs.Request.{kind_of}
use Rattle.wire.specs.Reply.{info_of}
use Rattle.wire.specs.declared.reply.Info.{Info}
use Rattle.wire.specs.declared.request.Request.{Request}
use Rattle.session.specs.Session as session
use Rattle.session.specs.declared.Session.{Session}
use Rattle.stream.specs.State.{idle}
use Rattle.stream.specs.Table.{Thing, headed, replied, unread, point}
use Rattle.stream.specs.Telling.{told_reader}
use Rattle.stream.specs.declared.Reading.{Reading}
use Rattle.turn.specs.Gather.{End}
use Rattle.record.specs.Record.{record_of}
use Rattle.host.specs.declared.Host.{Host}
use Rattle.host.specs.declared.Asked.{Asked}
use Rattle.host.specs.declared.Heard.{Heard}
use Rattle.host.specs.declared.Turned.{Turned}

-- fresh: session, reader and gatherer are, and no serial is known
unfoldable pub fresh : Host
fresh = record { session = session.fresh; reader = idle; gatherer = record { count = 0 }; serial = replicate 16 0 }

-- a request that is sent tells all of them: bytes held are skipped, and an open turn is dropped
unfoldable pub asked : Host → ℕ → Request → Host
asked h time q = record {
  session = session.accepted time (kind_of q.0);
  reader = told_reader h.reader q;
  gatherer = record { count = 0 };
  serial = h.serial;
}

-- the host behind a sending: the answer's, and the very one where it is refused
unfoldable pub after : Host → Result Asked Refusal → Host
after h (Ok r) = r.host
after h (Err q) = h

-- the end of a reply ends the awaiting, also where the reply does not read
unfoldable pub waited : Session → Thing → Session
waited s headed = s
waited s (replied w) = session.ended s
waited s unread = session.ended s
waited s (point m) = s

-- the serial of an info reply is kept
unfoldable pub kept : List ℕ → Thing → List ℕ
kept serial headed = serial
kept serial (replied w) = if_given (info_of w) (λ (i : Info). i.serial) serial
kept serial unread = serial
kept serial (point m) = serial

-- one thing after the other
unfoldable pub through : {A : Type 0} → (A → Thing → A) → A → List Thing → A
through f a [] = a
through f a (x ∷ xs) = through f (f a x) xs

-- what a call of the reader answered
unfoldable pub reading_of : Heard → Reading
reading_of r = record { reader = r.host.reader; taken = r.taken; words = r.words; stop = r.stop; reply = r.reply }

-- the host once samples are gathered
unfoldable pub gathered : Host → End → Host
gathered h e = record { session = h.session; reader = h.reader; gatherer = record { count = e.held.count }; serial = h.serial }

-- the record of a closed turn of n samples: its cells, the number that it is given and the serial that was kept
unfoldable pub record_for : Host → ℕ → ℕ → List ℕ → Outcome (List ℕ)
record_for h number n cells = record_of (record { number = number; count = n; serial = h.serial; cells = cells })

-- a closed turn becomes a record ready to be stored
unfoldable pub ready : Host → ℕ → List ℕ → Option ℕ → List ℕ → List ℕ
ready h number rec None cells = rec
ready h number rec (Some n) cells = if_given (record_for h number n cells) (over rec) rec

-- what a row is answered: the host, the words taken, and the count of the turn that closed
unfoldable pub turned : Host → End → Turned
turned h e = record { host = gathered h e; words = e.words; turn = e.turn }
