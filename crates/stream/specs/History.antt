-- A reader in use: calls and tellings one after another, and what its caller sees of them in order.
use Rattle.std.specs.Prelude.{◌≡◌, List, [], ◌∷◌, ◌++◌, map, ℕ, take, drop, Result, Ok, Err}
use Rattle.paper.specs.declared.refusal.Refusal.{Refusal}
use Rattle.framing.specs.Stream.{Input, byte, told, Shown, gave, asked}
use Rattle.wire.specs.declared.request.Request.{Request}
use Rattle.wire.specs.Sample.{words_of}
use Rattle.stream.specs.declared.Stop.{Stop}
use Rattle.stream.specs.declared.Stop.TheVariants.{AllTaken, NoRoom, Descriptor, Reply, BadHealth}
use Rattle.stream.specs.declared.Reader.{Reader}
use Rattle.stream.specs.declared.Reading.{Reading}
use Rattle.stream.specs.Table.{Thing, headed, replied, unread, point}
use Rattle.stream.specs.State.{meaning, twenty, written}
use Rattle.stream.specs.Stops.{stop_number}
use Rattle.stream.specs.Telling.{after}
use Rattle.stream.specs.Promises.{Reads, Tells}

-- what a caller sees: a word in its row; a stop of number 2, 3 or 4 with its twenty bytes; that a request was taken
pub data Seen : Type 0 where
  word : ℕ → Seen
  notice : ℕ → List ℕ → Seen
  taken : Request → Seen

unfoldable pub notice_by : Stop → List ℕ → List Seen
notice_by AllTaken w = []
notice_by NoRoom w = []
notice_by Descriptor w = notice (stop_number Descriptor) w ∷ []
notice_by Reply w = notice (stop_number Reply) w ∷ []
notice_by BadHealth w = notice (stop_number BadHealth) w ∷ []

-- of an answer of `read`, with the row of words at exit
unfoldable pub seen_by : Reading → List ℕ → List Seen
seen_by r row = map word (take r.words row) ++ notice_by r.stop r.reply

-- of an answer of `tell`
unfoldable pub told_by : Request → Result Reader Refusal → List Seen
told_by q (Ok r) = taken q ∷ []
told_by q (Err e) = []

-- of what the stream shows by definition
unfoldable pub seen_of : Shown Request Thing → List Seen
seen_of (gave headed) = notice (stop_number Descriptor) (twenty []) ∷ []
seen_of (gave (replied w)) = notice (stop_number Reply) (twenty w) ∷ []
seen_of (gave unread) = notice (stop_number BadHealth) (twenty []) ∷ []
seen_of (gave (point m)) = map word (words_of m)
seen_of (asked q) = taken q ∷ []

-- `History s is xs z`: from s to z over the stream `is`, seeing xs. A call is handed any of the bytes that come next, with any row, and the
-- stream goes on with those that it did not take.
pub data History : Reader → List (Input Request) → List Seen → Reader → Type 0 where
  over : {s : Reader} → History s [] [] s
  reads : {s z : Reader} {xs : List Seen} (input was row : List ℕ) (r : Reading) (is : List (Input Request)) → Reads s input was r row
      → History r.reader (map byte (drop r.taken input) ++ is) xs z → History s (map byte input ++ is) (seen_by r row ++ xs) z
  tells : {s z : Reader} {xs : List Seen} {is : List (Input Request)} (q : Request) (t : Result Reader Refusal) → Tells s q t
      → History (after s t) is xs z → History s (told q ∷ is) (told_by q t ++ xs) z

-- a reader as `new`, `read` and `tell` make it: what it does not use is 0
unfoldable pub Plain : Reader → Type 0
Plain r = written (meaning r) r.skipped ≡ r
