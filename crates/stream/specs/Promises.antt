-- What each public function of the reader promises.
use Rattle.std.specs.Prelude.{◌≡◌, ℕ, ◌+◌, length, Result}
use mathlib.Core.List.{List, [], flat_map}
use Rattle.paper.specs.Outcome.{mapped}
use Rattle.paper.specs.Refusals.{outcome}
use Rattle.paper.specs.declared.refusal.Refusal.{Refusal}
use Rattle.paper.specs.Writing.{over}
use Rattle.framing.specs.Run.{skipped}
use Rattle.framing.specs.Calls.{Answer, call}
use Rattle.stream.specs.declared.Phase.{Phase}
use Rattle.stream.specs.declared.Reader.{Reader}
use Rattle.stream.specs.declared.Reading.{Reading}
use Rattle.wire.specs.declared.request.Request.{Request}
use Rattle.stream.specs.Table.{Event, Thing, reader, giving, row_of}
use Rattle.stream.specs.State.{meaning, twenty, written, idle}
use Rattle.stream.specs.Stops.{stop_number, stop_of, reply_for}
use Rattle.stream.specs.Telling.{opens, begun}

-- `Reader::new`
pub record Made (r : Reader) : Type 0 where
  pub answer : r ≡ idle

-- the call that a call of `read` is, by the definitions: nothing is due, and the room is the row of words
unfoldable pub called : Reader → List ℕ → List ℕ → Answer Phase Event Thing
called self input row = call reader giving (meaning self) [] input (length row)

-- the words of the samples that it gives
unfoldable pub row_given : Reader → List ℕ → List ℕ → List ℕ
row_given self input row = flat_map row_of (called self input row).given

-- `Reader::read`
pub record Reads (self : Reader) (input was : List ℕ) (r : Reading) (is : List ℕ) : Type 0 where
  pub reader : r.reader ≡ written (called self input was).result.end (self.skipped + skipped (called self input was).result.steps)
  pub taken : r.taken ≡ (called self input was).taken
  pub words : r.words ≡ length (row_given self input was)
  pub stop : stop_number r.stop ≡ stop_number (stop_of (called self input was).stop)
  pub reply : r.reply ≡ twenty (reply_for (called self input was).stop)
  pub row : is ≡ over was (row_given self input was)

-- `Reader::tell`
pub record Tells (self : Reader) (q : Request) (r : Result Reader Refusal) : Type 0 where
  pub answer : outcome r ≡ mapped (begun self) (opens q)
