-- A whole listing: calls one after another until no byte is left, and what they print.
use Rattle.std.specs.Prelude.{ℕ, List, [], ◌++◌, length, take, drop}
use Rattle.paper.specs.Outcome.{Outcome, gives, refuses}
use Rattle.framing.specs.Framing.{fresh, fed}
use Rattle.framing.specs.Run.{Result, run, skipped}
use Rattle.framing.specs.Calls.{outputs}
use Rattle.wire.specs.declared.request.Request.{Request}
use Rattle.stream.specs.Table.{Event, reader, giving}
use Rattle.stream.specs.State.{capped}
use Rattle.stream.specs.Telling.{opens}
use Rattle.stream.specs.Promises.{Reads}
use Rattle.stream.specs.declared.Phase.{Phase}
use Rattle.stream.specs.declared.Reader.{Reader}
use Rattle.stream.specs.declared.Reading.{Reading}
use Rattle.text.specs.Refused.{refused_line}
use Rattle.scantext.specs.Lines.{thing_lines, end_line, call_text}

-- the text of an answer of `read`, with the row of words at exit
unfoldable pub read_text : Phase → Reading → List ℕ → List ℕ
read_text p r row = call_text p (take r.words row) r.stop r.reply

-- `Listed s bs text z`: from s to z over the bytes bs, printing `text`. A call is handed any of the bytes that come next, with any row, and those
-- that it did not take come again.
pub data Listed : Reader → List ℕ → List ℕ → Reader → Type 0 where
  over : {s : Reader} → Listed s [] [] s
  reads : {s z : Reader} {text : List ℕ} (input was row : List ℕ) (r : Reading) (bs : List ℕ) → Reads s input was r row
      → Listed r.reader (drop r.taken input ++ bs) text z → Listed s (input ++ bs) (read_text s.phase r row ++ text) z

-- from s to z over the bytes bs, whatever is printed
unfoldable pub Lists : Reader → List ℕ → Reader → Type 0
Lists s bs z = (text : List ℕ) × Listed s bs text z

-- the text by definition: of one run over all bytes, from phase p with nothing held
unfoldable pub run_text : Phase → List ℕ → List ℕ
run_text p bs =
    let r : Result Phase Event = run reader (fed (fresh p) bs) in
    thing_lines (outputs giving r.steps) ++ end_line (length bs) (capped (skipped r.steps)) (length r.end.bytes)

-- of a request and the bytes that follow it: "a code that the reader refuses prints `refused 1` alone"
unfoldable pub text_by : Outcome Phase → List ℕ → List ℕ
text_by (gives p) bs = run_text p bs
text_by (refuses m) bs = refused_line m

unfoldable pub scan_text : Request → List ℕ → List ℕ
scan_text q bs = text_by (opens q) bs
