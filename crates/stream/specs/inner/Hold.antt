-- Readers that hold bytes, and answers with no words and no reply.
use Rattle.std.specs.Prelude.{List, [], ℕ, length}
use Rattle.stream.specs.declared.Phase.{Phase}
use Rattle.stream.specs.declared.Stop.{Stop}
use Rattle.stream.specs.declared.Reader.{Reader}
use Rattle.stream.specs.declared.Reading.{Reading}
use Rattle.stream.specs.State.{twenty}

-- a reader in phase p that holds xs
unfoldable pub holding : Phase → List ℕ → ℕ → Reader
holding p xs k = record { phase = p; n = length xs; held = twenty xs; skipped = k }

-- an answer with no words and no reply
unfoldable pub stopping : Reader → ℕ → Stop → Reading
stopping r n s = record { reader = r; taken = n; words = 0; stop = s; reply = twenty [] }
