use Rattle.std.proofs.Common.{ℕ, ◌<◌, ◌≤◌, List, [], ◌∷◌, length, ap, ◌∙◌, arith}
use Rattle.paper.proofs.Writing.{length_over}
use Rattle.stream.specs.Promises.{Reads}
use Rattle.stream.specs.declared.Reader.{Reader}
use Rattle.stream.specs.declared.Reading.{Reading}
use Rattle.stream.proofs.GoesOn.{taken_within, words_within, call_goes_on}
use Rattle.edge_scans.proofs.call.Goals as goal

takes_some : {s : Reader} {input was row : List ℕ} {r : Reading} → Reads s input was r row → 0 < length input → 3 ≤ length was → 0 < r.taken
takes_some {input = []} h some room = absurd (omega arith)
takes_some {input = b ∷ bs} h some room = call_goes_on h room

words_in_row : {s : Reader} {input was row : List ℕ} {r : Reading} → Reads s input was r row → r.words ≤ length row
words_in_row {was = was} h = omega (arith, words_within h, ap length h.row ∙ length_over _ was (rw h.words at (words_within h)))

pub returns-clause-taken : goal.returns-clause-taken
returns-clause-taken c = (takes_some c.read.ensures c.requires.input_some c.requires.words_room, taken_within c.read.ensures)

pub returns-clause-words : goal.returns-clause-words
returns-clause-words c = words_in_row c.read.ensures
