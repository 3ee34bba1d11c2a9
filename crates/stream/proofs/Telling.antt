-- Where a telling leaves the reader: `tells_after`; a refused one, as it was.
use mathlib.Core.Path.{◌≡◌, refl, sym}
use Rattle.std.specs.Prelude.{Result, Ok, Err}
use Rattle.paper.specs.Outcome.{Outcome, gives, refuses, if_given, mapped}
use Rattle.paper.specs.Refusals.{outcome}
use Rattle.paper.specs.declared.refusal.Refusal.{Refusal}
use Rattle.paper.proofs.Outcome.{gives_one, gives_refuses}
use Rattle.wire.specs.declared.request.Request.{Request}
use Rattle.stream.specs.declared.Phase.{Phase}
use Rattle.stream.specs.declared.Reader.{Reader}
use Rattle.stream.specs.Telling.{opens, begun, told_reader, after}
use Rattle.stream.specs.Promises.{Tells}

pub tells_after : {s : Reader} {q : Request} {t : Result Reader Refusal} → Tells s q t → after s t ≡ told_reader s q
unfolding told_reader after outcome mapped if_given
tells_after {s} {q} {t} h = by (opens q) t h.answer
  where
    by : (o : Outcome Phase) (x : Result Reader Refusal) → outcome x ≡ mapped (begun s) o → after s x ≡ if_given o (begun s) s
    by (gives p) (Ok r) e = gives_one e
    by (gives p) (Err m) e = absurd (gives_refuses (sym e))
    by (refuses n) (Ok r) e = absurd (gives_refuses e)
    by (refuses n) (Err m) e = refl
