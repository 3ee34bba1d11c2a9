-- `listing::image::compose` meets its contract.
use Rattle.std.proofs.Common.{sym, arith}
use Rattle.paper.specs.Refusals.{outcome}
use Rattle.ring.specs.Ring.{slots}
use Rattle.listing.proofs.Lines.{turns_counted, text_held, text_refused}
use Rattle.listing.proofs.image.compose.Goals as goal

pub put_turns-requires : goal.put_turns-requires
unfolding outcome
put_turns-requires c = sym c.in-Ok.ensures.answer

pub returns-in-Ok : goal.returns-in-Ok
unfolding outcome
returns-in-Ok c =
    let n = sym c.in-Ok.ensures.answer in
    let w = turns_counted slots _ _ (omega arith) (omega arith) n in
    text_held slots _ _ n w.2 (omega (arith, w.2)) c.put_held.ensures c.put_turns.ensures

pub returns-in-Err : goal.returns-in-Err
unfolding outcome
returns-in-Err c = text_refused slots _ _ _ (omega arith) (sym c.in-Err.ensures.answer) c.number.ensures.answer (omega arith) c.refused.ensures
