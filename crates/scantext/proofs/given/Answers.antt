-- `scantext::given` meets its contract.
use Rattle.std.proofs.Common.{rules, arith}
use Rattle.text.proofs.Pieces.{added_more, added_left}
use Rattle.scantext.specs.Lines.{call_text}
use Rattle.scantext.proofs.Room.{each_below, call_short}
use Rattle.scantext.proofs.Written.{given_short, given_written}
use Rattle.scantext.proofs.given.Goals as goal

pub returns-then-not-has_room : goal.returns-then-not-has_room
returns-then-not-has_room c = given_short _ _ _ _ _ c.if-not-has_room.ensures

pub returns : goal.returns
unfolding call_text
returns c =
    let room = c.if-not-has_room.ensures in
    let fit = call_short c.args.phase c.args.words.now c.args.stop c.args.reply.now (each_below c.args.words.now (λ i. (c.type_inv.words i).fits)) in
    given_written _ _ _ _ _ room (omega (arith, fit, room)) (added_left (added_more c.put_row.ensures c.put_stop.ensures) (omega (arith, fit, room)) (search rules))
