-- `listing::image::put_turns` meets its contract.
use Rattle.std.proofs.Common.{◌*◌}
use Rattle.ring.specs.Ring.{slots, first_turns}
use Rattle.listing.specs.Text.{lines, AddedWithin}
use Rattle.listing.proofs.image.put_turns.Given as goal

abbrev pub invariant-loop-i : goal.invariant-loop-i
invariant-loop-i l = AddedWithin (27 * l.i) l.initial.text (lines (first_turns slots l.mem l.i)) l.text
