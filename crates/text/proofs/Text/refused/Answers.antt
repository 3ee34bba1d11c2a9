-- `text::Text::refused` meets its contract.
use mathlib.Core.Path.{refl, ap, ◌∙◌}
use native.Mathlib.Omega.{arith}
use Rattle.text.specs.Refused.{refused_line}
use Rattle.text.proofs.Pieces.{piece_is, added_first, added_then, added_shown}
use Rattle.text.proofs.Refused.{refused_short}
use Rattle.text.proofs.Text.refused.Goals as goal

pub returns : goal.returns
unfolding refused_line
returns c =
    piece_is c.bytes-2.ensures
    (added_shown (added_then (added_then (added_first c.bytes.ensures) c.number.ensures) c.byte.ensures) refl (refused_short c.from.result (omega arith)) c.as_bytes.ensures ∙ ap refused_line c.from.ensures)
