-- `scantext::line::put_hexes` meets its contract.
use mathlib.Core.List.{flat_map}
use lib.ListN.{take}
use Rattle.text.specs.Appends.{PieceAdded}
use Rattle.text.specs.Hex.{hex}
use Rattle.scantext.proofs.line.put_hexes.Given as goal

abbrev pub invariant-loop-b : goal.invariant-loop-b
invariant-loop-b l = PieceAdded l.initial.text (flat_map hex (take l.b-index l.bytes)) l.text
