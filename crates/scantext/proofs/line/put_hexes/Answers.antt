-- `scantext::line::put_hexes` meets its contract.
use mathlib.Core.List.{flat_map}
use mathlib.Core.Path.{ap}
use native.Mathlib.Omega.{arith}
use lib.Seq.{take_all}
use Rattle.text.specs.Hex.{hex}
use Rattle.text.proofs.Pieces.{added_none, added_is, added_then}
use Rattle.scantext.proofs.Lines.{hexes_more}
use Rattle.scantext.proofs.line.put_hexes.Goals as goal

pub loop-b-init : goal.loop-b-init
unfolding flat_map
loop-b-init c = added_none _

pub loop-b-preserved : goal.loop-b-preserved
loop-b-preserved c = added_is (added_then c.loop-b.invariant c.hex.ensures) (hexes_more _ _ c.loop-b-test.true)

pub returns : goal.returns
returns c = added_is c.loop-b.invariant (ap (flat_map hex) (take_all _ _ (omega arith)))
