-- `seek::seeking` meets its promise.
use mathlib.Core.Path.{◌≡◌, refl, sym, ◌∙◌}
use mathlib.Core.Bool.{false}
use Prim.Native.Nat.{◌≤◌}
use native.Mathlib.Nat.{zero-add}
use native.Mathlib.Omega.{arith}
use lib.ListN.{length}
use Rattle.std.specs.Result.{is_ok}
use Rattle.stream.proofs.inner.Joint.{not_both, joined_reads}
use Rattle.stream.proofs.inner.Seek.{seek_place, seek_from, seek_part, seek_then}
use Rattle.stream.proofs.seek.seeking.Goals as goal
use Rattle.stream.proofs.seek.seeking.Goals.{in_default-via-in-Err+else-input-gt-ALL_BUT_ONE, in_default-via-in_default}

pub overflow_sub-at : goal.overflow_sub-at
overflow_sub-at c = let j = rw c.requires.wide at c.new-joint.ensures.joined.joins in seek_from j (rw c.in-Err.is at c.seek-first.ensures) c.if-input-gt-ALL_BUT_ONE.true

pub answer-requires-clause-placed : goal.answer-requires-clause-placed
answer-requires-clause-placed c = seek_place _ c.seek-second.ensures (omega arith) (omega arith)

pub answer-requires-in_default-clause-placed : goal.answer-requires-in_default-clause-placed
answer-requires-in_default-clause-placed c =
    let e : c.in_default.first ≡ c.seek-first.result = elim c.in_default.branch [ in_default-via-in-Err+else-input-gt-ALL_BUT_ONE w ↦ w.first-is ∙ sym w.in-Err.is | in_default-via-in_default w ↦ w.first-is ] in
    let j = c.new-joint.ensures.joined in
    rw e (seek_place _ c.seek-first.ensures (omega (arith, j.joins.few, c.requires.wide)) (omega (arith, j.joins.long)))

pub returns-in-Err : goal.returns-in-Err
returns-in-Err c =
    let d = c.new-joint.ensures.joined in
    λ ws. joined_reads refl d (seek_then c.requires (rw c.requires.wide at d.joins) ws _ _ (rw c.in-Err.is at c.seek-first.ensures) c.if-input-gt-ALL_BUT_ONE.true c.seek-second.ensures c.answer.ensures)

pub returns-in_default : goal.returns-in_default
returns-in_default c =
    let e : c.in_default.first ≡ c.seek-first.result = elim c.in_default.branch [ in_default-via-in-Err+else-input-gt-ALL_BUT_ONE w ↦ w.first-is ∙ sym w.in-Err.is | in_default-via-in_default w ↦ w.first-is ] in
    let few : is_ok c.in_default.first ≡ false → length c.args.input.now ≤ 6 = λ f. elim c.in_default.branch [
      | in_default-via-in-Err+else-input-gt-ALL_BUT_ONE w ↦ w.if-input-gt-ALL_BUT_ONE.false
      | in_default-via-in_default w ↦ not_both (is_ok c.in_default.first) (rw (w.first-is, w.in_default.is)) f
    ] in
    let d = c.new-joint.ensures.joined in
    λ ws. joined_reads refl d (seek_part c.requires (rw c.requires.wide at d.joins) ws _ (rw e c.seek-first.ensures) few (rw zero-add at c.answer-in_default.ensures))
