-- `wire::request::long` meets its promise.
use mathlib.Core.Path.{sym}
use mathlib.Core.List.{◌∷◌}
use native.Mathlib.Omega.{arith}
use lib.ListN.{length}
use lib.Seq.{length-take-le}
use Rattle.paper.proofs.Writing.{writes_short, written_err, written_all}
use Rattle.wire.specs.Request.{start_byte, with_sum}
use Rattle.wire.proofs.Requests.{sum_behind, sum_long}
use Rattle.wire.proofs.request.long.Goals as goal

pub returns-then-out-n : goal.returns-then-out-n
returns-then-out-n c = let xs = c.args.payload.now in
    writes_short (with_sum (start_byte ∷ c.args.code ∷ length xs ∷ xs)) _ (sum_long _ (omega arith))

pub returns-in_err-end : goal.returns-in_err-end
returns-in_err-end c = absurd (omega (arith, written_err c.in_err-end.ensures))

pub slice_bounds-sum-end : goal.slice_bounds-sum-end
slice_bounds-sum-end c = let w = written_all c.in_ok-end.ensures in omega (arith, w.size, w.fits, c.write_both.auto.out)

pub slice_bounds-sum-end-2 : goal.slice_bounds-sum-end-2
slice_bounds-sum-end-2 c = let w = written_all c.in_ok-end.ensures in sym (length-take-le _ _ (omega (arith, w.size, w.fits, c.write_both.auto.out)))

pub bounds-out-end : goal.bounds-out-end
bounds-out-end c = let w = written_all c.in_ok-end.ensures in omega (arith, w.size, w.fits, c.write_both.auto.out)

pub overflow_add-result : goal.overflow_add-result
overflow_add-result c = let w = written_all c.in_ok-end.ensures in omega (arith, w.size, w.fits, c.write_both.auto.out)

pub returns : goal.returns
returns c = let w = written_all c.in_ok-end.ensures in
    sum_behind _ _ _ _ _ _ (sym w.size) (omega (arith, w.size)) c.in_ok-end.ensures c.sum.ensures.answer
