-- `scantext::row::put_row` meets its contract.
use Rattle.scantext.proofs.Lines.{RowDone}
use Rattle.scantext.proofs.row.put_row.Given as goal

abbrev pub invariant-loop-sample : goal.invariant-loop-sample
invariant-loop-sample l = RowDone l.initial.text l.words l.sample-iterator.size l.sample-iterator.rest.now l.text
