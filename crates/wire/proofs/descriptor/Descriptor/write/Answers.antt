-- `wire::descriptor::Descriptor::write` meets its promise.
use Rattle.paper.proofs.Writing.{writes_no, writes_yes}
use Rattle.wire.proofs.Descriptors.{mode_over, length_over, bytes_given, seven}
use Rattle.wire.proofs.descriptor.Descriptor.write.Goals as goal

pub returns-then-mode-gt1 : goal.returns-then-mode-gt1
returns-then-mode-gt1 c = writes_no (mode_over _ c.if-mode-gt1.true)

pub returns-then-length-ge-LENGTHS : goal.returns-then-length-ge-LENGTHS
returns-then-length-ge-LENGTHS c = writes_no (length_over _ c.if-mode-gt1.false c.if-length-ge-LENGTHS.true)

pub returns : goal.returns
returns c = writes_yes (bytes_given _ c.if-mode-gt1.false c.if-length-ge-LENGTHS.false) (seven _ _ (rw c.from.ensures at c.bytes32-w.ensures.answer)) c.write.ensures
