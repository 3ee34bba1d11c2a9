-- `wire::descriptor::Descriptor::read` meets its promise.
use Rattle.wire.proofs.Descriptors.{descriptor_no, descriptor_yes, not_seven, not_start, not_flag, not_mode, all_four, its_fields}
use Rattle.wire.proofs.descriptor.Descriptor.read.Goals as goal

pub returns-then-bytes-ne7 : goal.returns-then-bytes-ne7
returns-then-bytes-ne7 c = descriptor_no _ (not_seven _ c.if-bytes-ne7.true)

pub returns-then-bytes : goal.returns-then-bytes
returns-then-bytes c = descriptor_no _ (not_start _ c.if-bytes-ne7.false c.if-bytes.true)

pub returns-then-bytes-ne-FLAG : goal.returns-then-bytes-ne-FLAG
returns-then-bytes-ne-FLAG c = descriptor_no _ (not_flag _ c.if-bytes-ne7.false c.if-bytes.false c.if-bytes-ne-FLAG.true)

pub returns-then-mode-gt1 : goal.returns-then-mode-gt1
returns-then-mode-gt1 c = descriptor_no _ (not_mode _ c.if-bytes-ne7.false c.if-bytes.false c.if-bytes-ne-FLAG.false _ c.word32-w.ensures.answer c.if-mode-gt1.true)

pub returns : goal.returns
returns c = let w = c.word32-w.ensures.answer in
    descriptor_yes _ _ (all_four _ c.if-bytes-ne7.false c.if-bytes.false c.if-bytes-ne-FLAG.false _ w c.if-mode-gt1.false) (its_fields _ c.if-bytes-ne7.false c.if-bytes.false c.if-bytes-ne-FLAG.false _ w)
