use Rattle.std.proofs.Common.{arith}
use Rattle.scantext.proofs.Shown.{call_shown, call_never_short}
use Rattle.scanlist.proofs.Written.{never_err}
use Rattle.scanlist.proofs.show.call.Goals as goal

pub unwrap-n-requires : goal.unwrap-n-requires
unwrap-n-requires c = never_err _ (λ q. call_never_short _ _ _ _ (λ i. omega (arith, c.type_inv.words i)) c.requires c.given.ensures)

pub slice_bounds-result-end : goal.slice_bounds-result-end
slice_bounds-result-end c = (call_shown _ _ _ _ (λ i. omega (arith, c.type_inv.words i)) c.requires c.given.ensures _ c.unwrap-n.ensures).0.1

pub returns : goal.returns
returns c = (call_shown _ _ _ _ (λ i. omega (arith, c.type_inv.words i)) c.requires c.given.ensures _ c.unwrap-n.ensures).1
