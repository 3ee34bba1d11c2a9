-- `host::note::kept` meets its promise.
use mathlib.Core.Path.{◌≡◌, sym, ◌∙◌}
use native.Mathlib.Omega.{arith}
use lib.ListN.{length}
use mathlib.Core.Bool.{true, false}
use Rattle.host.specs.inner.Noted.{kept_at}
use Rattle.host.proofs.Noted.{serial_from, never_refused}
use Rattle.host.proofs.note.kept.Goals as goal

pub returns-then-not-is_info : goal.returns-then-not-is_info
unfolding kept_at
returns-then-not-is_info c =
    let no : c.is_info.result ≡ false = c.if-not-is_info.true in
    sym (rw (sym c.is_info.ensures, no))

pub returns-in-Ok : goal.returns-in-Ok
unfolding kept_at
returns-in-Ok c = let bytes : length c.args.reply.now ≡ 20 = omega arith in
    let yes : c.is_info.result ≡ true = c.if-not-is_info.false in
    serial_from _ _ bytes c.in-Ok.ensures ∙ sym (rw (sym c.is_info.ensures, yes))

pub returns-in-Err : goal.returns-in-Err
returns-in-Err c = let bytes : length c.args.reply.now ≡ 20 = omega arith in
    absurd (never_refused _ bytes c.in-Err.ensures)
