-- What the reader's promise says of one call over bytes that are left of a piece: `call_goes`.
use Prim.Native.Nat.{ℕ, ◌+◌, ◌-◌, ◌≤◌, ◌<◌}
use mathlib.Core.List.{List}
use mathlib.Core.Path.{◌≡◌}
use native.Mathlib.Omega.{arith}
use lib.ListN.{length, take}
use lib.Seq.{take_all}
use Rattle.stream.specs.Promises.{Reads}
use Rattle.stream.specs.declared.Reader.{Reader}
use Rattle.stream.specs.declared.Reading.{Reading}
use Rattle.stream.proofs.GoesOn.{taken_within}
use Rattle.scantext.proofs.Going.{Going, going_start, going_next, going_on_lem}
use Rattle.scanlist.specs.Calls.{Goes}

-- with a byte at hand and room for three words
pub call_goes : {s : Reader} {input was row : List ℕ} {r : Reading} → Reads s input was r row → 0 < length input → 3 ≤ length was → Goes s input r
call_goes {s} {input} {was} {row} {r} h some room =
    let here : 0 + r.taken ≡ r.taken = omega arith in
    let g : Going s input s 0 = going_start s input in
    let whole : Reads s (take (length input - 0) input) was r row = rw (take_all (length input - 0) input (omega arith)) h in
    record { some = going_on_lem g whole some room; within = taken_within h; on = λ z u. (going_next g whole).on z (rw here u) }
