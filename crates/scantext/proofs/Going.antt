-- Calls over a slice, as a loop makes them: `going_start`, `going_next` and `going_end`, and with room for three words each takes a byte (`going_on_lem`).
use Prim.Native.Nat.{ℕ, suc, ◌+◌, ◌-◌, ◌≤◌, ◌<◌}
use mathlib.Core.Path.{◌≡◌}
use mathlib.Core.List.{List, [], ◌∷◌, ◌++◌, append-nil}
use native.Mathlib.Omega.{arith}
use lib.ListN.{length, get_or, take, drop, length-drop, drop_of_length-le}
use lib.Seq.{take_all, drop-cons, drop-drop}
use Rattle.stream.specs.Promises.{Reads}
use Rattle.stream.specs.declared.Reader.{Reader}
use Rattle.stream.specs.declared.Reading.{Reading}
use Rattle.stream.proofs.GoesOn.{taken_within, call_goes_on}
use Rattle.scantext.specs.Listing.{read_text, Listed, over, reads, Lists}

-- calls from s have come to t, and `at` bytes of the input are taken: what lists the rest from there lists the whole
pub record Going (s : Reader) (input : List ℕ) (t : Reader) (at : ℕ) : Type 0 where
  pub within : at ≤ length input
  pub on : (z : Reader) → Lists t (drop at input) z → Lists s input z

pub going_start : (s : Reader) (input : List ℕ) → Going s input s 0
going_start s input = record { within = omega arith; on = λ z u. u }

-- the rest of the input, as code hands it over
rest_is : (input : List ℕ) (at : ℕ) → take (length input - at) (drop at input) ≡ drop at input
rest_is input at = take_all (length input - at) (drop at input) (omega (arith, length-drop at input))

module _ {s t : Reader} {input was row : List ℕ} {at : ℕ} {r : Reading} (p : Going s input t at)
    (h : Reads t (take (length input - at) (drop at input)) was r row) where
  call : Reads t (drop at input) was r row
  call = rw (rest_is input at) at h

  one_more : (z : Reader) → Lists r.reader (drop (at + r.taken) input) z → Lists t (drop at input) z
  unfolding Lists
  one_more z u =
      let rest : Listed r.reader (drop r.taken (drop at input) ++ []) u.0 z = rw (append-nil, drop-drop r.taken at input) u.1 in
      (read_text t.phase r row ++ u.0, rw (append-nil (drop at input)) at (reads (drop at input) was row r [] call rest))

  pub going_next : Going s input r.reader (at + r.taken)
  going_next = record { within = omega (arith, taken_within call, length-drop at input, p.within); on = λ z u. p.on z (one_more z u) }

  pub going_on_lem : at < length input → 3 ≤ length was → 1 ≤ r.taken
  going_on_lem l room =
      let c : Reads t (get_or input at 0 ∷ drop (suc at) input) was r row = rw (drop-cons input at 0 l) at call in
      call_goes_on c room

pub going_end : {s t : Reader} {input : List ℕ} {at : ℕ} → Going s input t at → length input ≤ at → Lists s input t
unfolding Lists
going_end {s} {t} {input} {at} p l =
    let none : Listed t (drop at input) [] t = rw (drop_of_length-le input {i = at} l) over in
    p.on t ([], none)
