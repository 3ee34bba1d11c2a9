-- How a request's promises are met: `short_request`, `long_request`, `payload_unfit`, `payload_over` for what is written, `sum_behind` for the checksum.
use Prim.Native.Nat.{ℕ, ◌+◌, ◌<◌, ◌≤◌}
use mathlib.Core.Path.{◌≡◌, sym, ap, ◌∙◌}
use mathlib.Core.List.{List, [], ◌∷◌, ◌++◌}
use native.Mathlib.Omega.{arith}
use native.Mathlib.Numerals.{add-one}
use lib.ListN.{length, take, drop, set, get_or, length-append}
use lib.Seq.{take_at, set_at, drop-cons, append_snoc}
use borrow.Author.Tests.{lt-ltb, le-ltb}
use Rattle.paper.specs.Outcome.{gives, refuses}
use Rattle.paper.specs.Refusals.{number_of}
use Rattle.paper.specs.declared.refusal.Refusal.TheVariants.{CodeNotPermitted}
use Rattle.paper.specs.Sum.{sum_of}
use Rattle.paper.specs.Writing.{Writes, over}
use Rattle.paper.specs.declared.refusal.Refusal.{Refusal}
use Rattle.std.specs.Prelude.{Result, Ok}
use Rattle.paper.proofs.Outcome.{refuse_yes, refuse_no}
use Rattle.paper.proofs.Writing.{writes_all, written_over}
use Rattle.wire.specs.Request.{start_byte, with_sum, request_of}

module _ (code : ℕ) (payload : List ℕ) where
  pub payload_unfit : code < 0x80 → 0 < length payload → request_of code payload ≡ refuses (number_of CodeNotPermitted)
  unfolding request_of
  payload_unfit c h = rw (lt-ltb code 0x80 c) (refuse_yes (number_of CodeNotPermitted) _ (lt-ltb 0 (length payload) h))

  pub short_request : code < 0x80 → length payload ≤ 0 → request_of code payload ≡ gives (start_byte ∷ code ∷ [])
  unfolding request_of
  short_request c h = rw (lt-ltb code 0x80 c) (refuse_no (number_of CodeNotPermitted) _ (le-ltb 0 (length payload) h))

  pub payload_over : 0x80 ≤ code → 255 < length payload → request_of code payload ≡ refuses (number_of CodeNotPermitted)
  unfolding request_of
  payload_over c h = rw (le-ltb code 0x80 c) (refuse_yes (number_of CodeNotPermitted) _ (lt-ltb 255 (length payload) h))

  pub long_request : 0x80 ≤ code → length payload ≤ 255 → request_of code payload ≡ gives (with_sum (start_byte ∷ code ∷ length payload ∷ payload))
  unfolding request_of
  long_request c h = rw (le-ltb code 0x80 c) (refuse_no (number_of CodeNotPermitted) _ (le-ltb 255 (length payload) h))

-- the checksum is stored behind the bytes that it is of
pub sum_behind : (xs was mid : List ℕ) (r : Result ℕ Refusal) (n s : ℕ) → length xs ≡ n → n + 1 ≤ length was → Writes (gives xs) was r mid → s ≡ sum_of (take n mid)
    → Writes (gives (with_sum xs)) was (Ok (n + 1)) (set mid n s)
unfolding with_sum over
sum_behind xs was mid r n s l h w e =
    let m : mid ≡ xs ++ drop (length xs) was = written_over xs was mid r (omega arith) w in
    let t : take n mid ≡ xs = ap (take n) m ∙ take_at xs (drop (length xs) was) n l in
    let v : s ≡ sum_of xs = e ∙ ap sum_of t in
    let c : length (xs ++ sum_of xs ∷ []) ≡ n + 1 = length-append xs (sum_of xs ∷ []) ∙ ap (λ (k : ℕ). k + 1) l in
    let d : drop (length xs) was ≡ get_or was n 0 ∷ drop (n + 1) was = rw (l, add-one) (drop-cons was n 0 (omega arith)) in
    writes_all (xs ++ sum_of xs ∷ []) was _ _ (omega arith) (sym c)
    (ap (λ (ys : List ℕ). set ys n s) (m ∙ ap (λ (ys : List ℕ). xs ++ ys) d)
    ∙ set_at xs (get_or was n 0) (drop (n + 1) was) s n l
    ∙ rw (v, c) (sym (append_snoc xs (sum_of xs) (drop (n + 1) was))))

pub sum_long : (xs : List ℕ) {k : ℕ} → k < length xs + 1 → k < length (with_sum xs)
unfolding with_sum
sum_long xs h = simp length-append h
