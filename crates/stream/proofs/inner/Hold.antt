-- Two parts in an array of zeros (`joined`), a part alone in one (`held_by_lem`), and counts that stay at their largest (`capped_capped`).
use mathlib.Core.Path.{◌≡◌, refl, ap, ◌∙◌}
use mathlib.Core.List.{List, [], ◌++◌}
use Prim.Native.Nat.{ℕ, ◌+◌, ◌-◌, ◌≤◌}
use native.Mathlib.Nat.{le_refl}
use native.Mathlib.Omega.{arith}
use lib.ListN.{length, take, drop, replicate, length-append}
use lib.Seq.{paste, take_at, take-length, length-take-le, take-append_seam, drop-append-add}
use Rattle.std.proofs.lemmas.List.{drop-replicate}
use Rattle.paper.specs.Promises.{put_at}
use Rattle.paper.proofs.Placing.{put_part}
use Rattle.stream.specs.declared.Phase.{Phase}
use Rattle.stream.specs.declared.Reader.{Reader}
use Rattle.stream.specs.State.{twenty, capped}
use Rattle.stream.specs.inner.Hold.{holding}
use borrow.Rule.Slice.PartMut.{put_mid}

pub capped_capped : (a b : ℕ) → capped (capped a + b) ≡ capped (a + b)
unfolding capped
capped_capped a b = omega arith

pub capped_small : (k : ℕ) → k ≤ 4294967295 → capped k ≡ k
unfolding capped
capped_small k h = omega arith

-- a second part in the place of the zeros behind a first one
pub joined : (xs ys : List ℕ) → length xs + length ys ≤ 20 → (k : ℕ) (a b : List ℕ) → k ≡ length ys → a ≡ xs → b ≡ ys
    → put_mid (length xs) k (a ++ drop (length xs) (replicate 20 0)) b ≡ twenty (xs ++ ys)
unfolding twenty put_at
joined xs ys h k a b e f g =
    let n : 20 - length xs - length ys ≡ 20 - (length xs + length ys) = omega arith in
    put_part (length xs) k ys b _ e g
    ∙ rw (f, drop-replicate, take-append_seam, drop-append-add xs (replicate (20 - length xs) 0) (length ys), drop-replicate, n, length-append)

-- ---- a part alone in an array of zeros

paste_twenty : (xs s : List ℕ) (n : ℕ) → length xs + n ≤ 20 → n ≤ length s → paste (twenty xs) (length xs) s n ≡ twenty (xs ++ take n s)
unfolding twenty
paste_twenty xs s n h k =
    let e : length (xs ++ take n s) ≡ length xs + n = length-append xs (take n s) ∙ ap (λ (i : ℕ). length xs + i) (length-take-le n s k) in
    let f : 20 - length xs - n ≡ 20 - (length xs + n) = omega arith in
    rw (take_at xs (replicate (20 - length xs) 0) (length xs) refl, drop-append-add xs (replicate (20 - length xs) 0) n, drop-replicate, e, f)

twenty_none : replicate {A = ℕ} 20 0 ≡ twenty []
unfolding twenty
twenty_none = refl

paste_none : (s : List ℕ) (n : ℕ) → n ≤ 20 → n ≤ length s → paste (replicate 20 0) 0 s n ≡ twenty (take n s)
paste_none s n h k = ap (λ (d : List ℕ). paste d 0 s n) twenty_none ∙ paste_twenty [] s n (omega arith) k

-- the reader that holds the part
pub held_by_lem : (part : List ℕ) {p : Phase} {a : List ℕ} {n k : ℕ} → a ≡ paste (replicate 20 0) 0 part (length part) → n ≡ length part → length part ≤ 20
    → ◌≡◌ {A = Reader} (record { phase = p; n = n; held = a; skipped = k }) (holding p part k)
unfolding holding
held_by_lem part {p} {a} {n} {k} c e h =
    let f : a ≡ twenty part = c ∙ paste_none part (length part) h (le_refl _) ∙ ap twenty (take-length part) in
    rw (e, f)
