-- Laws of lists: a part of a memory after one store (`part_after`, `part_before`, `part_pasted`), and the last n of a list (`last_last`).
use Prim.Native.Nat.{ℕ, ◌+◌, ◌-◌, ◌≤◌, ◌<◌}
use mathlib.Core.Path.{◌≡◌, sym, ap, ◌∙◌}
use mathlib.Core.List.{List, ◌++◌, append_assoc}
use native.Mathlib.Nat.{sub-eq-zero_of_le}
use native.Mathlib.Omega.{arith}
use lib.ListN.{length, take, drop, set, length-append, length-drop}
use lib.Seq.{drop-set-lt, drop-set-add, take-set-le, take_at, drop_at, paste, length-take-le, take_all, drop-append-le, drop-drop}
use Rattle.ring.specs.History.{last}

-- ---- the n bytes at `at`, after a store elsewhere

pub part_after : (n at : ℕ) (mem : List ℕ) (i v : ℕ) → i < at → take n (drop at (set mem i v)) ≡ take n (drop at mem)
part_after n at mem i v h = rw drop-set-lt

pub part_before : (n at : ℕ) (mem : List ℕ) (i v : ℕ) → at + n ≤ i → take n (drop at (set mem i v)) ≡ take n (drop at mem)
part_before n at mem i v h =
    let e : at + (i - at) ≡ i = omega arith in
    let k : n ≤ i - at = omega arith in
    ap (λ (j : ℕ). take n (drop at (set mem j v))) (sym e) ∙ rw (drop-set-add, take-set-le)

-- the n bytes at `at`, once n bytes were pasted there
pub part_pasted : (n at : ℕ) (mem rec : List ℕ) → length rec ≡ n → at + n ≤ length mem → take n (drop at (paste mem at rec n)) ≡ rec
part_pasted n at mem rec e h =
    let a : at ≤ length mem = omega arith in
    let l : length rec ≤ n = omega arith in
    rw (append_assoc, drop_at (take at mem) (take n rec ++ drop (at + n) mem) at (length-take-le at mem a), take_all n rec l, take_at rec (drop (at + n) mem) n e)

-- ---- the last n of a list

module _ {A : Type 0} where
  pub last_all : (n : ℕ) (l : List A) → length l ≤ n → last n l ≡ l
  unfolding last
  last_all n l h = rw sub-eq-zero_of_le

  pub last_last : (n : ℕ) (l k : List A) → last n (last n l ++ k) ≡ last n (l ++ k)
  unfolding last
  last_last n l k =
      let j : ℕ = length l - n in
      let h : j ≤ length l = omega arith in
      let e : drop j l ++ k ≡ drop j (l ++ k) = sym (drop-append-le j l k h) in
      let m : j + (length (drop j l ++ k) - n) ≡ length (l ++ k) - n = simp (length-append, length-drop) (omega arith) in
      ap (λ (r : List A). drop (length (drop j l ++ k) - n) r) e
      ∙ drop-drop (length (drop j l ++ k) - n) j (l ++ k)
      ∙ ap (λ (i : ℕ). drop i (l ++ k)) m
