-- Which slots hold turns: the `held` slots before slot h, counted round. To know: `slot_free` (the slot that is written next holds no
-- turn), `slot_kept` and `slot_new` (where the turns are under the next head).
use Prim.Native.Nat.{ℕ, ◌+◌, ◌-◌, ◌*◌, ◌%◌, ◌≤◌, ◌<◌, min}
use mathlib.Core.Path.{◌≡◌, sym, ap, ◌∙◌}
use mathlib.Core.Logic.{◌≢◌, ◌⊎◌, inl, inr, ⊎_elim}
use native.Mathlib.Nat.{mod-eq_of_lt, mod-eq-sub-mod, mod-lt, add-mod_left}
use native.Mathlib.Omega.{arith}
use borrow.Author.Tests.{lt-ltb, le-ltb}
use Rattle.std.proofs.lemmas.Bool.{cases_lt}
use Rattle.ring.specs.Ring.{held, slot_of, next_head}

-- the remainder of a number that is below two times the divisor
pub mod_is : (S x : ℕ) → x < 2 * S → ((x < S) × (x % S ≡ x)) ⊎ ((S ≤ x) × (x % S ≡ x - S))
mod_is S x h =
    ⊎_elim
    (λ l. inl (l, mod-eq_of_lt l))
    (λ g. inr (g, mod-eq-sub-mod g ∙ mod-eq_of_lt (omega arith)))
    (cases_lt x S)

module _ (S : ℕ) (h : ℕ) (two : 2 ≤ S) (ok : h < 2 * S) where
  pub held_min : held S h ≡ min h (S - 1)
  unfolding held
  held_min = ⊎_elim (λ l. simp (lt-ltb h S l) (omega arith)) (λ g. simp (le-ltb h S g) (omega arith)) (cases_lt h S)

  pub slot_round : (i : ℕ) → i < held S h → slot_of S h i ≡ (h - held S h + i) % S
  unfolding held slot_of
  slot_round i b =
      ⊎_elim
      (λ l.
      let lo : i < h = simp (lt-ltb h S l) at b in
      let e : h - h + i ≡ i = omega arith in
      simp (lt-ltb h S l, e) (sym (mod-eq_of_lt (omega arith))))
      (λ g. simp (le-ltb h S g))
      (cases_lt h S)

  pub slot_below : (i : ℕ) → i < held S h → slot_of S h i < S
  slot_below i b = rw (slot_round i b) (mod-lt (h - held S h + i) (omega arith))

  -- no turn is in the slot that is written next
  pub slot_free : (i : ℕ) → i < held S h → slot_of S h i ≢ h % S
  slot_free i b e =
      let m : held S h ≡ min h (S - 1) = held_min in
      let x : ℕ = h - held S h + i in
      let d : x % S ≡ h % S = sym (slot_round i b) ∙ e in
      let near : (x < h) × (h < x + S) = omega arith in
      ⊎_elim
      (λ p. ⊎_elim (λ q. omega arith) (λ q. omega arith) (mod_is S h ok))
      (λ p. ⊎_elim (λ q. omega arith) (λ q. omega arith) (mod_is S h ok))
      (mod_is S x (omega arith))

  -- ---- the next head: with one turn more, or with the oldest gone and the others one place forward

  pub next_ok : next_head S h < 2 * S
  unfolding next_head
  next_ok = ⊎_elim (λ l. simp (lt-ltb (h + 1) (2 * S) l) l) (λ g. simp (le-ltb (h + 1) (2 * S) g) (omega arith)) (cases_lt (h + 1) (2 * S))

-- how many turns the next record drives out: 1 from a full ring, else 0
abbrev pub gone : ℕ → ℕ → ℕ
gone S h = held S h + 1 - (S - 1)

module _ (S : ℕ) (h : ℕ) (two : 2 ≤ S) (ok : h < 2 * S) where
  next_is : ((next_head S h ≡ h + 1) × (h + 1 < 2 * S)) ⊎ ((next_head S h ≡ S) × (h + 1 ≡ 2 * S))
  unfolding next_head
  next_is =
      ⊎_elim
      (λ l. inl (simp (lt-ltb (h + 1) (2 * S) l), l))
      (λ g. inr (simp (le-ltb (h + 1) (2 * S) g), omega arith))
      (cases_lt (h + 1) (2 * S))

  pub held_next : held S (next_head S h) + gone S h ≡ held S h + 1
  held_next =
      let m : held S h ≡ min h (S - 1) = held_min S h two ok in
      let m' : held S (next_head S h) ≡ min (next_head S h) (S - 1) = held_min S (next_head S h) two (next_ok S h two ok) in
      ⊎_elim (λ p. omega arith) (λ p. omega arith) next_is

  slot_next : (i : ℕ) → i < held S (next_head S h) → slot_of S (next_head S h) i ≡ (h - held S h + (gone S h + i)) % S
  slot_next i b =
      let m : held S h ≡ min h (S - 1) = held_min S h two ok in
      let m' : held S (next_head S h) ≡ min (next_head S h) (S - 1) = held_min S (next_head S h) two (next_ok S h two ok) in
      slot_round S (next_head S h) two (next_ok S h two ok) i b
      ∙ ⊎_elim
      (λ p. ap (λ (x : ℕ). x % S) (omega arith))
      (λ p.
      let e : next_head S h - held S (next_head S h) + i ≡ 1 + i = omega arith in
      let e' : h - held S h + (gone S h + i) ≡ S + (1 + i) = omega arith in
      rw (e, e') (sym (add-mod_left S (1 + i))))
      next_is

  pub slot_kept : (i : ℕ) → i < held S (next_head S h) → gone S h + i < held S h → slot_of S (next_head S h) i ≡ slot_of S h (gone S h + i)
  slot_kept i b c = slot_next i b ∙ sym (slot_round S h two ok (gone S h + i) c)

  pub slot_new : (i : ℕ) → i < held S (next_head S h) → held S h ≤ gone S h + i → slot_of S (next_head S h) i ≡ h % S
  slot_new i b c =
      let m : held S h ≡ min h (S - 1) = held_min S h two ok in
      let n : held S (next_head S h) + gone S h ≡ held S h + 1 = held_next in
      slot_next i b ∙ ap (λ (x : ℕ). x % S) (omega arith)
