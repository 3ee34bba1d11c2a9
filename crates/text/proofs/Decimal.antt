-- Decimal numbers are the digits: `decimal_told` (the digits tell the number), `decimal_digits` (each is a digit), `decimal_leads` (no zero
-- stands in front), `decimal_short` (so many digits at most), `decimal_counted` (how many).
use Prim.Native.Nat.{ℕ, zero, suc, ◌+◌, ◌-◌, ◌*◌, ◌/◌, ◌%◌, ◌^◌, ◌≤◌, ◌<◌}
use mathlib.Core.Path.{◌≡◌, refl, sym, ap, ◌∙◌}
use mathlib.Core.Logic.{inl, inr}
use mathlib.Core.List.{List, [], ◌∷◌, ◌++◌}
use native.Mathlib.Omega.{arith}
use native.Mathlib.Nat.{pow-suc, one-le-pow}
use lib.ListN.{length, get_or, length-append, get_or-append}
use Rattle.std.specs.Prelude.{max}
use borrow.Author.Tests.{lt-ltb, le-ltb}
use Rattle.std.proofs.lemmas.Bool.{cases_lt}
use Rattle.paper.specs.Words.{Each}
use Rattle.paper.proofs.Words.{each_append}
use Rattle.text.specs.Decimal.{digits, decimal, told_from}

-- ---- one digit, and one digit more

digits_one : (most n : ℕ) → n < 10 → digits (suc most) n ≡ (48 + n) ∷ []
unfolding digits
digits_one most n l = rw (lt-ltb n 10 l)

digits_more : (most n : ℕ) → 10 ≤ n → digits (suc most) n ≡ digits most (n / 10) ++ (48 + n % 10) ∷ []
unfolding digits
digits_more most n g = rw (le-ltb n 10 g)

-- enough is enough
digits_enough : (most n : ℕ) → n < most → (more : ℕ) → n < more → digits most n ≡ digits more n
digits_enough zero n l more k = absurd (omega arith)
digits_enough (suc most) n l zero k = absurd (omega arith)
digits_enough (suc most) n l (suc more) k =
    elim (cases_lt n 10) [
      | inl b ↦ digits_one most n b ∙ sym (digits_one more n b)
      | inr g ↦
          digits_more most n g
          ∙ ap (λ (ds : List ℕ). ds ++ (48 + n % 10) ∷ []) (digits_enough most (n / 10) (omega arith) more (omega arith))
          ∙ sym (digits_more more n g)
    ]

pub decimal_one : (n : ℕ) → n < 10 → decimal n ≡ (48 + n) ∷ []
unfolding decimal
decimal_one n l = digits_one n n l

pub decimal_more : (n : ℕ) → 10 ≤ n → decimal n ≡ decimal (n / 10) ++ (48 + n % 10) ∷ []
unfolding decimal
decimal_more n g =
    digits_more n n g ∙ ap (λ (ds : List ℕ). ds ++ (48 + n % 10) ∷ []) (digits_enough n (n / 10) (omega arith) (suc (n / 10)) (omega arith))

-- a law of all numbers, from those of one digit and from n / 10 to n
by_digits : (P : ℕ → Type 0) → ((n : ℕ) → n < 10 → P n) → ((n : ℕ) → 10 ≤ n → P (n / 10) → P n) → (n : ℕ) → P n
by_digits P one more n = go (suc n) n (omega arith)
  where
    go : (most n : ℕ) → n < most → P n
    go zero n l = absurd (omega arith)
    go (suc most) n l = elim (cases_lt n 10) [ inl b ↦ one n b | inr g ↦ more n g (go most (n / 10) (omega arith)) ]

-- ---- what they are

told_append : (n : ℕ) (ds es : List ℕ) → told_from n (ds ++ es) ≡ told_from (told_from n ds) es
unfolding told_from
told_append n [] es = refl
told_append n (d ∷ ds) es = told_append (n * 10 + (d - 48)) ds es

-- the digits tell the number
pub decimal_told : (n : ℕ) → told_from 0 (decimal n) ≡ n
unfolding told_from
decimal_told =
    by_digits (λ n. told_from 0 (decimal n) ≡ n)
    (λ n l. rw (decimal_one n l) (omega arith))
    (λ n g e. rw (decimal_more n g, told_append, e) (omega arith))

-- each is one of `0` to `9`
pub decimal_digits : (n : ℕ) → Each (λ (d : ℕ). (48 ≤ d) × (d ≤ 57)) (decimal n)
unfolding Each
decimal_digits =
    by_digits (λ n. Each (λ (d : ℕ). (48 ≤ d) × (d ≤ 57)) (decimal n))
    (λ n l. rw (decimal_one n l) ((omega arith, omega arith), tt))
    (λ n g e. rw (decimal_more n g) (each_append (λ (d : ℕ). (48 ≤ d) × (d ≤ 57)) (decimal (n / 10)) ((48 + n % 10) ∷ []) e ((omega arith, omega arith), tt)))

-- there is one at least
pub decimal_some : (n : ℕ) → 1 ≤ length (decimal n)
decimal_some =
    by_digits (λ n. 1 ≤ length (decimal n))
    (λ n l. rw (decimal_one n l) (omega arith))
    (λ n g e. rw (decimal_more n g, length-append) (omega arith))

-- and none in front is `0`, but of the number 0
pub decimal_leads : (n : ℕ) → 0 < n → 48 < get_or (decimal n) 0 0
decimal_leads =
    by_digits (λ n. 0 < n → 48 < get_or (decimal n) 0 0)
    (λ n l s. rw (decimal_one n l) (omega arith))
    (λ n g e s. rw (decimal_more n g, get_or-append (decimal (n / 10)) ((48 + n % 10) ∷ []) 0 0 (decimal_some (n / 10))) (e (omega arith)))

-- a number below 10 ^ k has at most k digits
pub decimal_short : (k n : ℕ) → n < 10 ^ suc k → length (decimal n) ≤ suc k
decimal_short zero n l = rw (decimal_one n (omega arith)) (omega arith)
decimal_short (suc k) n l =
    elim (cases_lt n 10) [
      | inl b ↦ rw (decimal_one n b) (omega arith)
      | inr g ↦
          let p : 10 ^ suc (suc k) ≡ 10 ^ suc k * 10 = pow-suc 10 (suc k) in
          let i : length (decimal (n / 10)) ≤ suc k = decimal_short k (n / 10) (omega arith) in
          rw (decimal_more n g, length-append) (omega arith)
    ]

-- one digit more than the largest power of ten in a number, where 0 counts as 1
pub decimal_counted : (k n : ℕ) → 10 ^ k ≤ max n 1 → max n 1 < 10 * 10 ^ k → k + 1 ≡ length (decimal n)
decimal_counted zero n g l = rw (decimal_one n (omega arith)) refl
decimal_counted (suc k) n g l =
    let p : 10 ^ suc k ≡ 10 ^ k * 10 = pow-suc 10 k in
    let some : 1 ≤ 10 ^ k = one-le-pow k 10 (omega arith) in
    let i : k + 1 ≡ length (decimal (n / 10)) = decimal_counted k (n / 10) (omega arith) (omega arith) in
    rw (decimal_more n (omega arith), length-append) (omega arith)
