-- Little-endian words over the width: `value_of_bytes` (put, then read) and `bytes_of_value` (read, then put).
use Prim.Native.Nat.{ℕ, zero, suc, ◌+◌, ◌*◌, ◌/◌, ◌%◌, ◌^◌, ◌<◌}
use mathlib.Core.Path.{◌≡◌, refl, ap}
use mathlib.Core.List.{List, [], ◌∷◌, ◌++◌}
use native.Mathlib.Omega.{arith}
use native.Mathlib.Nat.{pow-suc}
use lib.ListN.{length, get_or, take, drop}
use Rattle.paper.specs.Words.{value_of, bytes_of, Each, Bytes}

pub length-bytes : (w v : ℕ) → length (bytes_of w v) ≡ w
unfolding bytes_of
length-bytes zero v = refl
length-bytes (suc w) v = ap suc (length-bytes w (v / 256))

pub bytes_are_bytes : (w v : ℕ) → Bytes (bytes_of w v)
unfolding bytes_of Each
bytes_are_bytes zero v = tt
bytes_are_bytes (suc w) v = (omega arith, bytes_are_bytes w (v / 256))

pub value_of_bytes : (w v : ℕ) → v < 256 ^ w → value_of (bytes_of w v) ≡ v
unfolding value_of bytes_of
value_of_bytes zero v h = omega arith
value_of_bytes (suc w) v h =
    let p : 256 ^ suc w ≡ 256 ^ w * 256 = pow-suc 256 w in
    let i = value_of_bytes w (v / 256) (omega arith) in
    rw i (omega arith)

pub bytes_of_value : (xs : List ℕ) → Bytes xs → bytes_of (length xs) (value_of xs) ≡ xs
unfolding value_of bytes_of Each
bytes_of_value [] h = refl
bytes_of_value (b ∷ xs) h =
    let l = h.0 in
    let low : (b + value_of xs * 256) % 256 ≡ b = omega arith in
    let rest : (b + value_of xs * 256) / 256 ≡ value_of xs = omega arith in
    rw (low, rest, bytes_of_value xs h.1)

pub bytes_back : (w : ℕ) (xs : List ℕ) → Bytes xs → length xs ≡ w → bytes_of w (value_of xs) ≡ xs
bytes_back w xs h e = rw (← e) (bytes_of_value xs h)

-- as many bytes hold a number below so many times 256
pub value_fits : (xs : List ℕ) → Bytes xs → value_of xs < 256 ^ length xs
unfolding value_of Each
value_fits [] h = omega arith
value_fits (b ∷ xs) h =
    let p : 256 ^ suc (length xs) ≡ 256 ^ length xs * 256 = pow-suc 256 (length xs) in
    let l = h.0 in
    omega (arith, value_fits xs h.1)

pub each_append : {A : Type 0} (P : A → Type 0) (xs ys : List A) → Each P xs → Each P ys → Each P (xs ++ ys)
unfolding Each
each_append P [] ys a b = b
each_append P (x ∷ xs) ys a b = (a.0, each_append P xs ys a.1 b)

-- what stands at any place is a byte
pub byte_at : (xs : List ℕ) → Bytes xs → (i : ℕ) → get_or xs i 0 < 256
unfolding Each
byte_at [] h i = omega arith
byte_at (b ∷ xs) h zero = h.0
byte_at (b ∷ xs) h (suc i) = byte_at xs h.1 i

-- of two and of four bytes that are written out
pub two_bytes : (a b : ℕ) → a < 256 → b < 256 → bytes_of 2 (value_of (a ∷ b ∷ [])) ≡ a ∷ b ∷ []
unfolding Each
two_bytes a b ha hb = bytes_of_value (a ∷ b ∷ []) (ha, (hb, tt))

pub four_bytes : (a b c d : ℕ) → a < 256 → b < 256 → c < 256 → d < 256 → bytes_of 4 (value_of (a ∷ b ∷ c ∷ d ∷ [])) ≡ a ∷ b ∷ c ∷ d ∷ []
unfolding Each
four_bytes a b c d ha hb hc hd = bytes_of_value (a ∷ b ∷ c ∷ d ∷ []) (ha, (hb, (hc, (hd, tt))))

pub each_take : {A : Type 0} (P : A → Type 0) (n : ℕ) (xs : List A) → Each P xs → Each P (take n xs)
unfolding Each
each_take P zero xs a = tt
each_take P (suc n) [] a = tt
each_take P (suc n) (x ∷ xs) a = (a.0, each_take P n xs a.1)

pub each_drop : {A : Type 0} (P : A → Type 0) (n : ℕ) (xs : List A) → Each P xs → Each P (drop n xs)
unfolding Each
each_drop P zero xs a = a
each_drop P (suc n) [] a = tt
each_drop P (suc n) (x ∷ xs) a = each_drop P n xs a.1
