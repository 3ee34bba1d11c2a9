-- Bytes put at a place, one part behind the other: `put_more` joins two parts, `put_fits` is a word's part, `put_front` ends at the front of an output.
use Prim.Native.Nat.{ℕ, suc, ◌+◌, ◌<◌, ◌≤◌}
use mathlib.Core.Path.{◌≡◌, sym, ap, ◌∙◌}
use mathlib.Core.List.{List, [], ◌∷◌, ◌++◌, append_assoc, append-nil}
use native.Mathlib.Omega.{arith}
use lib.ListN.{length, take, drop, set, length-append, length-drop, take-append-drop}
use lib.Seq.{length-take-le, take_at, drop_at, drop-drop, set_split, append_snoc}
use borrow.Rule.Slice.PartMut.{put_mid}
use borrow.Author.Tests.{le-ltb}
use Rattle.paper.specs.Outcome.{gives, if_given}
use Rattle.paper.specs.Refusals.{number_of}
use Rattle.paper.specs.Writing.{over}
use Rattle.paper.specs.Promises.{placing, put_at, BytesPut}
use Rattle.paper.specs.declared.refusal.Refusal.TheVariants.{OutputShort}
use Rattle.paper.specs.declared.refusal.Refusal.{Refusal}
use Rattle.std.specs.Prelude.{Result}
use Rattle.paper.proofs.Outcome.{refuse_no}

-- the part up to the end of the bytes put
put_long : (p : ℕ) (xs was : List ℕ) → p ≤ length was → length (take p was ++ xs) ≡ p + length xs
put_long p xs was h = length-append (take p was) xs ∙ ap (λ (n : ℕ). n + length xs) (length-take-le p was h)

pub put_length : (p : ℕ) (xs was : List ℕ) → p + length xs ≤ length was → length (put_at p xs was) ≡ length was
unfolding put_at
put_length p xs was h =
    length-append (take p was ++ xs) (drop (p + length xs) was)
    ∙ omega (arith, put_long p xs was (omega arith), length-drop (p + length xs) was)

pub put_none : (p : ℕ) (was : List ℕ) → put_at p [] was ≡ was
unfolding put_at
put_none p was =
    let z : p + 0 ≡ p = omega arith in
    simp (append-nil, z, take-append-drop)

-- ys right behind xs
pub put_more : (p q : ℕ) (xs ys was : List ℕ) → q ≡ p + length xs → q + length ys ≤ length was → put_at q ys (put_at p xs was) ≡ put_at p (xs ++ ys) was
unfolding put_at
put_more p q xs ys was e h =
    let l : length (take p was ++ xs) ≡ q = put_long p xs was (omega arith) ∙ sym e in
    let n : p + length xs + length ys ≡ p + length (xs ++ ys) = omega (arith, length-append xs ys) in
    let front : take q (take p was ++ xs ++ drop (p + length xs) was) ≡ take p was ++ xs = take_at (take p was ++ xs) _ q l in
    let back : drop (q + length ys) (take p was ++ xs ++ drop (p + length xs) was) ≡ drop (p + length (xs ++ ys)) was =
    sym (drop-drop (length ys) q (take p was ++ xs ++ drop (p + length xs) was)) ∙ ap (drop (length ys)) (drop_at (take p was ++ xs) (drop (p + length xs) was) q l) ∙ drop-drop (length ys) (p + length xs) was
    ∙ ap (λ (k : ℕ). drop k was) n in
    rw (front, back, append_assoc (take p was) xs ys)

pub put_one : (k b : ℕ) (was : List ℕ) → k < length was → set was k b ≡ put_at k (b ∷ []) was
unfolding put_at
put_one k b was h =
    let n : k + 1 ≡ suc k = omega arith in
    set_split was k b h ∙ rw (append_snoc (take k was) b, n)

-- bytes put at the front are written over it
pub put_front : (xs was : List ℕ) → put_at 0 xs was ≡ over was xs
unfolding put_at over
put_front xs was = let z : 0 + length xs ≡ length xs = omega arith in rw z

-- bytes that fit at a place stand there
pub put_fits : (xs : List ℕ) (p : ℕ) (was is : List ℕ) (r : Result (Unit {0}) Refusal) → p + length xs ≤ length was → BytesPut xs p was r is → is ≡ put_at p xs was
unfolding placing if_given
put_fits xs p was is r h e =
    e.output ∙ ap (λ o. if_given o (λ _. put_at p xs was) was) (refuse_no (number_of OutputShort) (gives tt) (le-ltb (length was) (p + length xs) h))

-- a part of the output that is written whole
pub put_part : (p k : ℕ) (xs ys was : List ℕ) → k ≡ length xs → ys ≡ xs → put_mid p k was ys ≡ put_at p xs was
unfolding put_at
put_part p k xs ys was e f =
    rw (f, e)
    (sym (append_assoc (take p was) xs (drop (length xs) (drop p was))) ∙ ap (λ (zs : List ℕ). take p was ++ xs ++ zs) (drop-drop (length xs) p was))
