-- How a writer's promise is met: `writes_all`, `writes_short`, `writes_refused`; of bytes put at a place: `put_done`, `put_short`; and what a writer
-- that wrote n bytes gave: `written_front`; how a copy goes on and ends: `copy_step`, `copy_end`; where the count stands in an answer: `written_count`.
use Prim.Native.Nat.{ℕ, ◌+◌, ◌<◌, ◌≤◌}
use mathlib.Core.Path.{◌≡◌, refl, sym, ap, ◌∙◌}
use mathlib.Core.Bool.{Bool, true, false}
use mathlib.Core.List.{List, ◌++◌, append-nil}
use native.Mathlib.Omega.{arith}
use lib.Dec.{ltb}
use lib.ListN.{length, get_or, set, take, drop, length-append, length-drop, drop_of_length-le}
use lib.Seq.{take_at, sets, sets-eq}
use borrow.Author.Tests.{lt-ltb, le-ltb, ltb-true, ltb-false}
use Rattle.std.proofs.Common.{◌≢◌, below_more, get_or-set_other, get_or-set_same}
use Rattle.std.proofs.lemmas.Grind.{same_number_lists}
use Rattle.paper.specs.Outcome.{Outcome, gives, refuses, if_given, mapped}
use Rattle.paper.specs.Refusals.{number_of, outcome}
use Rattle.std.specs.Prelude.{Result, Ok, Err}
use Rattle.paper.specs.Writing.{fitting, over, Writes}
use Rattle.paper.specs.Promises.{placing, put_at, BytesPut}
use Rattle.paper.specs.declared.refusal.Refusal.{Refusal}
use Rattle.paper.specs.declared.refusal.Refusal.TheVariants.{OutputShort}
use Rattle.paper.proofs.Outcome.{gives_one, gives_refuses, refuse_yes, refuse_no, given_as}
use Rattle.paper.proofs.Placing.{put_more, put_front}

pub fitting_yes : (xs : List ℕ) (room : ℕ) → length xs ≤ room → fitting room (gives xs) ≡ gives xs
unfolding fitting
fitting_yes xs room h = refuse_no (number_of OutputShort) (gives xs) (le-ltb room (length xs) h)

pub fitting_no : (xs : List ℕ) (room : ℕ) → room < length xs → fitting room (gives xs) ≡ refuses (number_of OutputShort)
unfolding fitting
fitting_no xs room h = refuse_yes (number_of OutputShort) (gives xs) (lt-ltb room (length xs) h)

-- all bytes are written
pub writes_all : (xs was is : List ℕ) (n : ℕ) → length xs ≤ length was → n ≡ length xs → is ≡ over was xs → Writes (gives xs) was (Ok n) is
writes_all xs was is n h c e = record {
  answer = unfold outcome mapped in (rw (fitting_yes xs (length was) h, c));
  output = unfold if_given in (rw (fitting_yes xs (length was) h) e);
}

-- the output is too short
pub writes_short : (xs was : List ℕ) → length was < length xs → Writes (gives xs) was (Err OutputShort) was
writes_short xs was h = record {
  answer = unfold outcome mapped in (rw (fitting_no xs (length was) h));
  output = unfold if_given in (rw (fitting_no xs (length was) h));
}

-- a field fault
pub writes_refused : (q : Refusal) (was : List ℕ) → Writes (refuses (number_of q)) was (Err q) was
unfolding fitting outcome mapped if_given
writes_refused q was = record { answer = refl; output = refl }

-- what is written may be said in another way
pub writes_same : {o p : Outcome (List ℕ)} {was : List ℕ} {r : Result ℕ Refusal} {is : List ℕ} → o ≡ p → Writes o was r is → Writes p was r is
writes_same e w = rw e at w

-- a writer that refuses, and one that hands other words for the same bytes on
pub writes_no : {o : Outcome (List ℕ)} {q : Refusal} {was : List ℕ} → o ≡ refuses (number_of q) → Writes o was (Err q) was
writes_no {q = q} {was = was} e = writes_same (sym e) (writes_refused q was)

pub writes_yes : {o : Outcome (List ℕ)} {xs ys was : List ℕ} {r : Result ℕ Refusal} {is : List ℕ} → o ≡ gives xs → ys ≡ xs → Writes (gives ys) was r is → Writes o was r is
writes_yes e q w = writes_same (sym (e ∙ ap gives (sym q))) w

-- stores one after the other at the front
pub stores_front : (xs was : List ℕ) → length xs ≤ length was → sets was 0 xs ≡ over was xs
unfolding over
stores_front xs was h =
    let z : 0 + length xs ≡ length xs = omega arith in
    sets-eq xs was 0 (omega arith) ∙ rw z

-- ---- a copy, number by number

pub copy_step : (from to : List ℕ) (i b : ℕ) → i < length to → ((k : ℕ) → k < i → get_or to k 0 ≡ get_or from k 0) → b ≡ get_or from i 0
    → (k : ℕ) → k < i + 1 → get_or (set to i b) k 0 ≡ get_or from k 0
copy_step from to i b l f e =
    below_more _ _ (λ k h. let other : k ≢ i = omega arith in rw get_or-set_other (f k h)) (rw get_or-set_same e)

pub copy_end : (from to : List ℕ) → length to ≡ length from → ((k : ℕ) → k < length from → get_or to k 0 ≡ get_or from k 0) → to ≡ from
copy_end from to n f = same_number_lists to from n (λ k h. f k (omega arith))

-- ---- one list behind the other

-- what a writer with room leaves
pub written_over : (xs was is : List ℕ) (r : Result ℕ Refusal) → length xs ≤ length was → Writes (gives xs) was r is → is ≡ over was xs
unfolding if_given
written_over xs was is r h w = rw (fitting_yes xs (length was) h) at w.output

-- in a part of their very length they are all that stands there
pub written_whole : (xs was is : List ℕ) (r : Result ℕ Refusal) → length was ≡ length xs → Writes (gives xs) was r is → is ≡ xs
unfolding over
written_whole xs was is r h w =
    written_over xs was is r (omega arith) w ∙ ap (λ (ys : List ℕ). xs ++ ys) (drop_of_length-le was {i = length xs} (omega arith)) ∙ append-nil xs

pub length_over : (xs was : List ℕ) → length xs ≤ length was → length (over was xs) ≡ length was
unfolding over
length_over xs was h = simp (length-append, length-drop) (omega arith)

-- the head is put, and then the tail behind it
pub both_written : (head tail was is : List ℕ) → length head + length tail ≤ length was → is ≡ put_at (length head) tail (over was head)
    → Writes (gives (head ++ tail)) was (Ok (length head + length tail)) is
both_written head tail was is h e =
    writes_all (head ++ tail) was is _ (simp length-append h) (sym (length-append head tail))
    (e ∙ ap (put_at (length head) tail) (sym (put_front head was)) ∙ put_more 0 (length head) head tail was (omega arith) h ∙ put_front (head ++ tail) was)

-- ---- bytes at a place

pub put_short : (xs : List ℕ) (place : ℕ) (was : List ℕ) → length was < place + length xs → BytesPut xs place was (Err OutputShort) was
unfolding placing outcome if_given
put_short xs place was h =
    let e = refuse_yes (number_of OutputShort) (gives tt) (lt-ltb (length was) (place + length xs) h) in
    record { answer = sym e; output = rw e }

pub put_done : (xs : List ℕ) (place : ℕ) (was is : List ℕ) → place + length xs ≤ length was → is ≡ put_at place xs was → BytesPut xs place was (Ok tt) is
unfolding placing outcome if_given
put_done xs place was is h s =
    let e = refuse_no (number_of OutputShort) (gives tt) (le-ltb (length was) (place + length xs) h) in
    record { answer = sym e; output = rw e s }

-- ---- what a writer's answer says

-- a writer of given bytes that refuses had no room for them
pub written_err : {xs was is : List ℕ} {q : Refusal} → Writes (gives xs) was (Err q) is → length was < length xs
unfolding outcome mapped
written_err {xs = xs} {was = was} {q = q} w = go (ltb (length was) (length xs)) refl
  where
    go : (t : Bool) → ltb (length was) (length xs) ≡ t → length was < length xs
    go true e = ltb-true (length was) (length xs) e
    go false e = absurd (gives_refuses (sym (w.answer ∙ ap (mapped length) (fitting_yes xs (length was) (ltb-false (length was) (length xs) e)))))

-- one that wrote n bytes had room, and wrote all
pub record All (xs was : List ℕ) (n : ℕ) : Type 0 where
  pub fits : length xs ≤ length was
  pub size : n ≡ length xs

pub written_all : {xs was is : List ℕ} {n : ℕ} → Writes (gives xs) was (Ok n) is → All xs was n
unfolding outcome mapped
written_all {xs = xs} {was = was} {n = n} w = go (ltb (length was) (length xs)) refl
  where
    go : (t : Bool) → ltb (length was) (length xs) ≡ t → All xs was n
    go true e = absurd (gives_refuses (w.answer ∙ ap (mapped length) (fitting_no xs (length was) (ltb-true (length was) (length xs) e))))
    go false e =
        let h = ltb-false (length was) (length xs) e in
        record { fits = h; size = gives_one (w.answer ∙ ap (mapped length) (fitting_yes xs (length was) h)) }

-- what stands at the front of the output, where n bytes were written
pub record Front (o : Outcome (List ℕ)) (n : ℕ) (is : List ℕ) : Type 0 where
  pub bytes : List ℕ
  pub given : o ≡ gives bytes
  pub front : take n is ≡ bytes

-- a writer that wrote n bytes gave them, and they stand at the front
pub written_front : (o : Outcome (List ℕ)) (was is : List ℕ) (n : ℕ) → Writes o was (Ok n) is → Front o n is
unfolding outcome fitting mapped if_given over
written_front (refuses m) was is n w = absurd (gives_refuses w.answer)
written_front (gives xs) was is n w = go (ltb (length was) (length xs)) refl
  where
    go : (t : Bool) → ltb (length was) (length xs) ≡ t → Front (gives xs) n is
    go true e = absurd (gives_refuses (w.answer ∙ ap (mapped length) (fitting_no xs (length was) (ltb-true (length was) (length xs) e))))
    go false e =
        let f = fitting_yes xs (length was) (ltb-false (length was) (length xs) e) in
        let size : n ≡ length xs = gives_one (w.answer ∙ ap (mapped length) f) in
        let all : is ≡ over was xs = w.output ∙ ap (λ (o : Outcome (List ℕ)). if_given o (over was) was) f in
        record { bytes = xs; given = refl; front = ap (take n) all ∙ take_at xs (drop (length xs) was) n (sym size) }

-- an answer made of the bytes written has their count
pub written_count : {A : Type 0} {o : Outcome (List ℕ)} {was is : List ℕ} {a : A} (count : A → ℕ) (f : List ℕ → A) → ((xs : List ℕ) → count (f xs) ≡ length xs)
    → gives a ≡ mapped f (fitting (length was) o) → is ≡ if_given (fitting (length was) o) (over was) was → Writes o was (Ok (count a)) is
unfolding outcome
written_count {o = o} {was = was} count f c e w = record { answer = given_as f (fitting (length was) o) count length c e; output = w }
