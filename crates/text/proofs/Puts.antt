-- A piece that is put: `puts_appends` (with room it stands behind those before it), `puts_there` and `puts_not` (how the promise is met), `puts_size`.
use Prim.Native.Nat.{ℕ, ◌+◌, ◌≤◌, ◌<◌}
use mathlib.Core.Path.{◌≡◌, refl, sym, ap, ◌∙◌}
use mathlib.Core.Bool.{Bool, true, false}
use mathlib.Core.List.{List, ◌++◌}
use native.Mathlib.Omega.{arith}
use borrow.Author.Tests.{le-leb, lt-leb, leb-true, leb-false}
use lib.Dec.{leb}
use lib.ListN.{length, take, drop, take-append-drop, length-append, length-drop}
use lib.Seq.{take_at, drop_at, length-take-le}
use Rattle.paper.specs.Promises.{put_at}
use Rattle.text.specs.Appends.{Appends}
use Rattle.text.specs.Promises.{fits, Puts}

fits_yes : (was : List ℕ) (from : ℕ) (xs : List ℕ) → from + length xs ≤ length was → fits was from xs ≡ true
unfolding fits
fits_yes was from xs l = le-leb (from + length xs) (length was) l

fits_not : (was : List ℕ) (from : ℕ) (xs : List ℕ) → length was < from + length xs → fits was from xs ≡ false
unfolding fits
fits_not was from xs l = lt-leb (from + length xs) (length was) l

-- where there is room, what stands behind the bytes before it is put there
pub append_whole : {was is xs : List ℕ} {from r : ℕ} → Appends was from xs r is → is ≡ put_at from xs was
unfolding put_at
append_whole {was} {is} {xs} {from} {r} p =
    sym (take-append-drop r is)
    ∙ ap (λ (ys : List ℕ). ys ++ drop r is) p.front
    ∙ ap (λ (ys : List ℕ). take from was ++ xs ++ ys) (p.behind ∙ ap (λ (n : ℕ). drop n was) p.end)

pub puts_at : {was is xs : List ℕ} {from r : ℕ} → from + length xs ≤ length was → r ≡ from + length xs → is ≡ put_at from xs was → Puts was from xs r is
puts_at {was} {is} {xs} {from} l n e =
    let t = fits_yes was from xs l in
    record { next = rw t n; output = rw t e }

pub puts_there : {was is xs : List ℕ} {from r : ℕ} → from + length xs ≤ length was → Appends was from xs r is → Puts was from xs r is
puts_there l p = puts_at l p.end (append_whole p)

pub puts_not : (was : List ℕ) (from : ℕ) (xs : List ℕ) → length was < from + length xs → Puts was from xs from was
puts_not was from xs l =
    let t = fits_not was from xs l in
    record { next = rw t; output = rw t }

pub puts_appends : {was is xs : List ℕ} {from r : ℕ} → from + length xs ≤ length was → Puts was from xs r is → Appends was from xs r is
unfolding put_at
puts_appends {was} {is} {xs} {from} {r} l p =
    let t = fits_yes was from xs l in
    let next : r ≡ from + length xs = rw t at p.next in
    let out : is ≡ take from was ++ xs ++ drop (from + length xs) was = rw t at p.output in
    let head : length (take from was ++ xs) ≡ r = length-append (take from was) xs ∙ rw (length-take-le from was (omega arith)) (sym next) in
    record {
      end = next;
      size =
          ap length out
          ∙ length-append (take from was ++ xs) (drop (from + length xs) was)
          ∙ omega (arith, head, next, length-drop (from + length xs) was);
      front = ap (take r) out ∙ take_at (take from was ++ xs) (drop (from + length xs) was) r head;
      behind = ap (drop r) out ∙ drop_at (take from was ++ xs) (drop (from + length xs) was) r head ∙ ap (λ (n : ℕ). drop n was) (sym next);
    }

-- the buffer keeps its length
pub puts_size : {was is xs : List ℕ} {from r : ℕ} → Puts was from xs r is → length is ≡ length was
puts_size {was} {is} {xs} {from} p = go (leb (from + length xs) (length was)) refl
  where
    go : (t : Bool) → leb (from + length xs) (length was) ≡ t → length is ≡ length was
    go true e = (puts_appends (leb-true (from + length xs) (length was) e) p).size
    go false e = ap length (rw (fits_not was from xs (leb-false (from + length xs) (length was) e)) at p.output)

-- a piece said in another way
pub puts_is : {was is xs ys : List ℕ} {from r : ℕ} → Puts was from xs r is → xs ≡ ys → Puts was from ys r is
puts_is p e = rw e at p
