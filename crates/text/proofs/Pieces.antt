-- Pieces of a text, one behind another: `added_first`, `added_then` and `added_more` (what pieces add, with no word on room), `added_put` (they are one
-- piece), `added_shown` (they are the text), `added_left` (they stand in the buffer afterwards).
use Prim.Native.Nat.{ℕ, ◌+◌, ◌-◌, ◌/◌, ◌%◌, ◌≤◌, ◌<◌}
use mathlib.Core.Path.{◌≡◌, refl, sym, ◌∙◌}
use mathlib.Core.List.{List, [], ◌∷◌, ◌++◌}
use native.Mathlib.Omega.{arith}
use lib.ListN.{length, take, length-append}
use borrow.Rule.Slice.Mut.{set_vals}
use borrow.Rule.Slice.PartMut.{put_mid}
use Rattle.paper.proofs.Placing.{put_part}
use Rattle.text.specs.Decimal.{decimal}
use Rattle.text.specs.Appends.{Appends, PieceAdded}
use Rattle.text.specs.Promises.{PiecePut, TextShown}
use Rattle.text.specs.declared.Text.{Text}
use Rattle.text.proofs.Decimal.{decimal_more}
use Rattle.text.proofs.Appends.{append_start, append_more}
use Rattle.text.proofs.Puts.{puts_appends, puts_there, puts_at, puts_not, puts_is}

-- a piece that is copied where it has room
pub piece_there : (was : Text) (xs ys : List ℕ) {e : ℕ} → was.end + length xs ≤ length was.bytes.now → e ≡ was.end + length xs → ys ≡ xs
    → PiecePut was xs (record { bytes = set_vals (put_mid was.end (e - was.end) was.bytes.now ys) was.bytes; end = e })
piece_there was xs ys {e} l h c =
    record { same = refl; puts = puts_at l h (put_part was.end (e - was.end) xs ys was.bytes.now (omega arith) c) }

-- a piece that has no room
pub piece_not : (was : Text) (xs : List ℕ) → length was.bytes.now < was.end + length xs → PiecePut was xs was
piece_not was xs l = record { same = refl; puts = puts_not _ _ _ l }

-- a piece said in another way
pub piece_is : {was is : Text} {xs ys : List ℕ} → PiecePut was xs is → xs ≡ ys → PiecePut was ys is
piece_is p e = record { same = p.same; puts = puts_is p.puts e }

pub added_is : {was is : Text} {xs ys : List ℕ} → PieceAdded was xs is → xs ≡ ys → PieceAdded was ys is
added_is p e = rw e at p

-- no piece
pub added_none : (was : Text) → PieceAdded was [] was
added_none was = record { same = refl; adds = λ l. append_start was.bytes.now was.end }

-- the first piece, what is added behind others, and one piece behind others
pub added_first : {was is : Text} {xs : List ℕ} → PiecePut was xs is → PieceAdded was xs is
added_first p = record { same = p.same; adds = λ l. puts_appends l p.puts }

pub added_more : {was mid is : Text} {xs ys : List ℕ} → PieceAdded was xs mid → PieceAdded mid ys is → PieceAdded was (xs ++ ys) is
added_more {xs = xs} {ys = ys} p q = record {
  same = q.same ∙ p.same;
  adds = λ l.
      let n = length-append xs ys in
      let before = p.adds (omega arith) in
      append_more before (q.adds (omega (arith, before.end, before.size)));
}

pub added_then : {was mid is : Text} {xs ys : List ℕ} → PieceAdded was xs mid → PiecePut mid ys is → PieceAdded was (xs ++ ys) is
added_then p q = added_more p (added_first q)

-- what is added where all of it has room is one piece
pub added_put : {was is : Text} {xs : List ℕ} → was.end + length xs ≤ length was.bytes.now → PieceAdded was xs is → PiecePut was xs is
added_put l p = record { same = p.same; puts = puts_there l (p.adds l) }

-- what is added from the front of a buffer on is the text
pub added_shown : {was is : Text} {xs ys : List ℕ} → PieceAdded was xs is → was.end ≡ 0 → length xs ≤ length was.bytes.now → TextShown is ys → ys ≡ xs
added_shown {was} {xs = xs} p z l t =
    let none : take was.end was.bytes.now ++ xs ≡ xs = rw z in
    t.front ∙ (p.adds (omega arith)).front ∙ none

-- what is left in the buffer when the text is done with it
pub added_left : {was is : Text} {xs out : List ℕ} → PieceAdded was xs is → was.end + length xs ≤ length was.bytes.now → out ≡ is.bytes.now
    → Appends was.bytes.now was.end xs is.end out
added_left p l e = rw e (p.adds l)

-- a number of more than one digit
pub number_more : {was mid is : Text} (n : ℕ) → 10 ≤ n → PieceAdded was (decimal (n / 10)) mid → PiecePut mid ((48 + n % 10) ∷ []) is → PieceAdded was (decimal n) is
number_more n g p q = added_is (added_then p q) (sym (decimal_more n g))
