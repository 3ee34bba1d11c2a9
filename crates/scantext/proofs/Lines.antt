-- Lines piece by piece: `hexes_more` and `hexes_long` of bytes in hex, `row_start`, `row_next` and `row_end` of a row of words.
use Prim.Native.Nat.{ℕ, ◌+◌, ◌*◌, ◌/◌, ◌%◌, ◌<◌}
use mathlib.Core.Path.{◌≡◌, refl, sym, ap, ◌∙◌}
use mathlib.Core.List.{List, [], ◌∷◌, ◌++◌, flat_map, append_assoc, append-nil}
use native.Mathlib.Omega.{arith}
use native.Mathlib.Numerals.{add-one}
use lib.ListN.{length, get_or, take, length-append}
use lib.Seq.{take-suc}
use Rattle.framing.proofs.Giving.{flat_map-append}
use Rattle.text.specs.Appends.{PieceAdded}
use Rattle.text.specs.Hex.{hex}
use Rattle.text.specs.declared.Text.{Text}
use Rattle.text.proofs.Hex.{hex_long}
use Rattle.text.proofs.Pieces.{added_none, added_more, added_is}
use Rattle.scantext.specs.Lines.{sample_line, row_lines}

-- ---- bytes in hex

pub hexes_more : (bytes : List ℕ) (i : ℕ) → i < length bytes → flat_map hex (take i bytes) ++ hex (get_or bytes i 0) ≡ flat_map hex (take (i + 1) bytes)
unfolding flat_map
hexes_more bytes i l =
    rw (add-one, take-suc bytes i 0 l, flat_map-append hex (take i bytes) (get_or bytes i 0 ∷ []), append-nil (hex (get_or bytes i 0)))

pub hexes_long : (bytes : List ℕ) → length (flat_map hex bytes) ≡ 2 * length bytes
unfolding flat_map
hexes_long [] = refl
hexes_long (b ∷ bytes) = omega (arith, length-append (hex b) (flat_map hex bytes), hex_long b, hexes_long bytes)

-- ---- a row of words

-- what is written of a row, and the words that are left of it, are all of it
pub record RowDone (was : Text) (words : List ℕ) (size : ℕ) (left : List ℕ) (is : Text) : Type 0 where
  pub three : size ≡ 3
  pub done : List ℕ
  pub put : PieceAdded was done is
  pub rest : done ++ row_lines left ≡ row_lines words

pub row_start : (was : Text) {words left : List ℕ} {size : ℕ} → size ≡ 3 → left ≡ words → RowDone was words size left was
row_start was s e = record { three = s; done = []; put = added_none was; rest = ap row_lines e }

-- the line of three words
abbrev pub line_of : List ℕ → List ℕ
line_of xs = sample_line (get_or xs 2 0 % 2) (get_or xs 2 0 / 2) (get_or xs 0 0) (get_or xs 1 0)

three_more : (xs left : List ℕ) → length xs ≡ 3 → row_lines (xs ++ left) ≡ line_of xs ++ row_lines left
unfolding row_lines
three_more [] left l = absurd (omega arith)
three_more (a ∷ []) left l = absurd (omega arith)
three_more (a ∷ d ∷ []) left l = absurd (omega arith)
three_more (a ∷ d ∷ k ∷ []) left l = refl
three_more (a ∷ d ∷ k ∷ x ∷ xs) left l = absurd (omega arith)

pub row_next : {was mid is : Text} {words left next : List ℕ} {size more : ℕ} (xs : List ℕ) → RowDone was words size left mid
    → more ≡ size → left ≡ xs ++ next → length xs ≡ size → PieceAdded mid (line_of xs) is → RowDone was words more next is
row_next {next = next} xs p m e l q =
    record {
      three = m ∙ p.three;
      done = p.done ++ line_of xs;
      put = added_more p.put q;
      rest =
          append_assoc p.done (line_of xs) (row_lines next)
          ∙ ap (λ (ys : List ℕ). p.done ++ ys) (sym (ap row_lines e ∙ three_more xs next (l ∙ p.three)))
          ∙ p.rest;
    }

few : (words : List ℕ) → length words < 3 → row_lines words ≡ []
unfolding row_lines
few [] l = refl
few (a ∷ []) l = refl
few (a ∷ d ∷ []) l = refl
few (a ∷ d ∷ k ∷ ws) l = absurd (omega arith)

pub row_end : {was is : Text} {words left : List ℕ} {size : ℕ} → RowDone was words size left is → length left < size → PieceAdded was (row_lines words) is
row_end {left = left} p l =
    let none = few left (omega (arith, l, p.three)) in
    added_is p.put (sym (append-nil p.done) ∙ ap (λ (ys : List ℕ). p.done ++ ys) (sym none) ∙ p.rest)
