-- Pieces of text behind each other: `append_start` (none), `append_more` (a piece, and one behind it).
use Prim.Native.Nat.{ℕ, ◌+◌}
use mathlib.Core.Path.{◌≡◌, refl, ap, ◌∙◌}
use mathlib.Core.List.{List, [], ◌++◌, append_assoc, append-nil}
use native.Mathlib.Omega.{arith}
use lib.ListN.{length, take, drop, length-append}
use lib.Seq.{drop-drop}
use Rattle.text.specs.Appends.{Appends}

pub append_more : {was mid is xs ys : List ℕ} {from next r : ℕ} → Appends was from xs next mid → Appends mid next ys r is → Appends was from (xs ++ ys) r is
append_more {was} {mid} {is} {xs} {ys} {from} {next} p q =
    record {
      end = omega (arith, p.end, q.end, length-append xs ys);
      size = q.size ∙ p.size;
      front = q.front ∙ ap (λ (zs : List ℕ). zs ++ ys) p.front ∙ append_assoc (take from was) xs ys;
      behind = q.behind ∙ further next p.behind q.end;
    }
  where
    further : (n : ℕ) {r : ℕ} → drop n mid ≡ drop n was → r ≡ n + length ys → drop r mid ≡ drop r was
    further n e l = rw (l, ← drop-drop (length ys) n mid, ← drop-drop (length ys) n was, e)

pub append_start : (was : List ℕ) (from : ℕ) → Appends was from [] from was
append_start was from = record { end = omega arith; size = refl; front = rw append-nil; behind = refl }
