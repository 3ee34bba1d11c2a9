-- Texts taken apart, for the code of `part`: what `stands` answers, by the rest of the text from the place on.
use Prim.Native.Nat.{ℕ, ◌-◌, ◌<◌, ◌≤◌}
use mathlib.Core.Path.{◌≡◌, sym, ap, ◌∙◌}
use mathlib.Core.Bool.{Bool, false}
use mathlib.Core.List.{List}
use mathlib.Core.Logic.{inl, inr}
use native.Mathlib.Omega.{arith}
use denote.Ref.{Bor}
use lib.ListN.{length, take, drop, length-drop}
use lib.Seq.{take_all}
use Rattle.std.specs.Prelude.{Option, Some, None, MatchOption, nat_eq}
use Rattle.std.specs.List.{starts_with}
use Rattle.std.specs.Slice.{IsGetRangeResult}
use Rattle.std.proofs.lemmas.Bool.Decides.{Decides-eqb}
use Rattle.std.proofs.lemmas.Slice.Eq.{slice_eq-Decides}
use Rattle.text.specs.Promises.{StandsTold}

module _ (xs : List ℕ) (place : ℕ) (piece : List ℕ) where
  stands_beyond : length xs < place → StandsTold xs place piece false
  stands_beyond l = record { there = λ e. cc; told = λ s. absurd (omega (arith, s.0)) }

  stands_in : (r : Bool) (rest : List ℕ) → place ≤ length xs → rest ≡ drop place xs → r ≡ starts_with nat_eq rest piece → StandsTold xs place piece r
  stands_in r rest l e s =
      let d = slice_eq-Decides Decides-eqb piece (take (length piece) rest) r s in
      record { there = λ t. (l, sym (d.0 t ∙ ap (take (length piece)) e)); told = λ t. d.1 (sym t.1 ∙ ap (take (length piece)) (sym e)) }

  pub stands_told : (r : Bool) (got : Option (Bor (List ℕ))) → IsGetRangeResult xs place (length xs) got
      → MatchOption got (r ≡ false) (λ rest. r ≡ starts_with nat_eq rest.now piece) → StandsTold xs place piece r
  stands_told r None (inl l, _) e = rw e (stands_beyond l)
  stands_told r None (inr l, _) e = absurd (omega arith)
  stands_told r (Some rest) ((l, _, e, _), _) s = stands_in r rest.now l (e ∙ take_all (length xs - place) (drop place xs) (omega (arith, length-drop place xs))) s
