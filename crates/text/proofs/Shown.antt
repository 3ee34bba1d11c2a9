-- What a caller whose output has room for a text knows: it is never too short (`line_never_short`), and the bytes written are the text (`line_shown`).
use Prim.Native.Nat.{ℕ, ◌≤◌}
use mathlib.Core.Path.{◌≡◌, refl, sym, ap, ◌∙◌}
use mathlib.Core.List.{List}
use native.Mathlib.Omega.{arith}
use lib.ListN.{length, take}
use lib.Seq.{length-take-le, take_at}
use Rattle.paper.specs.Outcome.{gives, mapped}
use Rattle.paper.specs.Refusals.{outcome}
use Rattle.paper.specs.Writing.{over, Writes}
use Rattle.paper.specs.declared.refusal.Refusal.{Refusal}
use Rattle.std.specs.Prelude.{Result, Ok, Err}
use Rattle.paper.proofs.Refusals.{outcome_one}
use Rattle.paper.proofs.Writing.{fitting_yes, length_over, written_over}

-- n bytes of an output are written, and they are xs
abbrev pub Shows : List ℕ → ℕ → List ℕ → Type 0
Shows xs n is = ((n ≤ length is) × (n ≡ length (take n is))) × (take n is ≡ xs)

module _ (xs : List ℕ) {was is : List ℕ} {r : Result ℕ Refusal} (room : length xs ≤ length was) (w : Writes (gives xs) was r is) where
  all_written : r ≡ Ok (length xs)
  all_written = outcome_one r (Ok (length xs)) (w.answer ∙ ap (mapped length) (fitting_yes xs (length was) room) ∙ unfold mapped outcome in refl)

  pub line_never_short : {q : Refusal} → r ≡ Err q → ⊥
  line_never_short e =
      let z : ◌≡◌ {A = ℕ} 0 1 = cc all_written in
      omega arith

  pub line_shown : (n : ℕ) → r ≡ Ok n → Shows xs n is
  unfolding over
  line_shown n e =
      let count : n ≡ length xs = cc all_written in
      let all : is ≡ over was xs = written_over xs was is r room w in
      let size : length is ≡ length was = ap length all ∙ length_over xs was room in
      let long : n ≤ length is = omega (arith, count, size) in
      ((long, sym (length-take-le n is long)), ap (take n) all ∙ take_at xs _ n (sym count))
