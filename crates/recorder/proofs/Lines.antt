-- A buffer with room for the line of a record shows it.
use Rattle.std.proofs.Common.{◌≡◌, ℕ, ◌≤◌, List, Result, Ok, Err, length, take, refl, arith}
use Rattle.std.specs.Result.{result_unwrap_or}
use Rattle.paper.specs.declared.refusal.Refusal.{Refusal}
use Rattle.record.specs.Record.{turn_of}
use Rattle.listing.specs.Text.{line_by}
use Rattle.listing.specs.Promises.{LineGiven}
use Rattle.text.proofs.Shown.{line_shown, line_never_short}

abbrev Shown : List ℕ → List ℕ → ℕ → Type 0
Shown rec is n = (n ≤ length is) × (take n is ≡ line_by (turn_of rec))

module _ {rec was is : List ℕ} where
  shown : (r : Result ℕ Refusal) → LineGiven rec was r is → 27 ≤ length was → Shown rec is (result_unwrap_or r 0)
  shown (Ok n) g room = let s = line_shown _ (omega (arith, g.short)) g.line n refl in (s.0.0, s.1)
  shown (Err q) g room = absurd (line_never_short _ (omega (arith, g.short)) g.line refl)

  module _ {r : Result ℕ Refusal} {n : ℕ} (g : LineGiven rec was r is) (room : length was ≡ 27) (e : n ≡ result_unwrap_or r 0) where
    pub line_within : length is ≡ length was → n ≤ 27
    line_within same = let s = shown r g (omega arith) in omega (arith, s.0, e)

    pub line_told : take n is ≡ line_by (turn_of rec)
    line_told = rw e (shown r g (omega arith)).1
