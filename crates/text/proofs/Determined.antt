-- Two answers, and two buffers at exit, that a promise allows are equal.
use Prim.Native.Nat.{ℕ}
use mathlib.Core.Path.{◌≡◌, refl, sym, ◌∙◌}
use mathlib.Core.Bool.{Bool, true, false}
use mathlib.Core.List.{List}
use Rattle.std.specs.Prelude.{Option}
use Rattle.text.specs.declared.Text.{Text}
use Rattle.text.specs.Promises.{Puts, PiecePut, TextShown, DigitRead, StandsTold, FrontTold}

-- of every writer of a piece
pub puts_determined : {was xs : List ℕ} {from r s : ℕ} {is js : List ℕ} → Puts was from xs r is → Puts was from xs s js → (r ≡ s) × (is ≡ js)
puts_determined p q = (p.next ∙ sym q.next, p.output ∙ sym q.output)

pub piece_determined : {was is js : Text} {xs : List ℕ} → PiecePut was xs is → PiecePut was xs js → (is.end ≡ js.end) × (is.bytes.now ≡ js.bytes.now)
piece_determined p q = puts_determined p.puts q.puts

pub shown_determined : {text : Text} {r s : List ℕ} → TextShown text r → TextShown text s → r ≡ s
shown_determined p q = p.front ∙ sym q.front

pub digit_determined : {b : ℕ} {r s : Option ℕ} → DigitRead b r → DigitRead b s → r ≡ s
digit_determined p q = p.value ∙ sym q.value

pub stands_determined : {xs piece : List ℕ} {place : ℕ} {r s : Bool} → StandsTold xs place piece r → StandsTold xs place piece s → r ≡ s
stands_determined {r = true} p q = sym (q.told (p.there refl))
stands_determined {r = false} {s = true} p q = p.told (q.there refl)
stands_determined {r = false} {s = false} p q = refl

pub front_determined : {n r s : ℕ} {xs : List ℕ} → FrontTold n xs r → FrontTold n xs s → r ≡ s
front_determined p q = p.least ∙ sym q.least
