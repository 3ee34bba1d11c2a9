-- Laws of outcomes. The ones to know: `gives_one` and `refuses_one` (a constructor's value is determined), `refuse_not` (what was not refused),
-- `mapped_given` (what a value made of what is given was made of).
use Prim.Native.Nat.{ℕ}
use mathlib.Core.Path.{◌≡◌, refl, sym, ap, ◌∙◌}
use mathlib.Core.Bool.{Bool, true, false}
use native.Mathlib.Omega.{arith}
use Rattle.paper.specs.Outcome.{Outcome, gives, refuses, refuse_if, if_given, mapped}

pub gives_one : {A : Type 0} {a b : A} → gives a ≡ gives b → a ≡ b
gives_one e = cc

pub refuses_one : {A : Type 0} {m n : ℕ} → ◌≡◌ {A = Outcome A} (refuses m) (refuses n) → m ≡ n
refuses_one e = cc

pub gives_refuses : {A : Type 0} {a : A} {n : ℕ} → gives a ≡ refuses n → ⊥
gives_refuses e = let z : ◌≡◌ {A = ℕ} 0 1 = cc in omega arith

-- where a check does not give its refusal, the next thing decides
pub refuse_not : {A : Type 0} (t : Bool) (n : ℕ) (o : Outcome A) {a : A} → refuse_if t n o ≡ gives a → (t ≡ false) × (o ≡ gives a)
unfolding refuse_if
refuse_not true n o e = let z : ◌≡◌ {A = ℕ} 0 1 = cc in absurd (omega arith)
refuse_not false n o e = (refl, e)

-- a check that holds gives its refusal, and one that does not hold gives the next thing
pub refuse_yes : {A : Type 0} {t : Bool} (n : ℕ) (o : Outcome A) → t ≡ true → refuse_if t n o ≡ refuses n
unfolding refuse_if
refuse_yes n o e = rw e

pub refuse_no : {A : Type 0} {t : Bool} (n : ℕ) (o : Outcome A) → t ≡ false → refuse_if t n o ≡ o
unfolding refuse_if
refuse_no n o e = rw e

-- what a value made of what is given says of a choice by it
pub refused_other : {A B C : Type 0} (f : A → C) (o : Outcome A) (g : A → B) (other : B) {n : ℕ} → refuses n ≡ mapped f o → other ≡ if_given o g other
unfolding mapped if_given
refused_other f (gives a) g other e = absurd (gives_refuses (sym e))
refused_other f (refuses n) g other e = refl

pub given_one : {A B C : Type 0} (f : A → C) (o : Outcome A) (b other : B) {n : C} → gives n ≡ mapped f o → b ≡ if_given o (λ _. b) other
unfolding mapped if_given
given_one f (gives a) b other e = refl
given_one f (refuses n) b other e = absurd (gives_refuses e)

-- a value made of what is given is made of a value given
pub mapped_given : {A C : Type 0} (f : A → C) (o : Outcome A) {c : C} → gives c ≡ mapped f o → (a : A) × ((o ≡ gives a) × (c ≡ f a))
unfolding mapped
mapped_given f (gives a) e = (a, (refl, gives_one e))
mapped_given f (refuses n) e = absurd (gives_refuses e)

-- what is refused stays refused, whatever else would be given
pub refused_as : {A B C : Type 0} {n : ℕ} (f : A → B) (o : Outcome A) (g : A → C) → ◌≡◌ {A = Outcome B} (refuses n) (mapped f o) → ◌≡◌ {A = Outcome C} (refuses n) (mapped g o)
unfolding mapped
refused_as f (gives a) g e = absurd (gives_refuses (sym e))
refused_as f (refuses m) g e = cc

-- what is given may be changed on both sides
pub given_as : {A B C : Type 0} {b : B} (f : A → B) (o : Outcome A) (g : B → C) (h : A → C) → ((a : A) → g (f a) ≡ h a) → gives b ≡ mapped f o → gives (g b) ≡ mapped h o
unfolding mapped
given_as f (gives a) g h k e = ap gives (ap g (gives_one e) ∙ k a)
given_as f (refuses m) g h k e = absurd (gives_refuses e)
