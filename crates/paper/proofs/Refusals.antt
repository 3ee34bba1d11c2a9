-- Two refusals with one number are the same case (`number_one`), so a Result is determined by what it means (`outcome_one`).
use Prim.Native.Nat.{ℕ, ◌-◌}
use mathlib.Core.Path.{◌≡◌, refl, sym, ap, ◌∙◌}
use mathlib.Core.List.{List, [], ◌∷◌}
use lib.ListN.{get_or}
use Rattle.paper.specs.Outcome.{Outcome, refuses}
use Rattle.std.specs.Prelude.{Result, Ok, Err}
use Rattle.paper.specs.Refusals.{number_of, outcome}
use Rattle.paper.specs.declared.refusal.Refusal.{Refusal}
use Rattle.paper.specs.declared.refusal.Refusal.TheVariants.{
  CodeNotPermitted,
  OutputShort,
  TimeEarlier,
  WaitNotOver,
  ReplyAwaited,
  NotADescriptor,
  NotAReply,
  NotASample,
  NotARecord,
  NotARing,
  HeadOver,
  NoSuchNumber,
  NoSampleSent,
}
use Rattle.paper.proofs.Outcome.{gives_one, refuses_one, gives_refuses}

-- the cases in the order of their numbers
cases : List Refusal
cases =
    CodeNotPermitted ∷ OutputShort ∷ TimeEarlier ∷ WaitNotOver ∷ ReplyAwaited ∷ NotADescriptor ∷ NotAReply ∷ NotASample ∷ NotARecord ∷ NotARing
    ∷ HeadOver ∷ NoSuchNumber ∷ NoSampleSent ∷ []

case_of : ℕ → Refusal
case_of n = get_or cases (n - 1) CodeNotPermitted

case_number : (r : Refusal) → case_of (number_of r) ≡ r
unfolding number_of case_of cases
case_number CodeNotPermitted = refl
case_number OutputShort = refl
case_number TimeEarlier = refl
case_number WaitNotOver = refl
case_number ReplyAwaited = refl
case_number NotADescriptor = refl
case_number NotAReply = refl
case_number NotASample = refl
case_number NotARecord = refl
case_number NotARing = refl
case_number HeadOver = refl
case_number NoSuchNumber = refl
case_number NoSampleSent = refl

pub number_one : (a b : Refusal) → number_of a ≡ number_of b → a ≡ b
number_one a b e = sym (case_number a) ∙ ap case_of e ∙ case_number b

-- two refusals that mean the same are the same
pub refused_one : {A : Type 0} (a b : Refusal) → ◌≡◌ {A = Outcome A} (refuses (number_of a)) (refuses (number_of b)) → a ≡ b
refused_one a b e = number_one a b (refuses_one e)

pub outcome_one : {A : Type 0} (r s : Result A Refusal) → outcome r ≡ outcome s → r ≡ s
unfolding outcome
outcome_one (Ok a) (Ok b) e = ap Ok (gives_one e)
outcome_one (Ok a) (Err b) e = absurd (gives_refuses e)
outcome_one (Err a) (Ok b) e = absurd (gives_refuses (sym e))
outcome_one (Err a) (Err b) e = ap Err (refused_one a b e)
