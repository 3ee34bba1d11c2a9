-- How the promises of the single replies are met: `info_no`, `info_yes`, `health_no`, `health_yes`, and which checks decide.
use Prim.Native.Nat.{ℕ, ◌<◌, ◌≤◌}
use mathlib.Core.Path.{◌≡◌, sym, ap, ◌∙◌}
use mathlib.Core.Bool.{true, false, not}
use mathlib.Core.List.{List, [], ◌∷◌}
use lib.ListN.{length, get_or, drop}
use borrow.Author.Tests.{lt-ltb, le-ltb, le-leb, lt-leb, eq-eqb, ne_eqb}
use Rattle.paper.specs.Outcome.{gives, refuses}
use Rattle.paper.specs.Refusals.{number_of, outcome}
use Rattle.std.specs.Prelude.{Ok, Err}
use Rattle.paper.specs.Words.{value_of, bytes_of}
use Rattle.paper.specs.declared.refusal.Refusal.TheVariants.{NotAReply}
use Rattle.paper.proofs.Outcome.{refuse_yes, refuse_no}
use Rattle.wire.specs.Reply.{info_in, info_of, error_status, is_health, health_in, health_of, bytes_of_health}
use Rattle.wire.specs.Promises.{InfoIsRead, HealthIsRead}
use Rattle.wire.specs.declared.reply.Info.{Info}
use Rattle.wire.specs.declared.reply.Health.{Health}

pub info_no : (xs : List ℕ) → (length xs ≡ 20 → ⊥) → InfoIsRead xs (Err NotAReply)
unfolding outcome info_of
info_no xs n = record { answer = sym (refuse_yes (number_of NotAReply) (gives (info_in xs)) (ap not (ne_eqb (length xs) 20 n))) }

pub info_yes : (xs : List ℕ) (i : Info) → length xs ≡ 20 → i ≡ info_in xs → InfoIsRead xs (Ok i)
unfolding outcome info_of
info_yes xs i h q = record { answer = ap gives q ∙ sym (refuse_no (number_of NotAReply) (gives (info_in xs)) (ap not (eq-eqb (length xs) 20 h))) }

pub health_no : (xs : List ℕ) → is_health xs ≡ false → HealthIsRead xs (Err NotAReply)
unfolding outcome health_of
health_no xs e = record { answer = sym (refuse_yes (number_of NotAReply) (gives (health_in xs)) (ap not e)) }

pub health_yes : (xs : List ℕ) (h : Health) → is_health xs ≡ true → h ≡ health_in xs → HealthIsRead xs (Ok h)
unfolding outcome health_of
health_yes xs h e q = record { answer = ap gives q ∙ sym (refuse_no (number_of NotAReply) (gives (health_in xs)) (ap not e)) }

module _ (xs : List ℕ) where
  pub not_three : (length xs ≡ 3 → ⊥) → is_health xs ≡ false
  unfolding is_health
  not_three n = simp (ne_eqb _ _ n)

  module _ (three : length xs ≡ 3) where
    pub status_over : error_status < get_or xs 0 0 → is_health xs ≡ false
    unfolding is_health
    status_over h = simp (eq-eqb _ _ three, lt-leb _ _ h)

    pub status_fit : get_or xs 0 0 ≤ error_status → is_health xs ≡ true
    unfolding is_health
    status_fit h = simp (eq-eqb _ _ three, le-leb _ _ h)

  pub its_values : (w : ℕ) → w ≡ value_of (get_or xs 1 0 ∷ get_or xs 2 0 ∷ []) → ◌≡◌ {A = Health} (record { status = get_or xs 0 0; error = w }) (health_in xs)
  unfolding health_in
  its_values w e = rw e

module _ (h : Health) where
  pub health_unfit : error_status < h.status → bytes_of_health h ≡ refuses (number_of NotAReply)
  unfolding bytes_of_health
  health_unfit l = refuse_yes (number_of NotAReply) _ (lt-ltb _ _ l)

  pub health_fit : h.status ≤ error_status → bytes_of_health h ≡ gives (h.status ∷ bytes_of 2 h.error)
  unfolding bytes_of_health
  health_fit l = refuse_no (number_of NotAReply) _ (le-ltb _ _ l)

-- what the writer puts
pub status_and_code : (status v : ℕ) {w : List ℕ} → w ≡ bytes_of 2 v → status ∷ get_or w 0 0 ∷ get_or w 1 0 ∷ [] ≡ status ∷ bytes_of 2 v
unfolding bytes_of
status_and_code status v e = rw e

pub its_info : (xs serial : List ℕ) → serial ≡ drop 4 xs
    → ◌≡◌ {A = Info} (record { model = get_or xs 0 0; minor = get_or xs 1 0; major = get_or xs 2 0; hardware = get_or xs 3 0; serial = serial }) (info_in xs)
unfolding info_in
its_info xs serial e = rw e
