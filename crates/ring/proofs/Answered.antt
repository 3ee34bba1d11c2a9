-- What the orders of checks come to, by cases. To know: `ring_ok` (of a ring the next check decides), `ring_means` and `storing_means`
-- (what is known where nothing was refused), `turn_is` (reading a turn of a ring whose turns all read).
use Prim.Native.Nat.{ℕ, ◌+◌, ◌*◌, ◌≤◌, ◌<◌}
use mathlib.Core.Path.{◌≡◌, refl, sym, ap, ◌∙◌}
use mathlib.Core.Bool.{Bool, true, false, not}
use mathlib.Core.Logic.{◌≢◌}
use mathlib.Core.List.{List}
use lib.Dec.{leb}
use lib.ListN.{length}
use borrow.Author.Tests.{le-leb, lt-leb, leb-false, eq-eqb, ne_eqb, eqb-true, not-false}
use Rattle.std.specs.Prelude.{Ok, Err}
use Rattle.paper.specs.Outcome.{Outcome, gives, refuses, refuse_if, if_given, mapped}
use Rattle.paper.specs.Refusals.{number_of, outcome}
use Rattle.paper.specs.declared.refusal.Refusal.{Refusal}
use Rattle.paper.specs.declared.refusal.Refusal.TheVariants.{NotARecord, NotARing, HeadOver, NoSuchNumber}
use Rattle.paper.proofs.Outcome.{gives_one, refuses_one, gives_refuses, refuse_not, refuse_yes, refuse_no}
use Rattle.record.specs.Record.{reads}
use Rattle.ring.specs.Ring.{head_of, IsRing, held, turn_at}
use Rattle.ring.specs.Answers.{sized, of_ring, storing, reading}
use Rattle.ring.specs.inner.Checks.{ringing, asking}

-- ---- answers of the code

pub done_is : {o : Outcome (Unit {0})} → o ≡ gives tt → outcome (Ok tt) ≡ o
unfolding outcome
done_is e = sym e

pub refused_is : {A : Type 0} {o : Outcome A} (r : Refusal) → o ≡ refuses (number_of r) → outcome (Err r) ≡ o
unfolding outcome
refused_is r e = sym e

pub means_done : {o : Outcome (Unit {0})} → outcome (Ok tt) ≡ o → o ≡ gives tt
unfolding outcome
means_done p = sym p

pub means_refused : {A : Type 0} {o : Outcome A} (r : Refusal) → outcome (Err r) ≡ o → o ≡ refuses (number_of r)
unfolding outcome
means_refused r p = sym p

-- what is made of something given, and what stands where it is refused
pub given_yes : {A B : Type 0} {o : Outcome A} {a : A} (f : A → B) (other : B) → o ≡ gives a → if_given o f other ≡ f a
unfolding if_given
given_yes f other e = rw e

pub given_no : {A B : Type 0} {o : Outcome A} {m : ℕ} (f : A → B) (other : B) → o ≡ refuses m → if_given o f other ≡ other
unfolding if_given
given_no f other e = rw e

pub mapped-gives : {A B : Type 0} {b : B} (f : A → B) (o : Outcome A) → mapped f o ≡ gives b → (a : A) × (o ≡ gives a)
unfolding mapped
mapped-gives f (gives a) e = (a, refl)
mapped-gives f (refuses m) e = absurd (gives_refuses (sym e))

pub mapped-refuses : {A B : Type 0} {m : ℕ} (f : A → B) (o : Outcome A) → mapped f o ≡ refuses m → o ≡ refuses m
unfolding mapped
mapped-refuses f (gives a) e = absurd (gives_refuses e)
mapped-refuses f (refuses n) e = ap refuses (refuses_one e)

-- ---- what holds for every order of checks

-- what the front of an order of checks refuses, the whole order refuses
refuse_same : {A B : Type 0} (t : Bool) (n : ℕ) {m : ℕ} {o : Outcome A} {o' : Outcome B} → (o ≡ refuses m → o' ≡ refuses m)
    → refuse_if t n o ≡ refuses m → refuse_if t n o' ≡ refuses m
unfolding refuse_if
refuse_same true n f e = ap refuses (refuses_one e)
refuse_same false n f e = f e

module _ (S : ℕ) (mem : List ℕ) where
  pub size_no : {A : Type 0} (o : Outcome A) → length mem ≢ 1 + 768 * S → sized S mem o ≡ refuses (number_of NotARing)
  unfolding sized
  size_no o n = refuse_yes (number_of NotARing) o (ap not (ne_eqb (length mem) (1 + 768 * S) n))

  pub size_ok : {A : Type 0} (o : Outcome A) → length mem ≡ 1 + 768 * S → sized S mem o ≡ o
  unfolding sized
  size_ok o e = refuse_no (number_of NotARing) o (ap not (eq-eqb (length mem) (1 + 768 * S) e))

  pub ring_size : {A : Type 0} (o : Outcome A) → length mem ≢ 1 + 768 * S → of_ring S mem o ≡ refuses (number_of NotARing)
  unfolding of_ring
  ring_size o n = size_no _ n

  pub ring_head : {A : Type 0} (o : Outcome A) → length mem ≡ 1 + 768 * S → 2 * S ≤ head_of mem → of_ring S mem o ≡ refuses (number_of HeadOver)
  unfolding of_ring
  ring_head o e g = size_ok _ e ∙ refuse_yes (number_of HeadOver) o (le-leb (2 * S) (head_of mem) g)

  pub ring_ok : {A : Type 0} (o : Outcome A) → length mem ≡ 1 + 768 * S → head_of mem < 2 * S → of_ring S mem o ≡ o
  unfolding of_ring
  ring_ok o e l = size_ok _ e ∙ refuse_no (number_of HeadOver) o (lt-leb (2 * S) (head_of mem) l)

  -- what is given is given of a ring
  pub ring_means : {A : Type 0} (o : Outcome A) {a : A} → of_ring S mem o ≡ gives a
      → (length mem ≡ 1 + 768 * S) × (head_of mem < 2 * S) × (o ≡ gives a)
  unfolding of_ring sized
  ring_means o e =
      let size = refuse_not _ _ _ e in
      let head = refuse_not _ _ o size.1 in
      (eqb-true _ _ (not-false _ size.0), leb-false _ _ head.0, head.1)

  pub ring_same : {A B : Type 0} {o : Outcome A} {o' : Outcome B} {m : ℕ} → (o ≡ refuses m → o' ≡ refuses m)
      → of_ring S mem o ≡ refuses m → of_ring S mem o' ≡ refuses m
  unfolding of_ring sized
  ring_same f e = refuse_same _ _ (refuse_same _ _ f) e

  -- no ring: no order of checks goes on
  pub no_ring : {A : Type 0} (o : Outcome A) {m : ℕ} → ringing S mem ≡ refuses m → of_ring S mem o ≡ refuses m
  no_ring o e = ring_same (λ z. absurd (gives_refuses z)) e

-- ---- stores

module _ (S : ℕ) (mem rec : List ℕ) (k : ℕ) where
  pub storing_ring : {m : ℕ} → ringing S mem ≡ refuses m → storing S mem rec k ≡ refuses m
  unfolding storing
  storing_ring e = no_ring S mem _ e

  module _ (d : ringing S mem ≡ gives tt) where
    pub storing_record : reads rec ≡ false → storing S mem rec k ≡ refuses (number_of NotARecord)
    unfolding storing
    storing_record r = let w = ring_means S mem (gives tt) d in ring_ok S mem _ w.0 w.1 ∙ refuse_yes _ _ (ap not r)

    storing_on : reads rec ≡ true → storing S mem rec k ≡ refuse_if (leb 755 k) (number_of NoSuchNumber) (gives tt)
    unfolding storing
    storing_on r = let w = ring_means S mem (gives tt) d in ring_ok S mem _ w.0 w.1 ∙ refuse_no _ _ (ap not r)

    pub storing_number : reads rec ≡ true → 755 ≤ k → storing S mem rec k ≡ refuses (number_of NoSuchNumber)
    storing_number r g = storing_on r ∙ refuse_yes _ _ (le-leb 755 k g)

    pub storing_ok : reads rec ≡ true → k < 755 → storing S mem rec k ≡ gives tt
    storing_ok r l = storing_on r ∙ refuse_no _ _ (lt-leb 755 k l)

  -- where store 0 is refused, so is each
  pub storing_all : {m : ℕ} → k < 755 → storing S mem rec 0 ≡ refuses m → storing S mem rec k ≡ refuses m
  unfolding storing
  storing_all l e = ring_same S mem (refuse_same _ _ (λ z. absurd (gives_refuses (sym (refuse_no (number_of NoSuchNumber) (gives tt) refl) ∙ z)))) e

  -- where a store is made, the memory is a ring and the record reads
  pub storing_means : 2 ≤ S → S ≤ 128 → storing S mem rec k ≡ gives tt → IsRing S mem × (reads rec ≡ true) × (k < 755)
  unfolding storing
  storing_means two byte d =
      let ring = ring_means S mem _ d in
      let rest = refuse_not _ _ _ ring.2 in (
        record { two_slots = two; head_is_byte = byte; size = ring.0; head = ring.1 },
        not-false _ rest.0,
        leb-false _ _ (refuse_not _ _ _ rest.1).0,
      )

-- ---- questions

module _ (S : ℕ) (mem : List ℕ) (i : ℕ) where
  module _ (d : ringing S mem ≡ gives tt) where
    pub asking_number : held S (head_of mem) ≤ i → asking S mem i ≡ refuses (number_of NoSuchNumber)
    unfolding asking
    asking_number g =
        let w = ring_means S mem (gives tt) d in
        ring_ok S mem _ w.0 w.1 ∙ refuse_yes _ _ (le-leb (held S (head_of mem)) i g)

    pub asking_ok : i < held S (head_of mem) → asking S mem i ≡ gives tt
    unfolding asking
    asking_ok l =
        let w = ring_means S mem (gives tt) d in
        ring_ok S mem _ w.0 w.1 ∙ refuse_no _ _ (lt-leb (held S (head_of mem)) i l)

  -- there is no such turn: it is not read
  pub reading_none : {m : ℕ} → asking S mem i ≡ refuses m → reading S mem i ≡ refuses m
  unfolding asking reading
  reading_none e = ring_same S mem (refuse_same _ _ (λ z. absurd (gives_refuses z))) e

  -- there is one: it is read if it reads
  module _ (d : asking S mem i ≡ gives tt) where
    reading_on : reading S mem i ≡ refuse_if (not (reads (turn_at S mem i))) (number_of NotARecord) (gives (turn_at S mem i))
    unfolding asking reading
    reading_on =
        let ring = ring_means S mem _ d in
        ring_ok S mem _ ring.0 ring.1 ∙ refuse_no _ _ (refuse_not _ _ _ ring.2).0

    pub reading_record : reads (turn_at S mem i) ≡ false → reading S mem i ≡ refuses (number_of NotARecord)
    reading_record r = reading_on ∙ refuse_yes _ _ (ap not r)

    pub reading_ok : reads (turn_at S mem i) ≡ true → reading S mem i ≡ gives (turn_at S mem i)
    reading_ok r = reading_on ∙ refuse_no _ _ (ap not r)

  -- what is read is a turn of a ring, and reads
  pub reading_means : {t : List ℕ} → 2 ≤ S → S ≤ 128 → reading S mem i ≡ gives t
      → IsRing S mem × (i < held S (head_of mem)) × (reads (turn_at S mem i) ≡ true) × (t ≡ turn_at S mem i)
  unfolding reading
  reading_means two byte d =
      let ring = ring_means S mem _ d in
      let some = refuse_not _ _ _ ring.2 in
      let rest = refuse_not _ _ _ some.1 in (
        record { two_slots = two; head_is_byte = byte; size = ring.0; head = ring.1 },
        leb-false _ _ some.0,
        not-false _ rest.0,
        sym (gives_one rest.1),
      )
