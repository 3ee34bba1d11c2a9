-- A store of a ring as one byte and its place: `made_done` and `made_refused`; and what it leaves in the memory: `stored_is`, `stores_on`.
use Rattle.std.proofs.Common.{◌≡◌, ℕ, ◌+◌, ◌*◌, ◌%◌, ◌<◌, ◌≤◌, List, Ok, Err, length, get_or, sym, refl, ap, ◌∙◌, ⊎_elim, add-one, arith, get_or-set_same, le-ltb, lt-ltb}
use lib.ListN.{get_or-eq_default}
use Rattle.paper.specs.Outcome.{gives, mapped}
use Rattle.paper.specs.Refusals.{outcome}
use Rattle.paper.specs.declared.refusal.Refusal.{Refusal}
use Rattle.ring.specs.Ring.{slots, head_of, IsRing, touched, put, store, stores}
use Rattle.ring.specs.Answers.{storing}
use Rattle.ring.specs.Promises.{StoreGiven}
use Rattle.std.proofs.lemmas.Bool.{cases_lt}
use Rattle.ring.proofs.Answered.{means_done, means_refused, storing_means, given_yes, mapped-gives}
use Rattle.recorder.specs.Store.{StoreMade}
use Rattle.recorder.specs.declared.store.Stored.{Stored}

pub head_none : (mem : List ℕ) → length mem ≡ 0 → 0 ≡ head_of mem
head_none mem e = sym (get_or-eq_default mem 0 (omega arith))

pub place_head : (mem : List ℕ) (k : ℕ) → 754 ≤ k → 0 ≡ touched slots mem k
unfolding touched
place_head mem k g = rw (le-ltb k 754 g)

pub place_byte : (mem : List ℕ) (k h : ℕ) → k < 754 → h ≡ head_of mem → 1 + 768 * (h % 64) + k ≡ touched slots mem k
unfolding touched
place_byte mem k h l e = rw (lt-ltb k 754 l, e)

-- the place is within the memory
place_within : (mem : List ℕ) (k : ℕ) → IsRing slots mem → touched slots mem k < length mem
place_within mem k v =
    ⊎_elim
    (λ l. omega (arith, place_byte mem k (head_of mem) l refl, v.size))
    (λ g. omega (arith, place_head mem k g, v.size))
    (cases_lt k 754)

module _ {was rec is : List ℕ} {k : ℕ} (p : StoreGiven slots was rec k (Ok tt) is) where
  done : storing slots was rec k ≡ gives tt
  done = means_done p.answer

  made : is ≡ store slots was rec k
  made = p.memory ∙ given_yes (λ _. store slots was rec k) was done

  module _ (at : ℕ) (e : at ≡ touched slots was k) where
    within : at < length was
    within = omega (arith, e, place_within was k (storing_means slots was rec k (omega arith) (omega arith) done).0)

    pub stored_within : length is ≡ length was → at < length is
    stored_within same = omega (arith, within)

    stored_byte : get_or is at 0 ≡ put slots was rec k
    unfolding store
    stored_byte = ap (λ (m : List ℕ). get_or m at 0) made ∙ rw (← e) (get_or-set_same was at (put slots was rec k) 0 within)

    pub made_done : StoreMade slots was rec k (Ok (record { place = at; byte = get_or is at 0 })) is
    unfolding outcome mapped
    made_done = record {
      answer = rw (done, stored_byte, e);
      memory = p.memory;
    }

pub made_refused : {was rec is : List ℕ} {k : ℕ} (r : Refusal) → StoreGiven slots was rec k (Err r) is → StoreMade slots was rec k (Err r) is
unfolding outcome mapped
made_refused r p = record {
  answer = rw (means_refused r p.answer);
  memory = p.memory;
}

-- a byte was answered: the store is made
pub stored_is : {was rec is : List ℕ} {k : ℕ} {s : Stored} → StoreMade slots was rec k (Ok s) is → is ≡ store slots was rec k
stored_is {was} {rec} {is} {k} {s} m =
    let g : outcome (Ok s) ≡ gives s = unfold outcome in refl in
    let w = mapped-gives _ (storing slots was rec k) (sym m.answer ∙ g) in
    m.memory ∙ given_yes (λ _. store slots was rec k) was w.1

-- one store more
pub stores_on : (was rec : List ℕ) (k : ℕ) {mid is : List ℕ} → mid ≡ stores slots was rec k → is ≡ store slots mid rec k → is ≡ stores slots was rec (k + 1)
unfolding stores
stores_on was rec k e f = rw add-one (rw e at f)

-- the last store
pub stores_last : (was rec : List ℕ) (k : ℕ) {mid is : List ℕ} → k ≡ 754 → mid ≡ stores slots was rec k → is ≡ store slots mid rec 754 → is ≡ stores slots was rec 755
stores_last was rec k e f g = stores_on was rec 754 (rw e at f) g
