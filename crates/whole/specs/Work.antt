-- A host at work: bytes read call after call, the words of each call gathered before the next, each closed turn a record. Each step is said by
-- the promise of its call alone.
use Rattle.std.specs.Prelude.{ℕ, ◌<◌, ◌≡◌, List, [], ◌∷◌, ◌++◌, length, take, drop, Option, Some, None, Ok, Err}
use Rattle.paper.specs.Outcome.{gives}
use Rattle.paper.specs.declared.refusal.Refusal.{Refusal}
use Rattle.turn.specs.Turns.{Turn}
use Rattle.record.specs.Record.{turn_of}
use Rattle.host.specs.Promises.{Hears, Turns}
use Rattle.host.specs.declared.Host.{Host}
use Rattle.host.specs.declared.Heard.{Heard}
use Rattle.host.specs.declared.Turned.{Turned}

-- the record that a call of `gather` made ready, where a turn closed
unfoldable pub ready_by : Option ℕ → List ℕ → List (List ℕ)
ready_by None rec = []
ready_by (Some n) rec = rec ∷ []

-- a row, gathered call after call until no word is left: from a host and the cells lent, these records were made ready; a refused call leaves all
-- as it was, and may come anywhere
pub data Gathered : Host → List ℕ → List ℕ → List ℕ → List (List ℕ) → Host → List ℕ → List ℕ → Type 0 where
  done : {h : Host} {f c : List ℕ} → Gathered h [] f c [] h f c
  refused : {h z : Host} {row f c f₁ c₁ f₂ c₂ : List ℕ} {recs : List (List ℕ)} (number : ℕ) (was is : List ℕ) (q : Refusal) → Turns h row number f c was (Err q) f₁ c₁ is
      → Gathered h row f₁ c₁ recs z f₂ c₂ → Gathered h row f c recs z f₂ c₂
  more : {h z : Host} {row f c f₁ c₁ f₂ c₂ : List ℕ} {recs : List (List ℕ)} (number : ℕ) (was is : List ℕ) (r : Turned) → number < 4294967296 → length was ≡ 754
      → Turns h row number f c was (Ok r) f₁ c₁ is → Gathered r.host (drop r.words row) f₁ c₁ recs z f₂ c₂
      → Gathered h row f c (ready_by r.turn is ++ recs) z f₂ c₂

-- bytes in any portions with any rooms: a call is handed any of the bytes that come next, and those that it did not take come again
pub data Works : Host → List ℕ → List ℕ → List ℕ → List (List ℕ) → Host → Type 0 where
  over : {h : Host} {f c : List ℕ} → Works h f c [] [] h
  reads : {h g z : Host} {f c f₁ c₁ : List ℕ} {recs later : List (List ℕ)} (input was row rest : List ℕ) (r : Heard) → Hears h input was r row
      → Gathered r.host (take r.words row) f c recs g f₁ c₁ → Works g f₁ c₁ (drop r.taken input ++ rest) later z
      → Works h f c (input ++ rest) (recs ++ later) z

-- Records tell turns, one for one and in order: each reads as the turn's count and cells, with the serial and some number.
unfoldable pub Tell : List ℕ → List (List ℕ) → List Turn → Type 0
Tell serial [] [] = Unit {0}
Tell serial [] (t ∷ ts) = ⊥
Tell serial (rec ∷ recs) [] = ⊥
Tell serial (rec ∷ recs) (t ∷ ts) =
    ((number : ℕ) × (turn_of rec ≡ gives (record { number = number; count = t.count; serial = serial; cells = t.cells }))) × Tell serial recs ts
