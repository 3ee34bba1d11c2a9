-- Seeking a descriptor, as code does it: from place to place of a part.
use Rattle.std.specs.Prelude.{◌≡◌, Bool, true, false, cond, ◌&&◌, List, [], ℕ, zero, suc, ◌+◌, ◌-◌, ◌≤◌, ◌<◌, eqb, length, drop, get_or, Result, Ok, Err, Option, Some, None}
use Rattle.stream.specs.declared.Phase.{Phase}
use Rattle.stream.specs.declared.Stop.TheVariants.{AllTaken, Descriptor}
use Rattle.stream.specs.declared.Reading.{Reading}
use Rattle.stream.specs.Table.{descriptor, seeking, width, says, follows}
use Rattle.stream.specs.inner.Account.{Moves}
use Rattle.stream.specs.inner.Hold.{holding, stopping}

-- in phase p the seven bytes d are sought, and q follows
pub record Seeks (p : Phase) (d : List ℕ) (q : Phase) : Type 0 where
  pub wide : width p ≡ 7
  pub long : length d ≡ 7
  pub sought : (xs : List ℕ) → says p xs ≡ seeking d xs
  pub next : follows p descriptor ≡ q

-- d does not stand at a place from b to before i
pub record Sought (d part : List ℕ) (b i : ℕ) : Type 0 where
  pub moves : (p q : Phase) → Seeks p d q → (u : ℕ) (ws : List ℕ) → Moves p part b i (i - b) u ws u ws
  pub behind : b ≤ i
  pub within : i ≤ length part

-- the first two bytes of d stand at i
unfoldable pub begins : List ℕ → List ℕ → ℕ → Bool
begins d part i = eqb (get_or part i 0) (get_or d 0 0) && eqb (get_or part (i + 1) 0) (get_or d 1 0)

-- at one of the n places from i on
unfoldable pub near_by : List ℕ → List ℕ → ℕ → ℕ → Bool
near_by d part i zero = false
near_by d part i (suc n) = cond (begins d part (i + n)) true (near_by d part i n)

-- d stands at i
pub record Stands (d part : List ℕ) (i : ℕ) : Type 0 where
  pub fits : i + 7 ≤ length part
  pub same : (j : ℕ) → j < 7 → get_or part (i + j) 0 ≡ get_or d j 0

-- the place before `last` at which it first stands, if there is one
abbrev pub Searched : List ℕ → List ℕ → ℕ → ℕ → Option ℕ → Type 0
Searched d part b last (Some i) = Sought d part b i × Stands d part i
Searched d part b last None = Sought d part b last

-- a place, found or not
abbrev pub place_of : Result ℕ ℕ → ℕ
place_of (Ok i) = i
place_of (Err i) = i

-- d stands there, or there are too few bytes
unfoldable pub SeekEnd : List ℕ → List ℕ → Result ℕ ℕ → Type 0
SeekEnd d part (Ok i) = Stands d part i
SeekEnd d part (Err i) = length part < i + 7

-- the place at which it first stands, or else the first at which there are too few bytes
pub record SoughtTo (d part : List ℕ) (b : ℕ) (r : Result ℕ ℕ) : Type 0 where
  pub sought : Sought d part b (place_of r)
  pub end : SeekEnd d part r

-- the answer where seeking stands, counted from the h bytes held
unfoldable pub seek_answer : Phase → Phase → List ℕ → Result ℕ ℕ → ℕ → ℕ → Reading
seek_answer p q part (Ok i) h k = stopping (holding q [] k) (i + 7 - h) Descriptor
seek_answer p q part (Err i) h k = stopping (holding p (drop i part) k) (length part - h) AllTaken
