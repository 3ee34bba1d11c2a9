-- Turns that close are fit for a record: `closed_fit`: 1 to 8,192 samples, 360 cells, each a 16-bit word.
use Prim.Native.Nat.{ℕ, zero, suc, ◌≤◌, ◌<◌}
use mathlib.Core.Path.{◌≡◌, refl, ◌∙◌}
use mathlib.Core.Bool.{Bool, true, false, cond, ◌&&◌}
use mathlib.Core.List.{List, [], ◌∷◌, ◌++◌}
use native.Mathlib.Omega.{arith}
use borrow.Author.Tests.{leb-true}
use lib.Dec.{leb, ltb, eqb}
use lib.ListN.{length, get_or, set, replicate, length-set, length-replicate}
use Rattle.paper.specs.Words.{Each}
use Rattle.paper.proofs.Words.{each_append}
use Rattle.wire.specs.declared.sample.Sample.{Sample}
use Rattle.paper.proofs.Cases.{both_hold}
use Rattle.paper.specs.Nearer.{nearer}
use Rattle.turn.specs.Cells.{cell_of, with_sample, blank, cells_after, cells_of}
use Rattle.turn.specs.Turns.{Turn, turn_of, since, closed_after, closed_by}

-- a cell and a distance are 16-bit words
abbrev pub Word : ℕ → Type 0
Word q = q < 65536

abbrev pub Near : Sample → Type 0
Near m = m.distance.0 < 65536

pub record Fit (t : Turn) : Type 0 where
  pub one : 1 ≤ t.count
  pub most : t.count ≤ 8192
  pub cells : length t.cells ≡ 360
  pub words : Each Word t.cells

-- ---- cells

each_set : (xs : List ℕ) (i v : ℕ) → Each Word xs → Word v → Each Word (set xs i v)
unfolding Each
each_set [] i v e w = tt
each_set (x ∷ xs) zero v e w = (w, e.1)
each_set (x ∷ xs) (suc i) v e w = (e.0, each_set xs i v e.1 w)

each_at : (xs : List ℕ) (i : ℕ) → Each Word xs → Word (get_or xs i 0)
unfolding Each
each_at [] i e = omega arith
each_at (x ∷ xs) zero e = e.0
each_at (x ∷ xs) (suc i) e = each_at xs i e.1

each_zero : (n : ℕ) → Each Word (replicate n 0)
unfolding Each
each_zero zero = tt
each_zero (suc n) = (omega arith, each_zero n)

one_of : (t : Bool) (a b : ℕ) → Word a → Word b → Word (cond t a b)
one_of true a b x y = x
one_of false a b x y = y

near_word : (d q : ℕ) → Word d → Word q → Word (nearer d q)
unfolding nearer
near_word d q x y = one_of (eqb d 0) q _ y (one_of (eqb q 0) d _ x (one_of (ltb d q) d q x y))

cells_fit : (cells : List ℕ) (ms : List Sample) → Each Word cells → Each Near ms → (length (cells_after cells ms) ≡ length cells) × Each Word (cells_after cells ms)
unfolding cells_after Each with_sample
cells_fit cells [] w e = (refl, w)
cells_fit cells (m ∷ ms) w e =
    let v = near_word m.distance.0 (get_or cells (cell_of m) 0) e.0 (each_at cells (cell_of m) w) in
    let r = cells_fit (with_sample cells m) ms (each_set cells (cell_of m) _ w v) e.1 in
    (r.0 ∙ length-set cells (cell_of m) _, r.1)

-- ---- turns

turn_fit : (os : List Sample) → Each Near os → (t : Bool) → leb 1 (length os) && leb (length os) 8192 ≡ t → Each Fit (cond t (record { count = length os; cells = cells_of os } ∷ []) [])
unfolding Each cells_of blank
turn_fit os e true h =
    let l = both_hold (leb 1 (length os)) (leb (length os) 8192) h in
    let c = cells_fit (replicate 360 0) os (each_zero 360) e in
    (record { one = leb-true 1 (length os) l.0; most = leb-true (length os) 8192 l.1; cells = c.0 ∙ length-replicate {A = ℕ} 360 0; words = c.1 }, tt)
turn_fit os e false h = tt

since_near : (os : List Sample) (m : Sample) → Each Near os → Near m → Each Near (since os m)
unfolding since Each
since_near [] m e n = tt
since_near (o ∷ os) m e n = (e.0, each_append Near os (m ∷ []) e.1 (n, tt))

closed_step : (os : List Sample) (m : Sample) (ms : List Sample) (s : Bool) → Each Fit (turn_of os) → Each Fit (closed_after (m ∷ []) ms) → Each Fit (closed_after (since os m) ms)
    → Each Fit (cond s (turn_of os ++ closed_after (m ∷ []) ms) (closed_after (since os m) ms))
closed_step os m ms true a b c = each_append Fit (turn_of os) (closed_after (m ∷ []) ms) a b
closed_step os m ms false a b c = c

closed_on : (ms os : List Sample) → Each Near os → Each Near ms → Each Fit (closed_after os ms)
unfolding closed_after turn_of Each
closed_on [] os a b = tt
closed_on (m ∷ ms) os a b =
    closed_step os m ms m.start (turn_fit os a (leb 1 (length os) && leb (length os) 8192) refl) (closed_on ms (m ∷ []) (b.0, tt) b.1)
    (closed_on ms (since os m) (since_near os m a b.0) b.1)

pub closed_fit : (ms : List Sample) → Each Near ms → Each Fit (closed_by ms)
unfolding closed_by Each
closed_fit ms e = closed_on ms [] tt e
