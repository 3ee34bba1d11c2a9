-- Things that a call gives: their samples, and the words of these.
use Prim.Native.Nat.{ℕ}
use mathlib.Core.Path.{◌≡◌, refl, ap, ◌∙◌}
use mathlib.Core.Bool.{Bool, true, false, ◌&&◌}
use mathlib.Core.List.{List, [], ◌∷◌, ◌++◌, map, flat_map}
use Rattle.wire.specs.declared.sample.Sample.{Sample}
use Rattle.wire.specs.Sample.{fit, words_of}
use Rattle.paper.proofs.Cases.{both_hold}
use Rattle.stream.specs.Table.{Thing, headed, replied, unread, point, row_of}
use Rattle.host.specs.Host.{kept, through}

-- the samples among them
unfoldable pub points_of : List Thing → List Sample
points_of [] = []
points_of (headed ∷ xs) = points_of xs
points_of (replied w ∷ xs) = points_of xs
points_of (unread ∷ xs) = points_of xs
points_of (point m ∷ xs) = m ∷ points_of xs

-- no reply is among them, and the samples are fit
unfoldable pub scans : List Thing → Bool
scans [] = true
scans (headed ∷ xs) = scans xs
scans (replied w ∷ xs) = false
scans (unread ∷ xs) = scans xs
scans (point m ∷ xs) = fit m.angle.0 m.quality && scans xs

-- fit samples
unfoldable pub all_fit : List Sample → Bool
all_fit [] = true
all_fit (m ∷ ms) = fit m.angle.0 m.quality && all_fit ms

pub points-append : (xs ys : List Thing) → points_of (xs ++ ys) ≡ points_of xs ++ points_of ys
unfolding points_of
points-append [] ys = refl
points-append (headed ∷ xs) ys = points-append xs ys
points-append (replied w ∷ xs) ys = points-append xs ys
points-append (unread ∷ xs) ys = points-append xs ys
points-append (point m ∷ xs) ys = ap {B = List Sample} (λ l. m ∷ l) (points-append xs ys)

and_on : (b x y z : Bool) → y && z ≡ x → (b && y) && z ≡ b && x
and_on true x y z e = e
and_on false x y z e = refl

pub scans-append : (xs ys : List Thing) → scans xs && scans ys ≡ scans (xs ++ ys)
unfolding scans
scans-append [] ys = refl
scans-append (headed ∷ xs) ys = scans-append xs ys
scans-append (replied w ∷ xs) ys = refl
scans-append (unread ∷ xs) ys = scans-append xs ys
scans-append (point m ∷ xs) ys = and_on (fit m.angle.0 m.quality) (scans (xs ++ ys)) (scans xs) (scans ys) (scans-append xs ys)

pub scans_split : (xs ys : List Thing) → scans (xs ++ ys) ≡ true → (scans xs ≡ true) × (scans ys ≡ true)
scans_split xs ys e = both_hold (scans xs) (scans ys) (scans-append xs ys ∙ e)

-- their words are those of their samples
pub row_points : (xs : List Thing) → flat_map row_of xs ≡ flat_map words_of (points_of xs)
unfolding flat_map row_of points_of
row_points [] = refl
row_points (headed ∷ xs) = row_points xs
row_points (replied w ∷ xs) = row_points xs
row_points (unread ∷ xs) = row_points xs
row_points (point m ∷ xs) = ap (λ (l : List ℕ). words_of m ++ l) (row_points xs)

pub points_fit : (xs : List Thing) → scans xs ≡ true → all_fit (points_of xs) ≡ true
unfolding scans points_of all_fit
points_fit [] e = refl
points_fit (headed ∷ xs) e = points_fit xs e
points_fit (replied w ∷ xs) e = cc
points_fit (unread ∷ xs) e = points_fit xs e
points_fit (point m ∷ xs) e = let f = both_hold (fit m.angle.0 m.quality) (scans xs) e in rw (f.0, points_fit xs f.1)

-- and the serial stays
pub scans_keep : (serial : List ℕ) (xs : List Thing) → scans xs ≡ true → through kept serial xs ≡ serial
unfolding scans through kept
scans_keep serial [] e = refl
scans_keep serial (headed ∷ xs) e = scans_keep serial xs e
scans_keep serial (replied w ∷ xs) e = cc
scans_keep serial (unread ∷ xs) e = scans_keep serial xs e
scans_keep serial (point m ∷ xs) e = scans_keep serial xs (both_hold (fit m.angle.0 m.quality) (scans xs) e).1

-- samples alone
pub points-map : (ms : List Sample) → points_of (map point ms) ≡ ms
unfolding points_of
points-map [] = refl
points-map (m ∷ ms) = ap {B = List Sample} (λ l. m ∷ l) (points-map ms)

pub scans-map : (ms : List Sample) → all_fit ms ≡ true → scans (map point ms) ≡ true
unfolding scans all_fit
scans-map [] e = refl
scans-map (m ∷ ms) e = let f = both_hold (fit m.angle.0 m.quality) (all_fit ms) e in rw (f.0, scans-map ms f.1)
