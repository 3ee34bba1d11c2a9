-- The edges hold, by one computation over the table: `edges_hold`; and so what is given of each is what the paper says: `edge_is`.
use Prim.Native.Nat.{ℕ}
use mathlib.Core.Path.{◌≡◌, refl, ap₂}
use mathlib.Core.Bool.{true}
use mathlib.Core.List.{List, [], ◌∷◌}
use native.Mathlib.Omega.{arith}
use lib.Dec.{eqb}
use borrow.Author.Tests.{eqb-true}
use Rattle.paper.specs.Outcome.{refuse_if}
use Rattle.paper.specs.Outcome as outcome
use Rattle.paper.specs.Refusals.{number_of}
use Rattle.paper.specs.Sum.{xor_from, sum_of}
use Rattle.paper.specs.Words.{value_of, Each}
use Rattle.wire.specs.Sample.{angle_in, passes, is_sample, sample_in, sample_of}
use Rattle.wire.specs.Reply.{is_health, health_in, health_of}
use Rattle.wire.specs.Request.{with_sum, request_of}
use Rattle.paper.proofs.Cases.{both_hold}
use Rattle.stream.specs.Readings.{over, sampled, one_skipped, scan}
use Rattle.stream.specs.Table.{same}
use Rattle.turn.specs.Cells.{cell_of}
use Rattle.ring.specs.Ring.{held, slot_of, next_head, touched, put, store}
use Rattle.ring.specs.Answers.{sized, of_ring, counting}
use Rattle.edges.specs.Table.{Edge, told, of_sample, of_health, of_scan, ring_at, added, table, holds}

pub edges_hold : holds table ≡ true
unfolding holds table told of_sample of_health of_scan ring_at added same
    refuse_if outcome.if_given number_of xor_from sum_of value_of angle_in passes is_sample sample_in sample_of is_health health_in health_of with_sum request_of
    over sampled one_skipped scan cell_of held slot_of next_head touched put store sized of_ring counting
edges_hold = refl

same_is : (xs ys : List ℕ) → same xs ys ≡ true → xs ≡ ys
unfolding same
same_is [] [] e = refl
same_is [] (y ∷ ys) e = let z : ◌≡◌ {A = ℕ} 0 1 = cc in absurd (omega arith)
same_is (x ∷ xs) [] e = let z : ◌≡◌ {A = ℕ} 0 1 = cc in absurd (omega arith)
same_is (x ∷ xs) (y ∷ ys) e =
    let b = both_hold (eqb x y) (same xs ys) e in
    ap₂ (λ (a : ℕ) (l : List ℕ). a ∷ l) (eqb-true x y b.0) (same_is xs ys b.1)

each_said : (es : List Edge) → holds es ≡ true → Each (λ (e : Edge). e.given ≡ e.said) es
unfolding holds Each
each_said [] h = tt
each_said (e ∷ es) h = let b = both_hold (same e.given e.said) (holds es) h in (same_is e.given e.said b.0, each_said es b.1)

pub edge_is : Each (λ (e : Edge). e.given ≡ e.said) table
edge_is = each_said table edges_hold
