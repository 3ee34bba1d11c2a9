-- Laws of the run. The ones to know: `run_more` and `run_found`, its equations; `cutting`: to be fed ys and run is to run, and then to be
-- fed ys and run on; `by_steps`, induction step by step.
use mathlib.Core.Path.{◌≡◌, refl, sym, ap, ◌∙◌}
use mathlib.Core.List.{List, [], ◌++◌, append-nil, append_assoc}
use Prim.Native.Nat.{ℕ, zero, suc, ◌≤◌, ◌<◌}
use native.Mathlib.Omega.{arith}
use lib.ListN.{length, length-drop}
use lib.Seq.{drop-append-le}
use Rattle.framing.specs.Framing.{Step, size, Try, more, found, Framing, Lawful, State, fed, test, passed}
use Rattle.framing.specs.Run.{stopped, stepped, joined, act, run_n, run}

pub fed_nil : {P : Type 0} (s : State P) → fed s [] ≡ s
unfolding fed
fed_nil s = rw append-nil

pub fed_fed : {P : Type 0} (s : State P) (xs ys : List ℕ) → fed (fed s xs) ys ≡ fed s (xs ++ ys)
unfolding fed
fed_fed s xs ys = rw append_assoc

module _ {P E : Type 0} {F : Framing P E} (ok : Lawful F) where
  -- a step leaves fewer bytes
  shorter : (s : State P) (st : Step E) → test F s ≡ found st → length (passed F s st).bytes < length s.bytes
  unfolding passed
  shorter s st e = let h = ok.fits s.phase s.bytes st e in simp length-drop (omega arith)

  -- Induction step by step: a state in which more bytes must come, and one with a step in front, from the state behind it.
  pub by_steps {ℓ} : (C : State P → Type ℓ) → ((s : State P) → test F s ≡ more → C s)
      → ((s : State P) (st : Step E) → test F s ≡ found st → C (passed F s st) → C s) → (s : State P) → C s
  by_steps C stop step s = go (suc (length s.bytes)) s (omega arith)
    where
      by : (t : State P) → ((st : Step E) → test F t ≡ found st → C (passed F t st)) → (u : Try E) → test F t ≡ u → C t
      by t ih more e = stop t e
      by t ih (found st) e = step t st e (ih st e)

      go : (k : ℕ) (t : State P) → length t.bytes < k → C t
      go zero t h = absurd (omega arith)
      go (suc k) t h = by t (λ st e. go k (passed F t st) (omega (arith, shorter t st e))) (test F t) refl

  -- ---- the equations of `run`: nothing after them sees the count

  enough_more : (k : ℕ) (s : State P) → test F s ≡ more → run_n F k s ≡ stopped s
  unfolding run_n act
  enough_more zero s e = refl
  enough_more (suc k) s e = rw e

  -- any count that is large enough gives the same
  abbrev Enough : State P → Type 0
  Enough s = (k l : ℕ) → length s.bytes ≤ k → length s.bytes ≤ l → run_n F k s ≡ run_n F l s

  enough_found : (s : State P) (st : Step E) → test F s ≡ found st → Enough (passed F s st) → Enough s
  unfolding run_n act
  enough_found s st e ih zero l hk hl = absurd (omega (arith, shorter s st e))
  enough_found s st e ih (suc k) zero hk hl = absurd (omega (arith, shorter s st e))
  enough_found s st e ih (suc k) (suc l) hk hl =
      let h = shorter s st e in rw e (ap (stepped st) (ih k l (omega arith) (omega arith)))

  enough : (s : State P) → Enough s
  enough = by_steps Enough (λ s e k l hk hl. enough_more k s e ∙ sym (enough_more l s e)) enough_found

  pub run_more : (s : State P) → test F s ≡ more → run F s ≡ stopped s
  unfolding run
  run_more s e = enough_more (length s.bytes) s e

  pub run_found : (s : State P) (st : Step E) → test F s ≡ found st → run F s ≡ stepped st (run F (passed F s st))
  unfolding run run_n act
  run_found s st e =
      let n : ℕ = length s.bytes in
      let h = shorter s st e in
      enough s n (suc n) (omega arith) (omega arith)
      ∙ rw e (ap (stepped st) (enough (passed F s st) n (length (passed F s st).bytes) (omega arith) (omega arith)))

  -- ---- the cutting law

  abbrev Cut : State P → Type 0
  Cut s = (ys : List ℕ) → run F (fed s ys) ≡ joined (run F s) (run F (fed (run F s).end ys))

  cut_more : (s : State P) → test F s ≡ more → Cut s
  unfolding joined stopped
  cut_more s e ys = rw (run_more s e)

  -- bytes that come later come behind the step
  passed_fed : (s : State P) (st : Step E) (ys : List ℕ) → test F s ≡ found st → passed F (fed s ys) st ≡ fed (passed F s st) ys
  unfolding passed fed
  passed_fed s st ys e = let h = ok.fits s.phase s.bytes st e in rw (drop-append-le (size st) s.bytes ys h.1)

  cut_found : (s : State P) (st : Step E) → test F s ≡ found st → Cut (passed F s st) → Cut s
  unfolding joined stepped fed
  cut_found s st e ih ys =
      run_found (fed s ys) st (ok.stable s.phase s.bytes ys st e)
      ∙ rw (run_found s st e, passed_fed s st ys e, ih ys)

  -- To be fed ys and run is to run, and then to be fed ys and run on: the same steps, and the same end.
  pub cutting : (s : State P) (ys : List ℕ) → run F (fed s ys) ≡ joined (run F s) (run F (fed (run F s).end ys))
  cutting = by_steps Cut cut_more cut_found

  -- the same of bytes that come in two parts
  pub cutting_at : (s : State P) (xs ys : List ℕ) → run F (fed s (xs ++ ys)) ≡ joined (run F (fed s xs)) (run F (fed (run F (fed s xs)).end ys))
  cutting_at s xs ys = rw (← fed_fed) (cutting (fed s xs) ys)

  -- ---- the end

  -- where a run ends, more bytes must come
  pub end_more : (s : State P) → test F (run F s).end ≡ more
  unfolding stopped stepped
  end_more = by_steps (λ s. test F (run F s).end ≡ more) (λ s e. rw (run_more s e) e) (λ s st e ih. rw (run_found s st e) ih)

  -- with no bytes, more must come
  pub empty_more : (p : P) → F.look p [] ≡ more
  empty_more p = by (F.look p []) refl
    where
      by : (t : Try E) → F.look p [] ≡ t → t ≡ more
      by more e = refl
      by (found st) e = let h = ok.fits p [] st e in absurd (omega arith)

  -- no byte, no step
  pub run_none : (s : State P) → test F s ≡ more → run F (fed s []) ≡ stopped s
  run_none s e = rw fed_nil (run_more s e)
