-- Each reading in the paper's own words is the run of its phase: `idle_run`, `found_run` and `unfound_run` (the search), `reply_run`,
-- `short_run`, and `scan_run`.
use mathlib.Core.Path.{◌≡◌, refl, ap, ◌∙◌}
use mathlib.Core.Bool.{Bool, true, false, cond}
use mathlib.Core.Option
use mathlib.Core.Option.{Option, none, some}
use mathlib.Core.List.{List, [], ◌∷◌, ◌++◌, map, flat_map}
use Prim.Native.Nat.{ℕ, zero, suc, ◌+◌, ◌-◌, ◌≤◌, ◌<◌}
use native.Mathlib.Nat.{lt_of_not-le}
use native.Mathlib.Decide.{dec_le}
use native.Mathlib.Omega.{arith}
use lib.ListN.{length, take, drop, replicate, length-take}
use Rattle.paper.specs.Outcome.{Outcome, gives, refuses, if_given}
use Rattle.framing.specs.Framing.{Step, skip, frame, size, State, fresh, after, passed}
use Rattle.framing.specs.Run.{Result, stopped, stepped, joined, run, events, skipped}
use Rattle.framing.specs.Stages.{fails, passes, step_of}
use Rattle.framing.specs.Calls.{outputs}
use Rattle.framing.proofs.Windows.{run_few, run_full}
use Rattle.wire.specs.declared.sample.Sample.{Sample}
use Rattle.wire.specs.Sample.{sample_of}
use Rattle.stream.specs.declared.Phase.{Phase}
use Rattle.stream.specs.declared.Phase.TheVariants.{Idle, Scanning}
use Rattle.stream.specs.Table.{Event, descriptor, samples, Thing, point, same, seeking, read_sample, width, says, follows, reader, giving, things_of}
use Rattle.stream.specs.Readings.{first_place, Scan, over, sampled, one_skipped, scan}
use Rattle.stream.specs.inner.Seek.{Seeks}
use Rattle.stream.proofs.Table.{reader_lawful, by_window, same_true, same_refl}

abbrev here : Phase → List ℕ → State Phase
here p xs = record { phase = p; bytes = xs }

-- ---- too few bytes are held; idle, each byte is skipped

pub short_run : (p : Phase) (xs : List ℕ) → length xs < width p → run reader (here p xs) ≡ stopped (here p xs)
short_run p xs h = run_few reader_lawful (by_window p) xs h

-- so many bytes, each skipped by itself
abbrev pub skips : ℕ → List (Step Event)
skips n = replicate n (skip 1)

pub idle_run : (xs : List ℕ) → run reader (here Idle xs) ≡ record { steps = skips (length xs); end = fresh Idle }
unfolding width says step_of passed after size stopped stepped
idle_run [] = short_run Idle [] (omega arith)
idle_run (x ∷ xs) = run_full reader_lawful (by_window Idle) (x ∷ xs) (omega arith) ∙ rw (idle_run xs)

-- ---- the search for a descriptor

module _ {p q : Phase} {d : List ℕ} (z : Seeks p d q) where
  skip_one : (x : ℕ) (xs : List ℕ) → 7 ≤ length (x ∷ xs) → same (take 7 (x ∷ xs)) d ≡ false → run reader (here p (x ∷ xs)) ≡ stepped (skip 1) (run reader (here p xs))
  unfolding step_of passed after size seeking
  skip_one x xs h e =
      let v : says p (take (width p) (x ∷ xs)) ≡ fails = z.sought (take (width p) (x ∷ xs)) ∙ rw (z.wide, e) in
      run_full reader_lawful (by_window p) (x ∷ xs) (rw z.wide h) ∙ rw v

  -- by cases on the first place
  place_cases {κ} : (C : Option ℕ → Type κ) (x : ℕ) (xs : List ℕ) → (same (take 7 (x ∷ xs)) d ≡ true → C (some 0))
      → (same (take 7 (x ∷ xs)) d ≡ false → first_place d xs ≡ none → C none) → ((m : ℕ) → same (take 7 (x ∷ xs)) d ≡ false → first_place d xs ≡ some m → C (some (suc m)))
      → C (first_place d (x ∷ xs))
  unfolding first_place
  place_cases C x xs f g h = by (same (take 7 (x ∷ xs)) d) (first_place d xs) refl refl
    where
      by : (t : Bool) (o : Option ℕ) → same (take 7 (x ∷ xs)) d ≡ t → first_place d xs ≡ o → C (cond t (some 0) (Option.map suc o))
      by true o e k = f e
      by false none e k = g e k
      by false (some m) e k = h m e k

  -- the descriptor stands at its first place
  pub place_there : (xs : List ℕ) (n : ℕ) → first_place d xs ≡ some n → (n + 7 ≤ length xs) × (take 7 (drop n xs) ≡ d)
  unfolding first_place
  place_there [] n = λ e. let z : ◌≡◌ {A = ℕ} 0 1 = cc in absurd (omega arith)
  place_there (x ∷ xs) n =
      place_cases (λ o. o ≡ some n → (n + 7 ≤ suc (length xs)) × (take 7 (drop n (x ∷ xs)) ≡ d)) x xs
      (λ s e. let v : 0 ≡ n = cc in rw (← v) (omega (arith, ap (λ (l : List ℕ). length l) (same_true (take 7 (x ∷ xs)) d s), length-take 7 (x ∷ xs), z.long), same_true (take 7 (x ∷ xs)) d s))
      (λ s k e. let z : ◌≡◌ {A = ℕ} 0 1 = cc in absurd (omega arith))
      (λ m s k e. let v : suc m ≡ n = cc in let h = place_there xs m k in rw (← v) (omega (arith, h.0), h.1))

  -- and at none before it
  pub place_first : (xs : List ℕ) (n j : ℕ) → first_place d xs ≡ some n → j < n → take 7 (drop j xs) ≡ d → ⊥
  unfolding first_place
  place_first [] n j = λ e. let z : ◌≡◌ {A = ℕ} 0 1 = cc in absurd (omega arith)
  place_first (x ∷ xs) n j =
      place_cases (λ o. o ≡ some n → j < n → take 7 (drop j (x ∷ xs)) ≡ d → ⊥) x xs
      (λ s e l. let v : 0 ≡ n = cc in absurd (omega arith))
      (λ s k e. let z : ◌≡◌ {A = ℕ} 0 1 = cc in absurd (omega arith))
      (λ m s k e l. let v : suc m ≡ n = cc in later m s (λ i. place_first xs m i k) j (omega arith))
    where
      later : (m : ℕ) → same (take 7 (x ∷ xs)) d ≡ false → ((i : ℕ) → i < m → take 7 (drop i xs) ≡ d → ⊥) → (i : ℕ) → i < suc m → take 7 (drop i (x ∷ xs)) ≡ d → ⊥
      later m s f zero l e = let t : same (take 7 (x ∷ xs)) d ≡ true = rw e (same_refl d) in let z : ◌≡◌ {A = ℕ} 0 1 = cc in absurd (omega arith)
      later m s f (suc i) l e = f i (omega arith) e

  -- it is nowhere: all but the last six bytes are skipped, and these are held
  pub unfound_run : (xs : List ℕ) → first_place d xs ≡ none → run reader (here p xs) ≡ record { steps = skips (length xs - 6); end = here p (drop (length xs - 6) xs) }
  unfolding stopped stepped
  unfound_run [] = λ e. short_run p [] (rw z.wide (omega arith))
  unfound_run (x ∷ xs) =
      place_cases (λ o. o ≡ none → run reader (here p (x ∷ xs)) ≡ record { steps = skips (suc (length xs) - 6); end = here p (drop (suc (length xs) - 6) (x ∷ xs)) }) x xs
      (λ s e. let z : ◌≡◌ {A = ℕ} 0 1 = cc in absurd (omega arith))
      (λ s k e. elim (dec_le 7 (suc (length xs))) [ yes h ↦ long s (unfound_run xs k) h | no h ↦ few (lt_of_not-le h) ])
      (λ m s k e. let z : ◌≡◌ {A = ℕ} 0 1 = cc in absurd (omega arith))
    where
      long : same (take 7 (x ∷ xs)) d ≡ false → run reader (here p xs) ≡ record { steps = skips (length xs - 6); end = here p (drop (length xs - 6) xs) } → 7 ≤ suc (length xs)
          → run reader (here p (x ∷ xs)) ≡ record { steps = skips (suc (length xs) - 6); end = here p (drop (suc (length xs) - 6) (x ∷ xs)) }
      long s k h = let e : suc (length xs) - 6 ≡ suc (length xs - 6) = omega arith in skip_one x xs h s ∙ rw (e, k)

      few : suc (length xs) < 7 → run reader (here p (x ∷ xs)) ≡ record { steps = skips (suc (length xs) - 6); end = here p (drop (suc (length xs) - 6) (x ∷ xs)) }
      few h = let e : suc (length xs) - 6 ≡ 0 = omega arith in short_run p (x ∷ xs) (rw z.wide h) ∙ rw e

  find_one : (x : ℕ) (xs : List ℕ) → 7 ≤ length (x ∷ xs) → same (take 7 (x ∷ xs)) d ≡ true
      → run reader (here p (x ∷ xs)) ≡ stepped (frame 7 descriptor) (run reader (here q (drop 7 (x ∷ xs))))
  unfolding step_of passed after size seeking
  find_one x xs h e =
      let v : says p (take (width p) (x ∷ xs)) ≡ passes descriptor = z.sought (take (width p) (x ∷ xs)) ∙ rw (z.wide, e) in
      run_full reader_lawful (by_window p) (x ∷ xs) (rw z.wide h) ∙ rw (v, z.wide, z.next)

  -- it is found: the bytes before it are skipped, and the next phase reads on behind it
  pub found_run : (xs : List ℕ) (n : ℕ) → first_place d xs ≡ some n
      → run reader (here p xs) ≡ joined (record { steps = skips n ++ frame 7 descriptor ∷ []; end = fresh q }) (run reader (here q (drop (n + 7) xs)))
  unfolding first_place joined stepped
  found_run [] n e = let z : ◌≡◌ {A = ℕ} 0 1 = cc in absurd (omega arith)
  found_run (x ∷ xs) n e =
      place_cases (λ o. o ≡ some n → run reader (here p (x ∷ xs)) ≡ joined (record { steps = skips n ++ frame 7 descriptor ∷ []; end = fresh q }) (run reader (here q (drop (n + 7) (x ∷ xs))))) x xs
      (λ s k. let v : 0 ≡ n = cc in let h = place_there (x ∷ xs) n e in rw (← v) (find_one x xs (omega (arith, h.0)) s))
      (λ s k l. let z : ◌≡◌ {A = ℕ} 0 1 = cc in absurd (omega arith))
      (λ m s k l.
      let v : suc m ≡ n = cc in
      let h = place_there xs m k in
      let w : suc m + 7 ≡ suc (m + 7) = omega arith in
      rw (← v, w) (skip_one x xs (omega (arith, h.0)) s ∙ rw (found_run xs m k)))
      e

-- ---- a reply: the next bytes, so many, are it, and the reader is idle after it

pub reply_run : (p : Phase) (xs : List ℕ) (st : Step Event) → width p ≤ length xs → step_of (width p) (says p (take (width p) xs)) ≡ st
    → run reader (here p xs) ≡ stepped st (run reader (here (after reader p st) (drop (size st) xs)))
unfolding passed
reply_run p xs st h e = run_full reader_lawful (by_window p) xs h ∙ rw e

-- ---- a scan

-- a run comes to what the paper's words say
pub record IsScan (r : Result Phase Event) (s : Scan) : Type 0 where
  pub things : outputs giving r.steps ≡ map point s.samples
  pub skip : skipped r.steps ≡ s.skipped
  pub end : r.end ≡ here Scanning s.left

scan_few : (xs : List ℕ) → length xs < 5 → IsScan (run reader (here Scanning xs)) (over xs)
unfolding width stopped outputs events flat_map skipped over
scan_few xs h = rw (short_run Scanning xs h) (record { things = refl; skip = refl; end = refl })

pub scan_run : (xs : List ℕ) → IsScan (run reader (here Scanning xs)) (scan xs)
unfolding scan width says read_sample step_of passed after size follows if_given stepped outputs events flat_map things_of skipped sampled one_skipped
scan_run (a ∷ b ∷ c ∷ d ∷ e ∷ xs) =
    rw (run_full reader_lawful (by_window Scanning) (a ∷ b ∷ c ∷ d ∷ e ∷ xs) (omega arith)) (by (sample_of (a ∷ b ∷ c ∷ d ∷ e ∷ [])) (scan_run xs) (scan_run (b ∷ c ∷ d ∷ e ∷ xs)))
  where
    by : (o : Outcome Sample) → IsScan (run reader (here Scanning xs)) (scan xs) → IsScan (run reader (here Scanning (b ∷ c ∷ d ∷ e ∷ xs))) (scan (b ∷ c ∷ d ∷ e ∷ xs))
        → IsScan
        (stepped (step_of 5 (if_given o (λ m. passes (samples (m ∷ []))) fails))
        (run reader (passed reader (here Scanning (a ∷ b ∷ c ∷ d ∷ e ∷ xs)) (step_of 5 (if_given o (λ m. passes (samples (m ∷ []))) fails)))))
        (if_given o (λ m. sampled m (scan xs)) (one_skipped (scan (b ∷ c ∷ d ∷ e ∷ xs))))
    by (gives m) h k = record { things = ap {B = List Thing} (λ l. point m ∷ l) h.things; skip = h.skip; end = h.end }
    by (refuses n) h k = record { things = k.things; skip = omega (arith, k.skip); end = k.end }
scan_run (a ∷ b ∷ c ∷ d ∷ []) = scan_few (a ∷ b ∷ c ∷ d ∷ []) (omega arith)
scan_run (a ∷ b ∷ c ∷ []) = scan_few (a ∷ b ∷ c ∷ []) (omega arith)
scan_run (a ∷ b ∷ []) = scan_few (a ∷ b ∷ []) (omega arith)
scan_run (a ∷ []) = scan_few (a ∷ []) (omega arith)
scan_run [] = scan_few [] (omega arith)
