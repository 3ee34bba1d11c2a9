-- What a call comes to at a place of the bytes: too few bytes (`comes_short`), a window that fails (`comes_skip`), a sample with room
-- (`comes_sample`) and without (`comes_full`), a thing that ends the call (`comes_ended`); and bytes that are passed (`moves_skip`, `moves_sample`).
use mathlib.Core.Path.{◌≡◌, refl, ap, ◌∙◌}
use mathlib.Core.Bool.{true}
use mathlib.Core.List.{List, [], ◌∷◌, ◌++◌, flat_map}
use Prim.Native.Nat.{ℕ, suc, ◌+◌, ◌-◌, ◌≤◌, ◌<◌}
use native.Mathlib.Nat.{add-zero, add_assoc, le_refl}
use native.Mathlib.Omega.{arith}
use borrow.Author.Tests.{le-leb, lt-leb}
use lib.ListN.{length, take, drop, length-append, length-drop}
use lib.Seq.{sets, length-sets, take-append-le, drop-append-le, drop-drop}
use Rattle.framing.specs.Framing.{Step, skip, frame, size, fresh, after}
use Rattle.framing.specs.Run.{stopped, joined, events, skipped}
use Rattle.framing.specs.Stages.{fails, passes, step_of}
use Rattle.framing.specs.Calls.{outputs, begins, ended_by, Answer}
use Rattle.framing.proofs.Places.{also_gives, behind, call_gives, call_ends}
use Rattle.framing.proofs.Windows.{at_end, at_skip, at_gives, at_stop_lem}
use Rattle.wire.specs.declared.sample.Sample.{Sample}
use Rattle.wire.specs.Sample.{words_of}
use Rattle.stream.specs.declared.Phase.{Phase}
use Rattle.stream.specs.declared.Stop.TheVariants.{AllTaken, NoRoom}
use Rattle.stream.specs.Table.{Event, samples, Thing, point, width, says, follows, reader, giving, things_of, words_for, ends_call, row_of}
use Rattle.stream.specs.Stops.{reply_for, stop_of}
use Rattle.stream.specs.inner.Account.{put, account, comes_to, Moves}
use Rattle.stream.proofs.Table.{width_pos, reader_lawful, by_window}

-- ---- a step, and then what comes behind it

module _ (t k u : ℕ) (ws : List ℕ) (p : Phase) (a : Answer Phase Event Thing) where
  behind_skip : account t k u ws (behind (record { steps = skip 1 ∷ []; end = fresh p }) 1 a) ≡ account (t + 1) (k + 1) u ws a
  unfolding account behind joined skipped
  behind_skip =
      let e : t + (1 + a.taken) ≡ t + 1 + a.taken = omega arith in
      let f : k + (1 + skipped a.result.steps) ≡ k + 1 + skipped a.result.steps = omega arith in
      rw (e, f)

  behind_sample : (n : ℕ) (m : Sample) → account t k u ws (behind (record { steps = frame n (samples (m ∷ [])) ∷ []; end = fresh p }) n (also_gives (point m ∷ []) a))
      ≡ account (t + n) k (u + 3) (sets ws u (words_of m)) a
  unfolding account behind joined also_gives skipped put flat_map row_of words_of
  behind_sample n m =
      let e : t + (n + a.taken) ≡ t + n + a.taken = omega arith in
      let l : ℕ = length (flat_map row_of a.given) in
      let f : u + suc (suc (suc l)) ≡ u + 3 + l = omega arith in
      rw (e, f)

-- ---- at a place of the bytes, none of them held before

-- too few bytes: all are taken, and held
pub comes_short : (p : Phase) (xs : List ℕ) (t k u : ℕ) (ws : List ℕ) → length xs < width p
    → comes_to (fresh p) xs t k u ws ≡ record { taken = t + length xs; skipped = k; used = u; words = ws; stop = AllTaken; reply = []; end = record { phase = p; bytes = xs } }
unfolding comes_to account stopped skipped put flat_map stop_of reply_for
comes_short p xs t k u ws h = ap (account t k u ws) (at_end reader_lawful giving (by_window p) xs (length ws - u) h) ∙ rw (add-zero k, add-zero u)

module _ (p : Phase) (xs : List ℕ) (t k u : ℕ) (ws : List ℕ) (enough : width p ≤ length xs) where
  -- the bytes fail: one is skipped
  pub comes_skip : says p (take (width p) xs) ≡ fails → comes_to (fresh p) xs t k u ws ≡ comes_to (fresh p) (drop 1 xs) (t + 1) (k + 1) u ws
  unfolding comes_to
  comes_skip q = ap (account t k u ws) (at_skip reader_lawful giving (by_window p) xs enough (length ws - u) q) ∙ behind_skip t k u ws p _

  module _ (m : Sample) (q : says p (take (width p) xs) ≡ passes (samples (m ∷ []))) where
    abbrev sampled : Step Event
    sampled = frame (width p) (samples (m ∷ []))

    is_step : step_of (width p) (says p (take (width p) xs)) ≡ sampled
    unfolding step_of
    is_step = rw q

    -- a sample, with room
    pub comes_sample : u + 3 ≤ length ws
        → comes_to (fresh p) xs t k u ws ≡ comes_to (fresh (follows p (samples (m ∷ [])))) (drop (width p) xs) (t + width p) k (u + 3) (sets ws u (words_of m))
    unfolding comes_to after outputs events flat_map things_of begins words_for ends_call size
    comes_sample h =
        let r : ℕ = length ws - u in
        let e : r - 3 ≡ length (sets ws u (words_of m)) - (u + 3) = omega (arith, length-sets ws u (words_of m)) in
        ap (account t k u ws)
        (at_gives reader_lawful giving (by_window p) xs enough sampled is_step refl r (le-leb 3 r (omega arith))
        ∙ ap (behind (record { steps = sampled ∷ []; end = fresh (follows p (samples (m ∷ []))) }) (width p))
        (call_gives reader giving (fresh (follows p (samples (m ∷ [])))) (point m) [] (drop (width p) xs) r (omega arith) refl))
        ∙ behind_sample t k u ws (follows p (samples (m ∷ []))) _ (width p) m
        ∙ rw e

    -- a sample, with no room: the call stops before its last byte
    pub comes_full : u ≤ length ws → length ws < u + 3
        → comes_to (fresh p) xs t k u ws
        ≡ record { taken = t + (width p - 1); skipped = k; used = u; words = ws; stop = NoRoom; reply = []; end = record { phase = p; bytes = take (width p - 1) xs } }
    unfolding comes_to account outputs events flat_map things_of begins words_for size stopped skipped put stop_of reply_for
    comes_full h n =
        ap (account t k u ws) (at_stop_lem reader_lawful giving (by_window p) xs enough sampled is_step refl (length ws - u) (lt-leb 3 (length ws - u) (omega arith)))
        ∙ rw (add-zero k, add-zero u)

  -- a thing that ends the call
  pub comes_ended : (st : Step Event) (x : Thing) → step_of (width p) (says p (take (width p) xs)) ≡ st → size st ≡ width p → outputs giving (st ∷ []) ≡ x ∷ []
      → ends_call x ≡ true → words_for x ≡ 0 → row_of x ≡ []
      → comes_to (fresh p) xs t k u ws
      ≡ record { taken = t + width p; skipped = k + skipped (st ∷ []); used = u; words = put ws u (x ∷ []); stop = stop_of (ended_by x); reply = reply_for (ended_by x); end = fresh (after reader p st) }
  unfolding comes_to begins account behind joined stopped flat_map
  comes_ended st x q all o ends none row =
      let r : ℕ = length ws - u in
      let n : words_for x ≤ r = omega arith in
      ap (account t k u ws)
      (rw o at (at_gives reader_lawful giving (by_window p) xs enough st q all r (rw o (le-leb (words_for x) r n)))
      ∙ ap (behind (record { steps = st ∷ []; end = fresh (after reader p st) }) (width p))
      (call_ends reader giving (fresh (after reader p st)) x [] (drop (width p) xs) r n ends))
      ∙ rw (row, add-zero (width p), add-zero u)

-- ---- bytes that are passed: whatever comes behind them

pub moves_none : (p : Phase) (part : List ℕ) (b u : ℕ) (ws : List ℕ) → Moves p part b b 0 u ws u ws
moves_none p part b u ws = record { go = λ ys t j. rw (add-zero j) }

pub moves_on : {p : Phase} {part : List ℕ} {b i k u : ℕ} {ws : List ℕ} {v : ℕ} {vs : List ℕ} {i' k' v' : ℕ} {vs' : List ℕ}
    → Moves p part b i k u ws v vs → Moves p part i i' k' v vs v' vs' → Moves p part b i' (k + k') u ws v' vs'
moves_on {k = k} {k' = k'} m n = record { go = λ ys t j. m.go ys t j ∙ n.go ys t (j + k) ∙ rw (add_assoc j k k') }

module _ (p : Phase) (part : List ℕ) (b i k u : ℕ) (ws : List ℕ) (v : ℕ) (vs : List ℕ) (m : Moves p part b i k u ws v vs) (h : i + width p ≤ length part) where
  long : (ys : List ℕ) → width p ≤ length (drop i part ++ ys)
  long ys = simp (length-append, length-drop) (omega arith)

  seen : (ys : List ℕ) → take (width p) (drop i part ++ ys) ≡ take (width p) (drop i part)
  seen ys = take-append-le (width p) (drop i part) ys (simp length-drop (omega arith))

  gone : (n : ℕ) → n ≤ width p → (ys : List ℕ) → drop n (drop i part ++ ys) ≡ drop (i + n) part ++ ys
  gone n q ys = drop-append-le n (drop i part) ys (simp length-drop (omega arith)) ∙ rw drop-drop

  pub moves_skip : says p (take (width p) (drop i part)) ≡ fails → Moves p part b (i + 1) (k + 1) u ws v vs
  moves_skip e = record {
    go = λ ys t j.
        m.go ys t j
        ∙ comes_skip p (drop i part ++ ys) (t + i) (j + k) v vs (long ys) (rw (seen ys) e)
        ∙ rw (gone 1 (width_pos p) ys, add_assoc t i 1, add_assoc j k 1);
  }

  pub moves_sample : (x : Sample) → says p (take (width p) (drop i part)) ≡ passes (samples (x ∷ [])) → follows p (samples (x ∷ [])) ≡ p → v + 3 ≤ length vs
      → Moves p part b (i + width p) k u ws (v + 3) (sets vs v (words_of x))
  moves_sample x e f q = record {
    go = λ ys t j.
        m.go ys t j
        ∙ comes_sample p (drop i part ++ ys) (t + i) (j + k) v vs (long ys) x (rw (seen ys) e) q
        ∙ rw (f, gone (width p) (le_refl (width p)) ys, add_assoc t i (width p));
  }
