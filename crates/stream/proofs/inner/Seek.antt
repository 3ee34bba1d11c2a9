-- Seeking, as code does it: `sought_next`, `sought_block` and `sought_on` for the loops, `seek_part` and `seek_then` for the answers.
use mathlib.Core.Path.{◌≡◌, refl, sym, ap, ◌∙◌}
use mathlib.Core.Bool.{Bool, true, false, cond, ◌&&◌, ◌||◌}
use mathlib.Core.List.{List, [], ◌++◌, append-nil, flat_map}
use Prim.Native.Nat.{ℕ, zero, suc, ◌+◌, ◌-◌, ◌≤◌, ◌<◌}
use native.Mathlib.Nat.{zero-add, add-zero, le_refl, sub-zero}
use native.Mathlib.Omega.{arith}
use borrow.Author.Tests.{eqb-false}
use lib.Dec.{eqb}
use lib.ListN.{length, take, drop, get_or, length-append, length-drop}
use Rattle.std.specs.Prelude.{Result, Ok, Err}
use Rattle.std.specs.Result.{is_ok}
use lib.Seq.{get_or-take, get_or-drop, ext_get_or, length-take-le, take-append-le}
use Rattle.framing.specs.Framing.{frame, size, fresh, after}
use Rattle.framing.specs.Run.{events, skipped}
use Rattle.framing.specs.Stages.{fails, passes, step_of}
use Rattle.framing.specs.Calls.{outputs}
use Rattle.stream.specs.declared.Phase.{Phase}
use Rattle.stream.specs.declared.Phase.TheVariants.{SeekInfo, SeekHealth, SeekScan, InfoReply, HealthReply, Scanning}
use Rattle.stream.specs.declared.Stop.TheVariants.{AllTaken, Descriptor}
use Rattle.stream.specs.declared.Reading.{Reading}
use Rattle.wire.specs.Descriptor.{info_descriptor, health_descriptor, scan_descriptor}
use Rattle.stream.specs.Table.{descriptor, headed, same, seeking, width, says, follows, things_of, words_for, ends_call, row_of}
use Rattle.stream.specs.State.{capped, written}
use Rattle.stream.specs.Stops.{reply_for, stop_of}
use Rattle.stream.specs.inner.Account.{put, Account, comes_to, Moves}
use Rattle.stream.specs.inner.Hold.{holding, stopping}
use Rattle.stream.specs.inner.Joint.{Joins, Placed}
use Rattle.stream.specs.inner.Seek.{Seeks, begins, near_by, Sought, Stands, SeekEnd, SoughtTo, place_of, seek_answer}
use Rattle.stream.proofs.Table.{same_true, same_refl}
use Rattle.stream.proofs.inner.Account.{comes_short, comes_ended, moves_none, moves_on, moves_skip}
use Rattle.stream.proofs.inner.Promise.{reading_of, Comes, comes}
use Rattle.stream.proofs.inner.Joint.{not_both, joint_all, joint_only, joint_from, joint_on}

-- ---- what each phase seeks

pub seeks_info : {p : Phase} → p ≡ SeekInfo → Seeks p info_descriptor InfoReply
unfolding width says follows info_descriptor
seeks_info e = rw e (record { wide = refl; long = refl; sought = λ xs. refl; next = refl })

pub seeks_health : {p : Phase} → p ≡ SeekHealth → Seeks p health_descriptor HealthReply
unfolding width says follows health_descriptor
seeks_health e = rw e (record { wide = refl; long = refl; sought = λ xs. refl; next = refl })

pub seeks_scan : {p : Phase} → p ≡ SeekScan → Seeks p scan_descriptor Scanning
unfolding width says follows scan_descriptor
seeks_scan e = rw e (record { wide = refl; long = refl; sought = λ xs. refl; next = refl })

-- ---- place by place

pub sought_none : (d part : List ℕ) (b : ℕ) → b ≤ length part → Sought d part b b
sought_none d part b h = record {
  moves = λ p q s u ws. let e : b - b ≡ 0 = omega arith in rw e (moves_none p part b u ws);
  behind = le_refl b;
  within = h;
}

is_false : (t : Bool) → (t ≡ true → ⊥) → t ≡ false
is_false true f = absurd (f refl)
is_false false f = refl

byte_at : (part : List ℕ) (i k : ℕ) → k < 7 → get_or (take 7 (drop i part)) k 0 ≡ get_or part (i + k) 0
byte_at part i k h = get_or-take 7 (drop i part) k 0 h ∙ get_or-drop i part k 0

says_not : (p q : Phase) (d part : List ℕ) (i k : ℕ) → Seeks p d q → k < 7 → (get_or part (i + k) 0 ≡ get_or d k 0 → ⊥) → says p (take 7 (drop i part)) ≡ fails
unfolding seeking
says_not p q d part i k s h ne =
    s.sought (take 7 (drop i part))
    ∙ rw (is_false (same (take 7 (drop i part)) d) (λ e. ne (sym (byte_at part i k h) ∙ ap (λ (x : List ℕ). get_or x k 0) (same_true (take 7 (drop i part)) d e))))

-- a byte that differs: not at i
pub sought_next : {d part : List ℕ} {b i : ℕ} → Sought d part b i → i + 7 ≤ length part → (k : ℕ) → k < 7 → (get_or part (i + k) 0 ≡ get_or d k 0 → ⊥) → Sought d part b (i + 1)
sought_next {d} {part} {b} {i} s h k l ne =
    let n : i - b + 1 ≡ i + 1 - b = omega (arith, s.behind) in
    record {
      moves = λ p q z u ws.
          let w = z.wide in
          rw n at (moves_skip p part b i (i - b) u ws u ws (s.moves p q z u ws) (omega arith) (rw w (says_not p q d part i k z l ne)));
      behind = omega (arith, s.behind);
      within = omega arith;
    }

-- first so far, and then on
pub sought_on : {d part : List ℕ} {b i j : ℕ} → Sought d part b i → Sought d part i j → Sought d part b j
sought_on {b = b} {i = i} {j = j} s f =
    let n : i - b + (j - i) ≡ j - b = omega (arith, s.behind, f.behind) in
    record {
      moves = λ p q z u ws. rw n at (moves_on (s.moves p q z u ws) (f.moves p q z u ws));
      behind = omega (arith, s.behind, f.behind);
      within = f.within;
    }

-- where the first two bytes do not stand, d does not
sought_off : {d part : List ℕ} {b i : ℕ} → Sought d part b i → i + 7 ≤ length part → begins d part i ≡ false → Sought d part b (i + 1)
unfolding begins
sought_off {d} {part} {b} {i} s h e = by (eqb (get_or part i 0) (get_or d 0 0)) refl
  where
    at_first : get_or part (i + 0) 0 ≡ get_or part i 0
    at_first = ap (λ (k : ℕ). get_or part k 0) (add-zero i)

    by : (t : Bool) → eqb (get_or part i 0) (get_or d 0 0) ≡ t → Sought d part b (i + 1)
    by false f = sought_next s h 0 (omega arith) (λ g. eqb-false _ _ f (sym at_first ∙ g))
    by true f = sought_next s h 1 (omega arith) (eqb-false _ _ (rw f at e))

-- one place more
pub near_next : (d part : List ℕ) (i n : ℕ) {o : Bool} → o ≡ near_by d part i n
    → (o || (eqb (get_or part (i + n) 0) (get_or d 0 0) && eqb (get_or part (i + n + 1) 0) (get_or d 1 0))) ≡ near_by d part i (n + 1)
unfolding near_by begins
near_next d part i n e = let q : n + 1 ≡ suc n = omega arith in rw (q, e) (by (near_by d part i n) (eqb (get_or part (i + n) 0) (get_or d 0 0) && eqb (get_or part (i + n + 1) 0) (get_or d 1 0)))
  where
    by : (o t : Bool) → (o || t) ≡ cond t true o
    by true true = refl
    by true false = refl
    by false true = refl
    by false false = refl

pub sought_block : {d part : List ℕ} {b i : ℕ} (n : ℕ) → Sought d part b i → i + n + 6 ≤ length part → near_by d part i n ≡ false → Sought d part b (i + n)
unfolding near_by
sought_block {i = i} zero s h e = rw (add-zero i) s
sought_block {d} {part} {b} {i} (suc n) s h e = by (begins d part (i + n)) refl (λ f. sought_block n s (omega arith) f)
  where
    by : (t : Bool) → begins d part (i + n) ≡ t → (near_by d part i n ≡ false → Sought d part b (i + n)) → Sought d part b (i + suc n)
    by true f on = not_both true refl (rw f at e)
    by false f on = let q : i + n + 1 ≡ i + suc n = omega arith in rw q at (sought_off (on (rw f at e)) (omega arith) f)

-- found behind what was passed over, or not
pub sought_there : {d part : List ℕ} {b j i : ℕ} → Sought d part b j → Sought d part j i × Stands d part i → SoughtTo d part b (Ok i)
unfolding SeekEnd
sought_there s f = record { sought = sought_on s f.0; end = f.1 }

pub sought_end : {d part : List ℕ} {b i : ℕ} → Sought d part b i → length part < i + 7 → SoughtTo d part b (Err i)
unfolding SeekEnd
sought_end s h = record { sought = s; end = h }

-- ---- what seeking comes to

unfoldable finds : Phase → Phase → List ℕ → Result ℕ ℕ → ℕ → ℕ → List ℕ → Account
finds p q part (Ok i) t k ws = record { taken = t + i + 7; skipped = k; used = 0; words = ws; stop = Descriptor; reply = []; end = fresh q }
finds p q part (Err i) t k ws = record { taken = t + length part; skipped = k; used = 0; words = ws; stop = AllTaken; reply = []; end = record { phase = p; bytes = drop i part } }

finds_answer : (p q : Phase) (part : List ℕ) (r : Result ℕ ℕ) (t k h : ℕ) (ws : List ℕ) → reading_of (t + h) (finds p q part r t k ws) ≡ seek_answer p q part r h (capped k)
unfolding reading_of finds seek_answer written holding stopping
finds_answer p q part (Ok i) t k h ws = let e : t + i + 7 - (t + h) ≡ i + 7 - h = omega arith in rw e
finds_answer p q part (Err i) t k h ws = let e : t + length part - (t + h) ≡ length part - h = omega arith in rw e

finds_words : (p q : Phase) (part : List ℕ) (r : Result ℕ ℕ) (t k : ℕ) (ws : List ℕ) → (finds p q part r t k ws).words ≡ ws
unfolding finds
finds_words p q part (Ok i) t k ws = refl
finds_words p q part (Err i) t k ws = refl

module _ {p q : Phase} {d : List ℕ} (z : Seeks p d q) where
  -- seven bytes that are d
  there : (part : List ℕ) (i : ℕ) → i + 7 ≤ length part → ((j : ℕ) → j < 7 → get_or part (i + j) 0 ≡ get_or d j 0) → says p (take 7 (drop i part)) ≡ passes descriptor
  unfolding seeking
  there part i h f =
      let l : length (take 7 (drop i part)) ≡ 7 = length-take-le 7 (drop i part) (simp length-drop (omega arith)) in
      let e : take 7 (drop i part) ≡ d = ext_get_or 0 (take 7 (drop i part)) d (l ∙ sym z.long) (λ j k. byte_at part i j (omega arith) ∙ f j (omega arith)) in
      z.sought (take 7 (drop i part)) ∙ rw (e, same_refl d)

  module _ {part : List ℕ} {b i : ℕ} where
    finds_full : SoughtTo d part b (Ok i) → (ys ws : List ℕ) (t j : ℕ) → comes_to (fresh p) (drop b part ++ ys) (t + b) j 0 ws ≡ finds p q part (Ok i) t (j + (i - b)) ws
    unfolding finds SeekEnd step_of size outputs events flat_map things_of ends_call words_for row_of skipped put stop_of reply_for after
    finds_full s ys ws t j =
        let w = z.wide in
        let l : 7 ≤ length (drop i part) = simp length-drop (omega (arith, s.end.fits)) in
        let f : take 7 (drop i part ++ ys) ≡ take 7 (drop i part) = take-append-le 7 (drop i part) ys l in
        let v : says p (take (width p) (drop i part ++ ys)) ≡ passes descriptor = rw (w, f) (there part i s.end.fits s.end.same) in
        (s.sought.moves p q z 0 ws).go ys t j
        ∙ comes_ended p (drop i part ++ ys) (t + i) (j + (i - b)) 0 ws (omega (arith, length-append (drop i part) ys)) (frame (width p) descriptor) headed
        (ap (step_of (width p)) v) refl refl refl refl refl
        ∙ rw (w, z.next, add-zero (j + (i - b)))

    finds_end : SoughtTo d part b (Err i) → (ws : List ℕ) (t j : ℕ) → comes_to (fresh p) (drop b part) (t + b) j 0 ws ≡ finds p q part (Err i) t (j + (i - b)) ws
    unfolding finds SeekEnd
    finds_end s ws t j =
        let w = z.wide in
        let n : t + i + length (drop i part) ≡ t + length part = simp length-drop (omega (arith, s.sought.within)) in
        ap (λ (l : List ℕ). comes_to (fresh p) l (t + b) j 0 ws) (sym (append-nil (drop b part)))
        ∙ (s.sought.moves p q z 0 ws).go [] t j
        ∙ ap (λ (l : List ℕ). comes_to (fresh p) l (t + i) (j + (i - b)) 0 ws) (append-nil (drop i part))
        ∙ comes_short p (drop i part) (t + i) (j + (i - b)) 0 ws (simp length-drop (omega (arith, s.end)))
        ∙ rw n

  finds_all : {part : List ℕ} {b : ℕ} (r : Result ℕ ℕ) → SoughtTo d part b r → (ws : List ℕ) (t j : ℕ) → comes_to (fresh p) (drop b part) (t + b) j 0 ws ≡ finds p q part r t (j + (place_of r - b)) ws
  finds_all {part} {b} (Ok i) s ws t j = ap (λ (l : List ℕ). comes_to (fresh p) l (t + b) j 0 ws) (sym (append-nil (drop b part))) ∙ finds_full s [] ws t j
  finds_all (Err i) s ws t j = finds_end s ws t j

-- ---- as code meets it

pub seek_place : {d part : List ℕ} {b : ℕ} (r : Result ℕ ℕ) {h : ℕ} → SoughtTo d part b r → h ≤ 6 → h ≤ length part → Placed 6 part (place_of r) (is_ok r) h
unfolding SeekEnd
seek_place (Ok i) s q l = record { few = q; has = l; within = s.sought.within; whole = λ e. omega (arith, s.end.fits); short = λ e. not_both true refl e }
seek_place (Err i) s q l = record { few = q; has = l; within = s.sought.within; whole = λ e. not_both false e refl; short = λ e. omega (arith, s.end) }

pub seek_from : {part : List ℕ} {h : ℕ} {input d : List ℕ} {i : ℕ} → Joins 6 part h input → SoughtTo d part 0 (Err i) → 6 < length input → h ≤ i
unfolding SeekEnd
seek_from p s q = (joint_from p s.sought.within (omega (arith, s.end)) q).0

module _ {p q : Phase} {d : List ℕ} {part : List ℕ} {h : ℕ} {input : List ℕ} {k₀ : ℕ} {a : Reading} (z : Seeks p d q) (jn : Joins 6 part h input) (ws : List ℕ) where
  in_part : (r : Result ℕ ℕ) → comes_to (fresh p) (take h part ++ input) 0 k₀ 0 ws ≡ finds p q part r 0 (k₀ + (place_of r - 0)) ws
      → a ≡ seek_answer p q part r h (capped (k₀ + place_of r)) → Comes p h part input k₀ ws ws a
  in_part r e f =
      comes _ e (finds_words p q part r 0 (k₀ + (place_of r - 0)) ws)
      (ap (λ (n : ℕ). reading_of n (finds p q part r 0 (k₀ + (place_of r - 0)) ws)) (sym (zero-add h)) ∙ finds_answer p q part r 0 (k₀ + (place_of r - 0)) h ws ∙ rw sub-zero (sym f))

  -- found in the part, or all of the input is in it
  pub seek_part : (r : Result ℕ ℕ) → SoughtTo d part 0 r → (is_ok r ≡ false → length input ≤ 6) → a ≡ seek_answer p q part r h (capped (k₀ + place_of r)) → Comes p h part input k₀ ws ws a
  seek_part (Ok i) s l f = in_part (Ok i) (ap (λ (x : List ℕ). comes_to (fresh p) x 0 k₀ 0 ws) (sym (joint_all jn)) ∙ finds_full z s (drop 6 input) ws 0 k₀) f
  seek_part (Err i) s l f = in_part (Err i) (ap (λ (x : List ℕ). comes_to (fresh p) x 0 k₀ 0 ws) (sym (joint_only jn (l refl))) ∙ finds_end z s ws 0 k₀) f

  -- the input goes on: it is sought in from there
  pub seek_then : (i : ℕ) (r : Result ℕ ℕ) → SoughtTo d part 0 (Err i) → 6 < length input → SoughtTo d input (i - h) r → a ≡ seek_answer p q input r 0 (capped (k₀ + (h + place_of r))) → Comes p h part input k₀ ws ws a
  unfolding SeekEnd
  seek_then i r s l s' f =
      let m : Moves p part 0 i (i - 0) 0 ws 0 ws = s.sought.moves p q z 0 ws in
      let k : ℕ = k₀ + (i - 0) + (place_of r - (i - h)) in
      let b = joint_from jn s.sought.within (omega (arith, s.end)) l in
      let n : k₀ + (i - 0) + (place_of r - (i - h)) ≡ k₀ + (h + place_of r) = omega (arith, s'.sought.behind, b.0) in
      comes _ (joint_on jn m s.sought.within (omega (arith, s.end)) l k₀ ∙ finds_all z r s' ws h (k₀ + (i - 0))) (finds_words p q input r h k ws)
      (ap (λ (y : ℕ). reading_of y (finds p q input r h k ws)) (sym (add-zero h)) ∙ finds_answer p q input r h k 0 ws ∙ rw (n, f))
