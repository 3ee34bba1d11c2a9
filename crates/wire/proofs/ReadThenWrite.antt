-- What is read writes back to the same bytes, for lists of bytes: `sample_again`, `words_again`, `descriptor_again`, `info_again`, `health_again`.
use Prim.Native.Nat.{ℕ, ◌+◌, ◌*◌, ◌/◌, ◌%◌, ◌<◌, ◌≤◌}
use mathlib.Core.Path.{◌≡◌, refl, sym, ap, ◌∙◌}
use mathlib.Core.Bool.{Bool, true, false, cond, not, ◌&&◌}
use mathlib.Core.List.{List, [], ◌∷◌, ◌++◌}
use native.Mathlib.Omega.{arith}
use lib.Dec.{eqb}
use lib.ListN.{length, get_or, drop}
use borrow.Author.Tests.{eqb-true, eqb-false, ltb-true, leb-true, not-true, not-false}
use Rattle.paper.specs.Outcome.{gives}
use Rattle.paper.specs.Refusals.{number_of}
use Rattle.paper.specs.Words.{value_of, bytes_of, Bytes}
use Rattle.paper.specs.declared.refusal.Refusal.TheVariants.{NotASample, NotADescriptor, NotAReply}
use Rattle.paper.proofs.Outcome.{refuse_not, gives_one}
use Rattle.paper.proofs.Words.{byte_at, four_bytes, two_bytes}
use Rattle.paper.proofs.Lists.{listed_whole}
use Rattle.wire.specs.Request.{start_byte}
use Rattle.wire.specs.Sample.{angles, angle_in, passes, is_sample, sample_in, sample_of, first_byte, bytes_of_sample, mark, words_of, words_of_sample, are_words, sample_from, sample_of_words}
use Rattle.wire.specs.Descriptor.{flag_byte, lengths, word_in, is_descriptor, descriptor_in, descriptor_of, bytes_of_descriptor}
use Rattle.wire.specs.Reply.{error_status, info_in, info_of, bytes_of_info, is_health, health_in, health_of, bytes_of_health}
use Rattle.wire.specs.declared.sample.Sample.{Sample}
use Rattle.wire.specs.declared.descriptor.Descriptor.{Descriptor}
use Rattle.wire.specs.declared.reply.Info.{Info}
use Rattle.wire.specs.declared.reply.Health.{Health}
use Rattle.wire.proofs.Samples.{fit_both, bytes_fit, words_fit}
use Rattle.paper.proofs.Cases.{both_hold}
use Rattle.wire.proofs.Descriptors.{bytes_given}
use Rattle.wire.proofs.Replies.{health_fit}

-- what a passed check says
pub record Passes (xs : List ℕ) : Type 0 where
  pub five : length xs ≡ 5
  pub differs : get_or xs 0 0 % 2 ≡ get_or xs 0 0 / 2 % 2 → ⊥
  pub check : get_or xs 1 0 % 2 ≡ 0 → ⊥
  pub angle : angle_in (get_or xs 1 0) (get_or xs 2 0) < angles

pub passes_means : (xs : List ℕ) → is_sample xs ≡ true → Passes xs
unfolding is_sample passes
passes_means xs e =
    let a = both_hold (eqb (length xs) 5) _ e in
    let b = both_hold (not (eqb (get_or xs 0 0 % 2) (get_or xs 0 0 / 2 % 2)) && not (eqb (get_or xs 1 0 % 2) 0)) _ a.1 in
    let c = both_hold (not (eqb (get_or xs 0 0 % 2) (get_or xs 0 0 / 2 % 2))) _ b.0 in
    record {
      five = eqb-true (length xs) 5 a.0;
      differs = eqb-false (get_or xs 0 0 % 2) (get_or xs 0 0 / 2 % 2) (not-true _ c.0);
      check = eqb-false (get_or xs 1 0 % 2) 0 (not-true _ c.1);
      angle = ltb-true (angle_in (get_or xs 1 0) (get_or xs 2 0)) angles b.1;
    }

first_again : (b : ℕ) → (b % 2 ≡ b / 2 % 2 → ⊥) → first_byte (eqb (b % 2) 1) (b / 4) ≡ b
unfolding first_byte
first_again b n = go (eqb (b % 2) 1) refl
  where
    go : (t : Bool) → eqb (b % 2) 1 ≡ t → b / 4 * 4 + cond t 1 2 ≡ b
    go true e = let o = eqb-true (b % 2) 1 e in let k : b / 2 % 2 ≡ 0 = omega arith in omega arith
    go false e = let o = eqb-false (b % 2) 1 e in let k : b / 2 % 2 ≡ 1 = omega arith in omega arith

-- the bytes of what five bytes hold
five_again : (b0 b1 b2 b3 b4 : ℕ) → b1 < 256 → b3 < 256 → b4 < 256 → (b0 % 2 ≡ b0 / 2 % 2 → ⊥) → (b1 % 2 ≡ 0 → ⊥)
    → first_byte (eqb (b0 % 2) 1) (b0 / 4) ∷ (angle_in b1 b2 % 128 * 2 + 1) ∷ (angle_in b1 b2 / 128) ∷ bytes_of 2 (value_of (b3 ∷ b4 ∷ []))
    ≡ b0 ∷ b1 ∷ b2 ∷ b3 ∷ b4 ∷ []
unfolding angle_in
five_again b0 b1 b2 b3 b4 h1 h3 h4 n m =
    let a1 : (b1 / 2 + b2 * 128) % 128 * 2 + 1 ≡ b1 = omega arith in
    let a2 : (b1 / 2 + b2 * 128) / 128 ≡ b2 = omega arith in
    rw (first_again b0 n, a1, a2, two_bytes b3 b4 h3 h4)

pub sample_again : (xs : List ℕ) (m : Sample) → Bytes xs → sample_of xs ≡ gives m → bytes_of_sample m ≡ gives xs
unfolding sample_of sample_in
sample_again xs m h e =
    let p = refuse_not (not (is_sample xs)) (number_of NotASample) (gives (sample_in xs)) e in
    let w = passes_means xs (not-false _ p.0) in
    let low = byte_at xs h 0 in
    rw (← gives_one p.1)
    (bytes_fit (sample_in xs) (sym (fit_both _ _ w.angle (omega arith))) refl refl
    ∙ ap gives (five_again (get_or xs 0 0) (get_or xs 1 0) (get_or xs 2 0) (get_or xs 3 0) (get_or xs 4 0) (byte_at xs h 1) (byte_at xs h 3) (byte_at xs h 4) w.differs w.check ∙ listed_whole 5 xs w.five))

-- ---- words

mark_again : (k : ℕ) → mark (eqb (k % 2) 1) (k / 2) ≡ k
unfolding mark
mark_again k = go (eqb (k % 2) 1) refl
  where
    go : (t : Bool) → eqb (k % 2) 1 ≡ t → k / 2 * 2 + cond t 1 0 ≡ k
    go true e = let o = eqb-true (k % 2) 1 e in omega arith
    go false e = let o = eqb-false (k % 2) 1 e in omega arith

pub words_again : (ws : List ℕ) (m : Sample) → sample_of_words ws ≡ gives m → words_of_sample m ≡ gives ws
unfolding sample_of_words sample_from are_words words_of
words_again ws m e =
    let p = refuse_not (not (are_words ws)) (number_of NotASample) (gives (sample_from ws)) e in
    let a = both_hold (eqb (length ws) 3) _ (not-false _ p.0) in
    rw (← gives_one p.1)
    (words_fit (sample_from ws) (sym a.1) refl refl
    ∙ ap gives (rw (mark_again (get_or ws 2 0)) (listed_whole 3 ws (eqb-true (length ws) 3 a.0))))

-- ---- descriptors

seven_again : (b0 b1 b2 b3 b4 b5 b6 : ℕ) → b0 ≡ start_byte → b1 ≡ flag_byte → b2 < 256 → b3 < 256 → b4 < 256 → b5 < 256
    → start_byte ∷ flag_byte
    ∷ bytes_of 4 (value_of (b2 ∷ b3 ∷ b4 ∷ b5 ∷ []) % lengths + value_of (b2 ∷ b3 ∷ b4 ∷ b5 ∷ []) / lengths * lengths) ++ b6 ∷ []
    ≡ b0 ∷ b1 ∷ b2 ∷ b3 ∷ b4 ∷ b5 ∷ b6 ∷ []
seven_again b0 b1 b2 b3 b4 b5 b6 e f h2 h3 h4 h5 =
    let v : ℕ = value_of (b2 ∷ b3 ∷ b4 ∷ b5 ∷ []) in
    let w : v % lengths + v / lengths * lengths ≡ v = omega arith in
    rw (w, four_bytes b2 b3 b4 b5 h2 h3 h4 h5, e, f)

pub descriptor_again : (xs : List ℕ) (d : Descriptor) → Bytes xs → descriptor_of xs ≡ gives d → bytes_of_descriptor d ≡ gives xs
unfolding descriptor_of descriptor_in is_descriptor
descriptor_again xs d h e =
    let p = refuse_not (not (is_descriptor xs)) (number_of NotADescriptor) (gives (descriptor_in xs)) e in
    let a = both_hold (eqb (length xs) 7 && eqb (get_or xs 0 0) start_byte && eqb (get_or xs 1 0) flag_byte) _ (not-false _ p.0) in
    let b = both_hold (eqb (length xs) 7 && eqb (get_or xs 0 0) start_byte) _ a.0 in
    let c = both_hold (eqb (length xs) 7) _ b.0 in
    let m = leb-true (word_in xs / lengths) 1 a.1 in
    let l : word_in xs % lengths < lengths = omega arith in
    rw (← gives_one p.1)
    (bytes_given (descriptor_in xs) m l
    ∙ ap gives
    (seven_again (get_or xs 0 0) (get_or xs 1 0) (get_or xs 2 0) (get_or xs 3 0) (get_or xs 4 0) (get_or xs 5 0) (get_or xs 6 0) (eqb-true _ _ c.1) (eqb-true _ _ b.1) (byte_at xs h 2) (byte_at xs h 3) (byte_at xs h 4) (byte_at xs h 5)
    ∙ listed_whole 7 xs (eqb-true (length xs) 7 c.0)))

-- ---- replies

four_then : (xs : List ℕ) → 4 ≤ length xs → get_or xs 0 0 ∷ get_or xs 1 0 ∷ get_or xs 2 0 ∷ get_or xs 3 0 ∷ drop 4 xs ≡ xs
four_then [] h = absurd (omega arith)
four_then (a ∷ []) h = absurd (omega arith)
four_then (a ∷ b ∷ []) h = absurd (omega arith)
four_then (a ∷ b ∷ c ∷ []) h = absurd (omega arith)
four_then (a ∷ b ∷ c ∷ d ∷ xs) h = refl

pub info_again : (xs : List ℕ) (i : Info) → info_of xs ≡ gives i → bytes_of_info i ≡ gives xs
unfolding info_of info_in bytes_of_info
info_again xs i e =
    let p = refuse_not (not (eqb (length xs) 20)) (number_of NotAReply) (gives (info_in xs)) e in
    let l = eqb-true (length xs) 20 (not-false _ p.0) in
    rw (← gives_one p.1) (ap gives (four_then xs (omega arith)))

pub health_again : (xs : List ℕ) (r : Health) → Bytes xs → health_of xs ≡ gives r → bytes_of_health r ≡ gives xs
unfolding health_of health_in is_health
health_again xs r h e =
    let p = refuse_not (not (is_health xs)) (number_of NotAReply) (gives (health_in xs)) e in
    let a = both_hold (eqb (length xs) 3) _ (not-false _ p.0) in
    rw (← gives_one p.1)
    (health_fit (health_in xs) (leb-true (get_or xs 0 0) error_status a.1)
    ∙ ap gives
    (ap (λ (ys : List ℕ). get_or xs 0 0 ∷ ys) (two_bytes (get_or xs 1 0) (get_or xs 2 0) (byte_at xs h 1) (byte_at xs h 2)) ∙ listed_whole 3 xs (eqb-true (length xs) 3 a.0)))
