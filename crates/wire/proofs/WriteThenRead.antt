-- What is written reads back to the same values: `sample_back`, `words_back`, `descriptor_back`, `info_back`, `health_back`.
-- A premise on a number is its width: every value that the code can hold meets it.
use Prim.Native.Nat.{ℕ, ◌+◌, ◌*◌, ◌/◌, ◌%◌, ◌<◌, ◌≤◌}
use mathlib.Core.Path.{◌≡◌, refl, sym, ap, ◌∙◌}
use mathlib.Core.Bool.{Bool, true, false, not, ◌||◌}
use mathlib.Core.List.{List, [], ◌∷◌, ◌++◌}
use native.Mathlib.Omega.{arith}
use lib.Dec.{eqb, ltb, leb}
use lib.ListN.{length}
use borrow.Author.Tests.{eq-eqb, ne_eqb, ltb-false, leb-false, not-false}
use Rattle.paper.specs.Outcome.{gives}
use Rattle.paper.specs.Refusals.{number_of}
use Rattle.paper.specs.Words.{value_of, bytes_of}
use Rattle.paper.specs.declared.refusal.Refusal.TheVariants.{NotASample, NotADescriptor, NotAReply}
use Rattle.paper.proofs.Outcome.{refuse_no, refuse_not, gives_one}
use Rattle.paper.proofs.Words.{value_of_bytes}
use Rattle.wire.specs.Sample.{angles, angle_in, is_sample, sample_in, sample_of, first_byte, fit, bytes_of_sample, mark, words_of, words_of_sample, sample_from, sample_of_words}
use Rattle.wire.specs.Request.{start_byte}
use Rattle.wire.specs.Descriptor.{flag_byte, lengths, word_in, descriptor_of, bytes_of_descriptor}
use Rattle.wire.specs.Reply.{error_status, info_in, info_of, bytes_of_info, health_in, health_of, bytes_of_health}
use Rattle.wire.proofs.Samples.{passes_all, fit_means, words_are}
use Rattle.wire.proofs.Descriptors.{all_four, its_fields}
use Rattle.wire.proofs.Replies.{status_fit}
use Rattle.wire.specs.declared.sample.Sample.{Sample}
use Rattle.wire.specs.declared.descriptor.Descriptor.{Descriptor}
use Rattle.wire.specs.declared.reply.Info.{Info}
use Rattle.wire.specs.declared.reply.Health.{Health}

-- of two tests neither of which holds
pub neither : (a b : Bool) → a || b ≡ false → (a ≡ false) × (b ≡ false)
neither true b e = let z : ◌≡◌ {A = ℕ} 0 1 = cc in absurd (omega arith)
neither false b e = (refl, e)

-- ---- byte 0 of a sample

first_start : (b : Bool) (q : ℕ) → eqb (first_byte b q % 2) 1 ≡ b
unfolding first_byte
first_start true q = eq-eqb ((q * 4 + 1) % 2) 1 (omega arith)
first_start false q = ne_eqb ((q * 4 + 2) % 2) 1 (λ e. omega arith)

first_differs : (b : Bool) (q : ℕ) → first_byte b q % 2 ≡ first_byte b q / 2 % 2 → ⊥
unfolding first_byte
first_differs true q e = let h : (q * 4 + 1) / 2 ≡ q * 2 = omega arith in let f = rw h at e in omega arith
first_differs false q e = let h : (q * 4 + 2) / 2 ≡ q * 2 + 1 = omega arith in let f = rw h at e in omega arith

first_quality : (b : Bool) (q : ℕ) → first_byte b q / 4 ≡ q
unfolding first_byte
first_quality true q = omega arith
first_quality false q = omega arith

-- ---- samples

same_sample : (m : Sample) {b : Bool} {q a d : ℕ} → b ≡ m.start → q ≡ m.quality → a ≡ m.angle.0 → d ≡ m.distance.0
    → ◌≡◌ {A = Sample} (record { start = b; quality = q; angle = record { 0 = a }; distance = record { 0 = d } }) m
same_sample m e f g h = rw (e, f, g, h)

-- the five bytes of a sample
five_bytes : Sample → List ℕ
five_bytes m = first_byte m.start m.quality ∷ (m.angle.0 % 128 * 2 + 1) ∷ (m.angle.0 / 128) ∷ bytes_of 2 m.distance.0

angle_back : (a : ℕ) → (a % 128 * 2 + 1) / 2 + a / 128 * 128 ≡ a
angle_back a = omega arith

five_sample : (m : Sample) → m.distance.0 < 65536 → sample_in (five_bytes m) ≡ m
unfolding sample_in angle_in bytes_of value_of five_bytes
five_sample m w = same_sample m (first_start m.start m.quality) (first_quality m.start m.quality) (angle_back m.angle.0) (value_of_bytes 2 m.distance.0 w)

five_passes : (m : Sample) → m.angle.0 < angles → is_sample (five_bytes m) ≡ true
unfolding is_sample bytes_of five_bytes angle_in
five_passes m h =
    passes_all (five_bytes m) (first_differs m.start m.quality) (λ e. omega arith) (rw (angle_back m.angle.0) h)

pub sample_back : (m : Sample) (xs : List ℕ) → m.distance.0 < 65536 → bytes_of_sample m ≡ gives xs → sample_of xs ≡ gives m
unfolding bytes_of_sample sample_of five_bytes
sample_back m xs w e =
    let p = refuse_not (not (fit m.angle.0 m.quality)) (number_of NotASample) (gives (five_bytes m)) e in
    let f = fit_means m.angle.0 m.quality (not-false _ p.0) in
    rw (← gives_one p.1) (refuse_no (number_of NotASample) _ (ap not (five_passes m f.0)) ∙ ap gives (five_sample m w))

mark_start : (b : Bool) (q : ℕ) → eqb (mark b q % 2) 1 ≡ b
unfolding mark
mark_start true q = eq-eqb ((q * 2 + 1) % 2) 1 (omega arith)
mark_start false q = ne_eqb ((q * 2 + 0) % 2) 1 (λ e. omega arith)

mark_quality : (b : Bool) (q : ℕ) → mark b q / 2 ≡ q
unfolding mark
mark_quality true q = omega arith
mark_quality false q = omega arith

pub words_back : (m : Sample) (ws : List ℕ) → words_of_sample m ≡ gives ws → sample_of_words ws ≡ gives m
unfolding words_of_sample words_of sample_of_words sample_from
words_back m ws e =
    let p = refuse_not (not (fit m.angle.0 m.quality)) (number_of NotASample) (gives (words_of m)) e in
    let k : ℕ = mark m.start m.quality in
    let f : true ≡ fit m.angle.0 (k / 2) = rw (mark_quality m.start m.quality) (sym (not-false _ p.0)) in
    rw (← gives_one p.1)
    (refuse_no (number_of NotASample) _ (ap not (words_are m.angle.0 m.distance.0 k f refl))
    ∙ ap gives (same_sample m (mark_start m.start m.quality) (mark_quality m.start m.quality) refl refl))

-- ---- descriptors

same_descriptor : (d : Descriptor) {l m : ℕ} → l ≡ d.length → m ≡ d.mode → ◌≡◌ {A = Descriptor} (record { length = l; mode = m; kind = d.kind }) d
same_descriptor d e f = rw (e, f)

pub descriptor_back : (d : Descriptor) (xs : List ℕ) → bytes_of_descriptor d ≡ gives xs → descriptor_of xs ≡ gives d
unfolding bytes_of_descriptor descriptor_of bytes_of
descriptor_back d xs e =
    let v : ℕ = d.length + d.mode * lengths in
    let ys : List ℕ = start_byte ∷ flag_byte ∷ bytes_of 4 v ++ d.kind ∷ [] in
    let p = refuse_not (ltb 1 d.mode || leb lengths d.length) (number_of NotADescriptor) (gives ys) e in
    let n = neither (ltb 1 d.mode) (leb lengths d.length) p.0 in
    let m : d.mode ≤ 1 = ltb-false 1 d.mode n.0 in
    let l : d.length < lengths = leb-false lengths d.length n.1 in
    let w : v ≡ word_in ys = sym (value_of_bytes 4 v (omega arith)) in
    let a : v / lengths ≡ d.mode = omega arith in
    let b : v % lengths ≡ d.length = omega arith in
    rw (← gives_one p.1)
    (refuse_no (number_of NotADescriptor) _ (ap not (all_four ys refl refl refl v w (omega arith)))
    ∙ ap gives (sym (its_fields ys refl refl refl v w) ∙ same_descriptor d b a))

-- ---- replies

pub info_back : (i : Info) (xs : List ℕ) → length i.serial ≡ 16 → bytes_of_info i ≡ gives xs → info_of xs ≡ gives i
unfolding bytes_of_info info_of info_in
info_back i xs l e =
    let n : length (i.model ∷ i.minor ∷ i.major ∷ i.hardware ∷ i.serial) ≡ 20 = omega arith in
    rw (← gives_one e) (refuse_no (number_of NotAReply) _ (ap not (eq-eqb _ 20 n)))

same_health : (h : Health) {c : ℕ} → c ≡ h.error → ◌≡◌ {A = Health} (record { status = h.status; error = c }) h
same_health h e = rw e

pub health_back : (h : Health) (xs : List ℕ) → h.error < 65536 → bytes_of_health h ≡ gives xs → health_of xs ≡ gives h
unfolding bytes_of_health health_of health_in bytes_of value_of
health_back h xs w e =
    let ys : List ℕ = h.status ∷ bytes_of 2 h.error in
    let p = refuse_not (ltb error_status h.status) (number_of NotAReply) (gives ys) e in
    rw (← gives_one p.1)
    (refuse_no (number_of NotAReply) _ (ap not (status_fit ys refl (ltb-false error_status h.status p.0)))
    ∙ ap gives (same_health h (value_of_bytes 2 h.error w)))
