-- How a descriptor's promises are met: `descriptor_no`, `descriptor_yes`, and which checks decide.
use Prim.Native.Nat.{ℕ, ◌+◌, ◌*◌, ◌/◌, ◌%◌, ◌<◌, ◌≤◌}
use mathlib.Core.Path.{◌≡◌, sym, ap, ◌∙◌}
use mathlib.Core.Bool.{true, false, not}
use mathlib.Core.List.{List, [], ◌∷◌, ◌++◌}
use lib.ListN.{length, get_or}
use borrow.Author.Tests.{lt-ltb, le-ltb, le-leb, lt-leb, eq-eqb, ne_eqb}
use Rattle.paper.specs.Outcome.{gives, refuses}
use Rattle.paper.specs.Refusals.{number_of, outcome}
use Rattle.std.specs.Prelude.{Ok, Err}
use Rattle.paper.specs.Words.{bytes_of}
use Rattle.paper.specs.declared.refusal.Refusal.TheVariants.{NotADescriptor}
use Rattle.paper.proofs.Outcome.{refuse_yes, refuse_no}
use Rattle.wire.specs.Request.{start_byte}
use Rattle.wire.specs.Descriptor.{flag_byte, lengths, word_in, is_descriptor, descriptor_in, descriptor_of, bytes_of_descriptor}
use Rattle.wire.specs.Promises.{DescriptorIsRead}
use Rattle.wire.specs.declared.descriptor.Descriptor.{Descriptor}

pub descriptor_no : (xs : List ℕ) → is_descriptor xs ≡ false → DescriptorIsRead xs (Err NotADescriptor)
unfolding outcome descriptor_of
descriptor_no xs e = record { answer = sym (refuse_yes (number_of NotADescriptor) (gives (descriptor_in xs)) (ap not e)) }

pub descriptor_yes : (xs : List ℕ) (d : Descriptor) → is_descriptor xs ≡ true → d ≡ descriptor_in xs → DescriptorIsRead xs (Ok d)
unfolding outcome descriptor_of
descriptor_yes xs d e q = record { answer = ap gives q ∙ sym (refuse_no (number_of NotADescriptor) (gives (descriptor_in xs)) (ap not e)) }

module _ (xs : List ℕ) where
  pub not_seven : (length xs ≡ 7 → ⊥) → is_descriptor xs ≡ false
  unfolding is_descriptor
  not_seven n = simp (ne_eqb _ _ n)

  module _ (seven : length xs ≡ 7) where
    pub not_start : (get_or xs 0 0 ≡ start_byte → ⊥) → is_descriptor xs ≡ false
    unfolding is_descriptor
    not_start n = simp (eq-eqb _ _ seven, ne_eqb _ _ n)

    module _ (start : get_or xs 0 0 ≡ start_byte) where
      pub not_flag : (get_or xs 1 0 ≡ flag_byte → ⊥) → is_descriptor xs ≡ false
      unfolding is_descriptor
      not_flag n = simp (eq-eqb _ _ seven, eq-eqb _ _ start, ne_eqb _ _ n)

      module _ (flag : get_or xs 1 0 ≡ flag_byte) (w : ℕ) (word : w ≡ word_in xs) where
        pub not_mode : 1 < w / lengths → is_descriptor xs ≡ false
        unfolding is_descriptor
        not_mode h = simp (eq-eqb _ _ seven, eq-eqb _ _ start, eq-eqb _ _ flag, ← word, lt-leb _ _ h)

        pub all_four : w / lengths ≤ 1 → is_descriptor xs ≡ true
        unfolding is_descriptor
        all_four h = simp (eq-eqb _ _ seven, eq-eqb _ _ start, eq-eqb _ _ flag, ← word, le-leb _ _ h)

        pub its_fields : ◌≡◌ {A = Descriptor} (record { length = w % lengths; mode = w / lengths; kind = get_or xs 6 0 }) (descriptor_in xs)
        unfolding descriptor_in
        its_fields = rw word

module _ (d : Descriptor) where
  pub mode_over : 1 < d.mode → bytes_of_descriptor d ≡ refuses (number_of NotADescriptor)
  unfolding bytes_of_descriptor
  mode_over h = refuse_yes (number_of NotADescriptor) _ (simp (lt-ltb _ _ h))

  pub length_over : d.mode ≤ 1 → lengths ≤ d.length → bytes_of_descriptor d ≡ refuses (number_of NotADescriptor)
  unfolding bytes_of_descriptor
  length_over l h = refuse_yes (number_of NotADescriptor) _ (simp (le-ltb _ _ l, le-leb _ _ h))

  pub bytes_given : d.mode ≤ 1 → d.length < lengths
      → bytes_of_descriptor d ≡ gives (start_byte ∷ flag_byte ∷ bytes_of 4 (d.length + d.mode * lengths) ++ d.kind ∷ [])
  unfolding bytes_of_descriptor
  bytes_given l h = refuse_no (number_of NotADescriptor) _ (simp (le-ltb _ _ l, lt-leb _ _ h))

-- what the writer puts
pub seven : (v kind : ℕ) {w : List ℕ} → w ≡ bytes_of 4 v
    → start_byte ∷ flag_byte ∷ get_or w 0 0 ∷ get_or w 1 0 ∷ get_or w 2 0 ∷ get_or w 3 0 ∷ kind ∷ [] ≡ start_byte ∷ flag_byte ∷ bytes_of 4 v ++ kind ∷ []
unfolding bytes_of
seven v kind e = rw e
