-- Descriptors: A5 5A, a 32-bit word whose low 30 bits are the length and whose top two are the send mode, and a type byte.
use Rattle.std.specs.Prelude.{ℕ, ◌+◌, ◌*◌, ◌/◌, ◌%◌, Bool, not, ◌&&◌, ◌||◌, List, [], ◌∷◌, ◌++◌, ltb, leb, eqb, length, get_or}
use Rattle.paper.specs.Outcome.{Outcome, gives, refuse_if}
use Rattle.paper.specs.Refusals.{number_of}
use Rattle.paper.specs.Words.{value_of, bytes_of}
use Rattle.paper.specs.declared.refusal.Refusal.TheVariants.{NotADescriptor}
use Rattle.wire.specs.Request.{start_byte}
use Rattle.wire.specs.declared.descriptor.Descriptor.{Descriptor}

abbrev pub flag_byte : ℕ
flag_byte = 0x5A

-- how many lengths 30 bits hold
abbrev pub lengths : ℕ
lengths = 0x40000000

-- the word in bytes 2 to 5
abbrev pub word_in : List ℕ → ℕ
word_in xs = value_of (get_or xs 2 0 ∷ get_or xs 3 0 ∷ get_or xs 4 0 ∷ get_or xs 5 0 ∷ [])

-- 7 bytes, the right flags, a send mode of 0 or 1
unfoldable pub is_descriptor : List ℕ → Bool
is_descriptor xs = eqb (length xs) 7 && eqb (get_or xs 0 0) start_byte && eqb (get_or xs 1 0) flag_byte && leb (word_in xs / lengths) 1

unfoldable pub descriptor_in : List ℕ → Descriptor
descriptor_in xs = record { length = word_in xs % lengths; mode = word_in xs / lengths; kind = get_or xs 6 0 }

-- reading
unfoldable pub descriptor_of : List ℕ → Outcome Descriptor
descriptor_of xs = refuse_if (not (is_descriptor xs)) (number_of NotADescriptor) (gives (descriptor_in xs))

-- writing: a send mode over 1 and a length over 30 bits are refused
unfoldable pub bytes_of_descriptor : Descriptor → Outcome (List ℕ)
bytes_of_descriptor d =
    refuse_if (ltb 1 d.mode || leb lengths d.length) (number_of NotADescriptor)
    (gives (start_byte ∷ flag_byte ∷ bytes_of 4 (d.length + d.mode * lengths) ++ d.kind ∷ []))

-- the descriptors that are expected: for SCAN and FORCE_SCAN, for GET_INFO, for GET_HEALTH
unfoldable pub scan_descriptor : List ℕ
scan_descriptor = start_byte ∷ flag_byte ∷ 0x05 ∷ 0x00 ∷ 0x00 ∷ 0x40 ∷ 0x81 ∷ []

unfoldable pub info_descriptor : List ℕ
info_descriptor = start_byte ∷ flag_byte ∷ 0x14 ∷ 0x00 ∷ 0x00 ∷ 0x00 ∷ 0x04 ∷ []

unfoldable pub health_descriptor : List ℕ
health_descriptor = start_byte ∷ flag_byte ∷ 0x03 ∷ 0x00 ∷ 0x00 ∷ 0x00 ∷ 0x06 ∷ []
