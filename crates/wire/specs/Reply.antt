-- Single replies. Info, 20 bytes: model, firmware minor, firmware major, hardware, serial (16). Health, 3 bytes: status, error code (16 bits).
use Rattle.std.specs.Prelude.{ℕ, Bool, not, ◌&&◌, List, [], ◌∷◌, ltb, leb, eqb, length, get_or, drop, replicate}
use Rattle.paper.specs.Outcome.{Outcome, gives, refuse_if}
use Rattle.paper.specs.Refusals.{number_of}
use Rattle.paper.specs.Words.{value_of, bytes_of}
use Rattle.paper.specs.declared.refusal.Refusal.TheVariants.{NotAReply}
use Rattle.wire.specs.declared.reply.Info.{Info}
use Rattle.wire.specs.declared.reply.Health.{Health}

unfoldable pub info_in : List ℕ → Info
info_in xs = record {
  model = get_or xs 0 0;
  minor = get_or xs 1 0;
  major = get_or xs 2 0;
  hardware = get_or xs 3 0;
  serial = drop 4 xs;
}

-- reading the info: a wrong length is refused
unfoldable pub info_of : List ℕ → Outcome Info
info_of xs = refuse_if (not (eqb (length xs) 20)) (number_of NotAReply) (gives (info_in xs))

-- the info that stands where none is given
unfoldable pub blank : Info
blank = record { model = 0; minor = 0; major = 0; hardware = 0; serial = replicate 16 0 }

-- writing the info: all its values are fit
unfoldable pub bytes_of_info : Info → Outcome (List ℕ)
bytes_of_info i = gives (i.model ∷ i.minor ∷ i.major ∷ i.hardware ∷ i.serial)

-- a status over 2 is refused
abbrev pub error_status : ℕ
error_status = 2

unfoldable pub is_health : List ℕ → Bool
is_health xs = eqb (length xs) 3 && leb (get_or xs 0 0) error_status

unfoldable pub health_in : List ℕ → Health
health_in xs = record { status = get_or xs 0 0; error = value_of (get_or xs 1 0 ∷ get_or xs 2 0 ∷ []) }

-- reading health
unfoldable pub health_of : List ℕ → Outcome Health
health_of xs = refuse_if (not (is_health xs)) (number_of NotAReply) (gives (health_in xs))

-- writing health
unfoldable pub bytes_of_health : Health → Outcome (List ℕ)
bytes_of_health h = refuse_if (ltb error_status h.status) (number_of NotAReply) (gives (h.status ∷ bytes_of 2 h.error))
