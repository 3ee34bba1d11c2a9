-- A line of each kind, byte by byte.
use mathlib.Core.Path.{◌≡◌, refl}
use mathlib.Core.Bool.{true}
use mathlib.Core.List.{[], ◌∷◌, flat_map}
use Rattle.stream.specs.Table.{headed, replied, unread, point}
use Rattle.stream.specs.declared.Phase.TheVariants.{HealthReply}
use Rattle.stream.specs.declared.Stop.TheVariants.{AllTaken, Reply}
use Rattle.text.specs.Decimal.{digits, decimal}
use Rattle.text.specs.Hex.{hex_digit, hex}
use Rattle.text.specs.Refused.{refused_line}
use Rattle.scantext.specs.Lines.{thing_line, reply_line, sample_line, end_line, row_lines, reply_bytes, stop_line, call_text}

-- `descriptor`
pub the_descriptor : thing_line headed ≡ 100 ∷ 101 ∷ 115 ∷ 99 ∷ 114 ∷ 105 ∷ 112 ∷ 116 ∷ 111 ∷ 114 ∷ 10 ∷ []
unfolding thing_line
the_descriptor = refl

-- `reply 00a7ff`
pub the_reply : thing_line (replied (0 ∷ 167 ∷ 255 ∷ [])) ≡ 114 ∷ 101 ∷ 112 ∷ 108 ∷ 121 ∷ 32 ∷ 48 ∷ 48 ∷ 97 ∷ 55 ∷ 102 ∷ 102 ∷ 10 ∷ []
unfolding thing_line reply_line flat_map hex hex_digit
the_reply = refl

-- `bad health`
pub the_bad_health : thing_line unread ≡ 98 ∷ 97 ∷ 100 ∷ 32 ∷ 104 ∷ 101 ∷ 97 ∷ 108 ∷ 116 ∷ 104 ∷ 10 ∷ []
unfolding thing_line
the_bad_health = refl

-- `sample 1 21 8 29628`
pub the_sample : thing_line (point (record { start = true; quality = 21; angle = record { 0 = 8 }; distance = record { 0 = 29628 } })) ≡
    115 ∷ 97 ∷ 109 ∷ 112 ∷ 108 ∷ 101 ∷ 32 ∷ 49 ∷ 32 ∷ 50 ∷ 49 ∷ 32 ∷ 56 ∷ 32 ∷ 50 ∷ 57 ∷ 54 ∷ 50 ∷ 56 ∷ 10 ∷ []
unfolding thing_line sample_line decimal digits
the_sample = refl

-- `end taken 3612 skipped 0 held 4`
pub the_end : end_line 3612 0 4 ≡
    101 ∷ 110 ∷ 100 ∷ 32 ∷ 116 ∷ 97 ∷ 107 ∷ 101 ∷ 110 ∷ 32 ∷ 51 ∷ 54 ∷ 49 ∷ 50 ∷ 32 ∷ 115 ∷ 107 ∷ 105 ∷ 112 ∷ 112 ∷ 101 ∷ 100 ∷ 32 ∷ 48 ∷ 32 ∷ 104 ∷ 101 ∷ 108 ∷ 100 ∷ 32 ∷ 52 ∷ 10 ∷ []
unfolding end_line decimal digits
the_end = refl

-- `refused 1`
pub the_refusal : refused_line 1 ≡ 114 ∷ 101 ∷ 102 ∷ 117 ∷ 115 ∷ 101 ∷ 100 ∷ 32 ∷ 49 ∷ 10 ∷ []
unfolding refused_line decimal digits
the_refusal = refl

-- a call's three words, of which the last is twice the quality plus S: `sample 1 21 8 29628`
pub the_call : call_text HealthReply (8 ∷ 29628 ∷ 43 ∷ []) AllTaken [] ≡
    115 ∷ 97 ∷ 109 ∷ 112 ∷ 108 ∷ 101 ∷ 32 ∷ 49 ∷ 32 ∷ 50 ∷ 49 ∷ 32 ∷ 56 ∷ 32 ∷ 50 ∷ 57 ∷ 54 ∷ 50 ∷ 56 ∷ 10 ∷ []
unfolding call_text row_lines stop_line sample_line decimal digits
the_call = refl

-- of twenty bytes a health reply is three: `reply 00a7ff`
pub the_health : call_text HealthReply [] Reply (0 ∷ 167 ∷ 255 ∷ 1 ∷ 2 ∷ 3 ∷ []) ≡ 114 ∷ 101 ∷ 112 ∷ 108 ∷ 121 ∷ 32 ∷ 48 ∷ 48 ∷ 97 ∷ 55 ∷ 102 ∷ 102 ∷ 10 ∷ []
unfolding call_text row_lines stop_line reply_bytes reply_line flat_map hex hex_digit
the_health = refl
