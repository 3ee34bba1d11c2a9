-- The stated room suffices: `call_short` (no text of a call is longer) and `end_short`.
use Prim.Native.Nat.{ℕ, suc, ◌+◌, ◌*◌, ◌/◌, ◌%◌, ◌^◌, ◌≤◌, ◌<◌}
use mathlib.Core.List.{List, [], ◌∷◌, ◌++◌, flat_map}
use native.Mathlib.Omega.{arith}
use lib.ListN.{length, get_or, take, length-append, length-take}
use Rattle.paper.specs.Words.{Each}
use Rattle.stream.specs.declared.Phase.{Phase}
use Rattle.stream.specs.declared.Phase.TheVariants.{Idle, SeekInfo, SeekHealth, SeekScan, InfoReply, HealthReply, Scanning}
use Rattle.stream.specs.declared.Stop.{Stop}
use Rattle.stream.specs.declared.Stop.TheVariants.{AllTaken, NoRoom, Descriptor, Reply, BadHealth}
use Rattle.text.specs.Decimal.{decimal}
use Rattle.text.specs.Hex.{hex}
use Rattle.text.specs.Refused.{space, newline}
use Rattle.text.proofs.Decimal.{decimal_short}
use Rattle.scantext.specs.Lines.{sample_word, reply_word, end_word, skipped_word, held_word, field, reply_line, sample_line, end_line, row_lines, reply_bytes, stop_line, call_text, room_for}
use Rattle.scantext.proofs.Lines.{hexes_long}

-- words of 16 bits
pub each_below : (words : List ℕ) → ((i : ℕ) → get_or words i 0 < 65536) → Each (λ (w : ℕ). w < 65536) words
unfolding Each
each_below [] f = tt
each_below (w ∷ ws) f = (f 0, each_below ws (λ i. f (suc i)))

-- ---- how long lines are

field_short : (label : List ℕ) (k n : ℕ) → n < 10 ^ suc k → length (field label n) ≤ length label + suc k
field_short label k n l = omega (arith, length-append label (decimal n), decimal_short k n l)

sample_short : (s quality angle distance : ℕ) → s < 10 → quality < 65536 → angle < 65536 → distance < 65536 → length (sample_line s quality angle distance) ≤ 27
unfolding sample_line
sample_short s quality angle distance a b c d =
    omega (
      arith,
      length-append (field sample_word s ++ field space quality ++ field space angle ++ field space distance) newline,
      length-append (field sample_word s ++ field space quality ++ field space angle) (field space distance),
      length-append (field sample_word s ++ field space quality) (field space angle),
      length-append (field sample_word s) (field space quality),
      field_short sample_word 0 s (omega arith),
      field_short space 4 quality (omega arith),
      field_short space 4 angle (omega arith),
      field_short space 4 distance (omega arith),
    )

row_short : (words : List ℕ) → Each (λ (w : ℕ). w < 65536) words → length (row_lines words) ≤ 9 * length words
unfolding row_lines Each
row_short [] h = omega arith
row_short (a ∷ []) h = omega arith
row_short (a ∷ d ∷ []) h = omega arith
row_short (a ∷ d ∷ k ∷ ws) h =
    let one = sample_short (k % 2) (k / 2) a d (omega arith) (omega (arith, h.1.1.0)) h.0 h.1.0 in
    omega (arith, length-append (sample_line (k % 2) (k / 2) a d) (row_lines ws), one, row_short ws h.1.1.1)

-- a reply is twenty bytes at most
twenty_most : (p : Phase) → reply_bytes p ≤ 20
unfolding reply_bytes
twenty_most Idle = omega arith
twenty_most SeekInfo = omega arith
twenty_most SeekHealth = omega arith
twenty_most SeekScan = omega arith
twenty_most InfoReply = omega arith
twenty_most HealthReply = omega arith
twenty_most Scanning = omega arith

stop_short : (p : Phase) (stop : Stop) (reply : List ℕ) → length (stop_line p stop reply) ≤ 47
unfolding stop_line reply_line
stop_short p AllTaken reply = omega arith
stop_short p NoRoom reply = omega arith
stop_short p Descriptor reply = omega arith
stop_short p Reply reply =
    let w = take (reply_bytes p) reply in
    omega (arith, length-append (reply_word ++ flat_map hex w) newline, length-append reply_word (flat_map hex w), hexes_long w, length-take (reply_bytes p) reply, twenty_most p)
stop_short p BadHealth reply = omega arith

-- of words of 16 bits
pub call_short : (p : Phase) (words : List ℕ) (stop : Stop) (reply : List ℕ) → Each (λ (w : ℕ). w < 65536) words
    → length (call_text p words stop reply) ≤ room_for (length words)
unfolding call_text
call_short p words stop reply h = omega (arith, length-append (row_lines words) (stop_line p stop reply), row_short words h, stop_short p stop reply)

pub end_short : (taken skipped held : ℕ) → taken < 18446744073709551616 → skipped < 4294967296 → held < 256 → length (end_line taken skipped held) ≤ 59
unfolding end_line
end_short taken skipped held a b c =
    omega (
      arith,
      length-append (field end_word taken ++ field skipped_word skipped ++ field held_word held) newline,
      length-append (field end_word taken ++ field skipped_word skipped) (field held_word held),
      length-append (field end_word taken) (field skipped_word skipped),
      field_short end_word 19 taken (omega arith),
      field_short skipped_word 9 skipped (omega arith),
      field_short held_word 2 held (omega arith),
    )
