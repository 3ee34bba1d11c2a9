-- The lines of what the reader gives, as `scanlist` prints them: bytes in ASCII, each line ended by a newline.
use Rattle.std.specs.Prelude.{ℕ, ◌+◌, ◌*◌, ◌/◌, ◌%◌, cond, ltb, length, take}
use mathlib.Core.List.{List, [], ◌∷◌, ◌++◌, flat_map}
use Rattle.paper.specs.Outcome.{Outcome, gives, refuse_if}
use Rattle.paper.specs.Refusals.{number_of}
use Rattle.paper.specs.declared.refusal.Refusal.TheVariants.{OutputShort}
use Rattle.stream.specs.Table.{Thing, headed, replied, unread, point}
use Rattle.stream.specs.declared.Phase.{Phase}
use Rattle.stream.specs.declared.Phase.TheVariants.{Idle, SeekInfo, SeekHealth, SeekScan, InfoReply, HealthReply, Scanning}
use Rattle.stream.specs.declared.Stop.{Stop}
use Rattle.stream.specs.declared.Stop.TheVariants.{AllTaken, NoRoom, Descriptor, Reply, BadHealth}
use Rattle.text.specs.Decimal.{decimal}
use Rattle.text.specs.Hex.{hex}
use Rattle.text.specs.Refused.{space, newline}

-- `sample `, `reply `, `end taken `, ` skipped ` and ` held `
abbrev pub sample_word : List ℕ
sample_word = 115 ∷ 97 ∷ 109 ∷ 112 ∷ 108 ∷ 101 ∷ 32 ∷ []

abbrev pub reply_word : List ℕ
reply_word = 114 ∷ 101 ∷ 112 ∷ 108 ∷ 121 ∷ 32 ∷ []

abbrev pub end_word : List ℕ
end_word = 101 ∷ 110 ∷ 100 ∷ 32 ∷ 116 ∷ 97 ∷ 107 ∷ 101 ∷ 110 ∷ 32 ∷ []

abbrev pub skipped_word : List ℕ
skipped_word = 32 ∷ 115 ∷ 107 ∷ 105 ∷ 112 ∷ 112 ∷ 101 ∷ 100 ∷ 32 ∷ []

abbrev pub held_word : List ℕ
held_word = 32 ∷ 104 ∷ 101 ∷ 108 ∷ 100 ∷ 32 ∷ []

-- "`descriptor`" and "`bad health`"
abbrev pub descriptor_line : List ℕ
descriptor_line = 100 ∷ 101 ∷ 115 ∷ 99 ∷ 114 ∷ 105 ∷ 112 ∷ 116 ∷ 111 ∷ 114 ∷ 10 ∷ []

abbrev pub bad_health_line : List ℕ
bad_health_line = 98 ∷ 97 ∷ 100 ∷ 32 ∷ 104 ∷ 101 ∷ 97 ∷ 108 ∷ 116 ∷ 104 ∷ 10 ∷ []

-- a word and a number behind it
abbrev pub field : List ℕ → ℕ → List ℕ
field label n = label ++ decimal n

-- "`reply` and the reply's bytes as one word of lower-case hex"
unfoldable pub reply_line : List ℕ → List ℕ
reply_line w = reply_word ++ flat_map hex w ++ newline

-- "`sample S QUALITY ANGLE DISTANCE` in decimal"
unfoldable pub sample_line : ℕ → ℕ → ℕ → ℕ → List ℕ
sample_line s quality angle distance = field sample_word s ++ field space quality ++ field space angle ++ field space distance ++ newline

-- "a line for each thing"
unfoldable pub thing_line : Thing → List ℕ
thing_line headed = descriptor_line
thing_line (replied w) = reply_line w
thing_line unread = bad_health_line
thing_line (point m) = sample_line (cond m.start 1 0) m.quality m.angle.0 m.distance.0

-- "in order"
unfoldable pub thing_lines : List Thing → List ℕ
thing_lines xs = flat_map thing_line xs

-- "at the end `end taken N skipped N held N`"
unfoldable pub end_line : ℕ → ℕ → ℕ → List ℕ
end_line taken skipped held = field end_word taken ++ field skipped_word skipped ++ field held_word held ++ newline

-- ---- of one call, by what it answers

-- each three words are a sample: its angle, its distance, and twice its quality plus S
unfoldable pub row_lines : List ℕ → List ℕ
row_lines [] = []
row_lines (a ∷ []) = []
row_lines (a ∷ d ∷ []) = []
row_lines (a ∷ d ∷ k ∷ ws) = sample_line (k % 2) (k / 2) a d ++ row_lines ws

-- how many of the twenty bytes are the reply, by the phase that the call began in: "info 40 digits, health 6"
unfoldable pub reply_bytes : Phase → ℕ
reply_bytes Idle = 20
reply_bytes SeekInfo = 20
reply_bytes SeekHealth = 20
reply_bytes SeekScan = 20
reply_bytes InfoReply = 20
reply_bytes HealthReply = 3
reply_bytes Scanning = 20

-- the line of what ended a call
unfoldable pub stop_line : Phase → Stop → List ℕ → List ℕ
stop_line p AllTaken reply = []
stop_line p NoRoom reply = []
stop_line p Descriptor reply = descriptor_line
stop_line p Reply reply = reply_line (take (reply_bytes p) reply)
stop_line p BadHealth reply = bad_health_line

-- the text of a call that began in phase p
unfoldable pub call_text : Phase → List ℕ → Stop → List ℕ → List ℕ
call_text p words stop reply = row_lines words ++ stop_line p stop reply

-- bytes that suffice for so many words: 27 for three of them, and 47 for a reply
abbrev pub room_for : ℕ → ℕ
room_for n = 9 * n + 47

-- an output that is shorter than that is refused, also where the text would fit
unfoldable pub call_out : ℕ → Phase → List ℕ → Stop → List ℕ → Outcome (List ℕ)
call_out room p words stop reply = refuse_if (ltb room (room_for (length words))) (number_of OutputShort) (gives (call_text p words stop reply))
