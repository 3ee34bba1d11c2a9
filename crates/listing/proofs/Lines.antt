-- The lines of a text, and how much room each takes: `turn_added` and `turn_line_lem` (the pieces of one make it), `line_refused`, `lines_next` (one turn more), `turn_same`
-- (the part that `turn` hands out has the line of the turn), `text_held` and `text_refused` (the whole text).
use Rattle.std.proofs.Common.{◌≡◌, ℕ, ◌+◌, ◌<◌, ◌≤◌, Bool, true, false, List, ◌++◌, length, refl, sym, ap, ◌∙◌, inl, inr, arith, length-append, ne_eqb, eq-eqb, ◌*◌, ◌-◌, [], ◌∷◌, append_assoc, append-nil, add-one}
use Rattle.std.specs.Prelude.{Ok, Err}
use Rattle.std.proofs.lemmas.Bool.{cases_lt}
use Rattle.std.proofs.lemmas.List.Sums.{count_by-le-length}
use Rattle.paper.specs.Outcome.{Outcome, gives, refuses, mapped}
use Rattle.paper.specs.Refusals.{number_of, outcome}
use Rattle.paper.specs.declared.refusal.Refusal.{Refusal}
use Rattle.paper.proofs.Outcome.{gives_one, mapped_given}
use Rattle.record.specs.Record.{Turn, turn_of, reads, held}
use Rattle.record.specs.Promises.{NumberGiven, CountGiven}
use Rattle.ring.specs.Ring.{head_of, IsRing, held as held_by, turn_at, first_turns, turns}
use Rattle.ring.specs.Answers.{counting}
use Rattle.ring.specs.Promises.{TurnGiven}
use Rattle.ring.proofs.Slots.{held_min}
use Rattle.ring.proofs.Answered.{given_yes, given_no, mapped-refuses, ring_ok, ring_means, asking_ok, reading_ok, reading_record}
use Rattle.record.proofs.Reading.{reads_long}
use Rattle.text.specs.Decimal.{decimal}
use Rattle.text.specs.Refused.{space, newline, refused_line}
use Rattle.text.specs.Appends.{Appends, PieceAdded}
use Rattle.text.specs.Promises.{PiecePut}
use Rattle.text.specs.declared.Text.{Text}
use Rattle.text.proofs.Appends.{append_more}
use Rattle.text.proofs.Decimal.{decimal_short}
use Rattle.text.proofs.Pieces.{added_none, added_first, added_more, added_is}
use Rattle.text.proofs.Refused.{refused_short}
use Rattle.listing.specs.Text.{filled, nearest, distance, turn_line, line_by, lines, held_line, text_by, text_of, room_for, AddedWithin}
use Rattle.listing.proofs.Cells.{full, filled_count, turn_not}

-- what is refused is refused for the same reason
pub refused_same : {A B : Type 0} (f : A → B) (o : Outcome A) (q : Refusal) → outcome (Err q) ≡ mapped f o → o ≡ refuses (number_of q)
unfolding outcome
refused_same f o q e = mapped-refuses f o (sym e)

-- a value that is told of a turn
told : {A : Type 0} (f : Turn → A) (o : Outcome Turn) {a : A} {t : Turn} → outcome (Ok a) ≡ mapped f o → o ≡ gives t → a ≡ f t
unfolding outcome mapped
told f o e g = gives_one (e ∙ ap (mapped f) g)

-- ---- room

distance_short : (q : ℕ) → q < 65536 → length (distance q) ≤ 5
unfolding distance
distance_short q l =
    elim (cases_lt q 1) [
      | inl z ↦ rw (eq-eqb q 0 (omega arith)) (omega arith)
      | inr g ↦ rw (ne_eqb q 0 (omega arith)) (decimal_short 4 q (omega arith))
    ]

-- the line of these numbers
line_of : ℕ → ℕ → List ℕ → List ℕ
line_of number count cells = decimal number ++ space ++ (decimal count ++ space) ++ (decimal (filled cells) ++ space) ++ distance (nearest cells) ++ newline

line_short : (number count : ℕ) (cells : List ℕ) → number < 4294967296 → count < 65536 → length cells ≤ 360 → nearest cells < 65536 → length (line_of number count cells) ≤ 27
unfolding line_of
line_short number count cells a b c d =
    simp length-append
    (omega (
      arith,
      decimal_short 9 number (omega arith),
      decimal_short 4 count (omega arith),
      decimal_short 2 (filled cells) (omega (arith, filled_count cells, count_by-le-length full cells)),
      distance_short (nearest cells) d,
    ))

-- ---- one line

-- the pieces of a line, one behind the other
pub turn_line_lem : (rec : List ℕ) {was one two three four is : List ℕ} {from a b c d r number count n q : ℕ}
    → Appends was from (decimal number ++ space) a one → number ≡ (held rec).number
    → Appends one a (decimal count ++ space) b two → count ≡ (held rec).count
    → Appends two b (decimal n ++ space) c three → n ≡ filled (held rec).cells
    → Appends three c (distance q) d four → q ≡ nearest (held rec).cells
    → Appends four d newline r is
    → Appends was from (turn_line (held rec)) r is
unfolding turn_line
turn_line_lem rec p₁ e₁ p₂ e₂ p₃ e₃ p₄ e₄ p₅ =
    append_is (append_more (append_more (append_more (append_more p₁ p₂) p₃) p₄) p₅) (rw (e₁, e₂, e₃, e₄))
  where
    append_is : {was is xs ys : List ℕ} {from r : ℕ} → Appends was from xs r is → xs ≡ ys → Appends was from ys r is
    append_is p e = rw e at p

line_told : {o : Outcome Turn} {t : Turn} {number count : ℕ} {cells : List ℕ} → o ≡ gives t → number ≡ t.number → count ≡ t.count → cells ≡ t.cells
    → line_of number count cells ≡ line_by o
unfolding line_by turn_line line_of
line_told e a b c = rw (e, a, b, c)

pub turn_added : {was is : Text} (rec : List ℕ) {number count : ℕ} (cells : List ℕ) → NumberGiven rec (Ok number) → CountGiven rec (Ok count)
    → outcome (Ok cells) ≡ mapped (λ (t : Turn). t.cells) (turn_of rec) → number < 4294967296 → count < 65536 → length cells ≡ 360 → nearest cells < 65536
    → PieceAdded was (decimal number ++ space ++ (decimal count ++ space) ++ (decimal (filled cells) ++ space) ++ distance (nearest cells) ++ newline) is
    → AddedWithin 27 was (line_by (turn_of rec)) is
unfolding outcome line_of
turn_added rec {number} {count} cells n c e a b l d p =
    let g = mapped_given (λ (t : Turn). t.cells) (turn_of rec) e in
    let line = line_told g.1.0 (told (λ t. t.number) (turn_of rec) n.answer g.1.0) (told (λ t. t.count) (turn_of rec) c.answer g.1.0) g.1.1 in
    record { added = added_is p line; short = rw line at (line_short number count cells a b (omega arith) d) }

pub line_refused : {was is : Text} (rec : List ℕ) (q : Refusal) (m : ℕ) → turn_of rec ≡ refuses (number_of q) → m ≡ number_of q → m < 256
    → PiecePut was (refused_line m) is → AddedWithin 27 was (line_by (turn_of rec)) is
unfolding line_by
line_refused rec q m e f l p =
    let line : refused_line m ≡ line_by (turn_of rec) = rw (e, f) in
    record { added = added_is (added_first p) line; short = omega (arith, ap length line, refused_short m l) }

-- ---- all lines

lines-append : (ts us : List (List ℕ)) → lines (ts ++ us) ≡ lines ts ++ lines us
unfolding lines
lines-append [] us = refl
lines-append (t ∷ ts) us = ap (λ (xs : List ℕ). line_by (turn_of t) ++ xs) (lines-append ts us) ∙ sym (append_assoc (line_by (turn_of t)) (lines ts) (lines us))

pub lines_more : (S : ℕ) (mem : List ℕ) (i : ℕ) → lines (first_turns S mem i) ++ line_by (turn_of (turn_at S mem i)) ≡ lines (first_turns S mem (i + 1))
unfolding first_turns lines
lines_more S mem i =
    rw (add-one, lines-append (first_turns S mem i) (turn_at S mem i ∷ []), append-nil (line_by (turn_of (turn_at S mem i))))

pub lines_all : (S : ℕ) (mem : List ℕ) (i : ℕ) → i ≡ held_by S (head_of mem) → lines (first_turns S mem i) ≡ lines (turns S mem)
unfolding turns
lines_all S mem i e = rw e

-- the part that is handed out has the line of the turn, also where the turn does not read
pub turn_same : (S : ℕ) (mem : List ℕ) (i : ℕ) (part : List ℕ) → IsRing S mem → i < held_by S (head_of mem) → TurnGiven S mem i part
    → line_by (turn_of part) ≡ line_by (turn_of (turn_at S mem i))
turn_same S mem i part v l p = go (reads (turn_at S mem i)) refl
  where
    go : (t : Bool) → reads (turn_at S mem i) ≡ t → line_by (turn_of part) ≡ line_by (turn_of (turn_at S mem i))
    go true r =
        ap (λ (t : List ℕ). line_by (turn_of t))
        (p.answer ∙ given_yes (λ t. t) [] (reading_ok S mem i (asking_ok S mem i (ring_ok S mem (gives tt) v.size v.head) l) r))
    go false r =
        let none : part ≡ [] = p.answer ∙ given_no (λ t. t) [] (reading_record S mem i (asking_ok S mem i (ring_ok S mem (gives tt) v.size v.head) l) r) in
        ap (λ (t : List ℕ). line_by (turn_of t)) none
        ∙ ap line_by (turn_not [] (sym (reads_long [] (λ e. omega arith))) ∙ sym (turn_not (turn_at S mem i) r))

pub lines_none : (S : ℕ) (mem : List ℕ) (was : Text) → AddedWithin (27 * 0) was (lines (first_turns S mem 0)) was
unfolding lines first_turns
lines_none S mem was = record { added = added_none was; short = omega arith }

pub lines_next : (S : ℕ) (mem : List ℕ) (i : ℕ) {was mid is : Text} (part : List ℕ) → line_by (turn_of part) ≡ line_by (turn_of (turn_at S mem i))
    → AddedWithin (27 * i) was (lines (first_turns S mem i)) mid → AddedWithin 27 mid (line_by (turn_of part)) is
    → AddedWithin (27 * (i + 1)) was (lines (first_turns S mem (i + 1))) is
lines_next S mem i part e p q =
    let line = rw e at q.added in
    let more = lines_more S mem i in
    record {
      added = added_is (added_more p.added line) more;
      short = omega (arith, p.short, q.short, ap length e, ap length more, length-append (lines (first_turns S mem i)) (line_by (turn_of (turn_at S mem i))));
    }

pub lines_end : (S : ℕ) (mem : List ℕ) (i n : ℕ) {was is : Text} → n ≡ held_by S (head_of mem) → i ≡ n
    → AddedWithin (27 * i) was (lines (first_turns S mem i)) is → AddedWithin (27 * n) was (lines (turns S mem)) is
lines_end S mem i n e f p =
    let all = lines_all S mem i (f ∙ e) in
    record { added = added_is p.added all; short = omega (arith, p.short, f, ap length all) }

-- ---- the whole text

-- what a count of turns means
pub turns_counted : (S : ℕ) (mem : List ℕ) (n : ℕ) → 2 ≤ S → S ≤ 128 → counting S mem ≡ gives n → IsRing S mem × (n ≡ held_by S (head_of mem)) × (n ≤ S - 1)
unfolding counting
turns_counted S mem n two byte p =
    let w = ring_means S mem (gives (held_by S (head_of mem))) p in
    let e : n ≡ held_by S (head_of mem) = sym (gives_one w.2) in (
      record { two_slots = two; head_is_byte = byte; size = w.0; head = w.1 },
      e,
      omega (arith, held_min S (head_of mem) two w.1),
    )

held_short : (n : ℕ) → n < 1000 → length (held_line n) ≤ 9
unfolding held_line
held_short n l = simp length-append (omega (arith, decimal_short 2 n (omega arith)))

pub text_held : (S : ℕ) (mem : List ℕ) (n : ℕ) {was mid is : Text} → counting S mem ≡ gives n → n ≤ S - 1 → n < 1000 → PieceAdded was (held_line n) mid
    → AddedWithin (27 * n) mid (lines (turns S mem)) is → AddedWithin (room_for S) was (text_of S mem) is
unfolding text_of text_by
text_held S mem n e l k p q =
    let text : held_line n ++ lines (turns S mem) ≡ text_of S mem = rw e in
    record { added = added_is (added_more p q.added) text; short = omega (arith, ap length text, length-append (held_line n) (lines (turns S mem)), held_short n k, q.short) }

pub text_refused : (S : ℕ) (mem : List ℕ) (q : Refusal) (m : ℕ) {was is : Text} → 2 ≤ S → counting S mem ≡ refuses (number_of q) → m ≡ number_of q → m < 256
    → PiecePut was (refused_line m) is → AddedWithin (room_for S) was (text_of S mem) is
unfolding text_of text_by
text_refused S mem q m two e f l p =
    let text : refused_line m ≡ text_of S mem = rw (e, f) in
    record { added = added_is (added_first p) text; short = omega (arith, ap length text, refused_short m l) }
