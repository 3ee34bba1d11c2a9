-- What a call comes to is its promise: `comes_reads`, from a reader's held bytes and plain lists (`Comes`); `comes` makes such an account.
use mathlib.Core.Path.{◌≡◌, refl, sym, ap, ◌∙◌}
use mathlib.Core.List.{List, [], ◌∷◌, ◌++◌, append_assoc, flat_map}
use Prim.Native.Nat.{ℕ, suc, ◌+◌, ◌-◌, ◌≤◌, ◌<◌, min}
use native.Mathlib.Nat.{add-zero, zero-add, sub-zero}
use native.Mathlib.Omega.{arith}
use lib.ListN.{length, take, drop, set, length-append, length-take, take-append-drop}
use lib.Seq.{sets, sets-eq, length-sets, take_at, drop-set-lt, length-take-le}
use Rattle.paper.specs.Writing.{over}
use Rattle.framing.specs.Framing.{more, fresh, test}
use Rattle.framing.specs.Run.{stopped, joined}
use Rattle.framing.specs.Calls.{words_of as words_in, Answer}
use Rattle.framing.proofs.Calls.{call_words}
use Rattle.framing.proofs.Places.{behind, call_held}
use Rattle.framing.proofs.Windows.{look_few}
use Rattle.wire.specs.declared.sample.Sample.{Sample}
use Rattle.wire.specs.Sample.{words_of}
use Rattle.stream.specs.declared.Phase.{Phase}
use Rattle.stream.specs.declared.Reader.{Reader}
use Rattle.stream.specs.declared.Reading.{Reading}
use Rattle.stream.specs.Table.{Event, Thing, headed, replied, unread, point, width, reader, giving, words_for, row_of}
use Rattle.stream.specs.State.{held_of, meaning, twenty, written}
use Rattle.stream.specs.Stops.{stop_number}
use Rattle.stream.specs.Promises.{called, row_given, Reads}
use Rattle.stream.specs.inner.Account.{put, Account, account, comes_to}
use Rattle.stream.proofs.Table.{width_pos, reader_lawful, by_window}

-- ---- the row of words

drop-sets : (vs l : List ℕ) (i n : ℕ) → i + length vs ≤ n → drop n (sets l i vs) ≡ drop n l
drop-sets [] l i n h = refl
drop-sets (a ∷ vs) l i n h = drop-sets vs (set l i a) (suc i) n (omega arith) ∙ drop-set-lt n l i a (omega arith)

take-sets : (vs l : List ℕ) (i n : ℕ) → i + length vs ≡ n → n ≤ length l → take n (sets l i vs) ≡ take i l ++ vs
take-sets vs l i n e h =
    rw (sets-eq vs l i (omega arith)) (take_at (take i l ++ vs) (drop (i + length vs) l) n (length-append (take i l) vs ∙ rw (length-take-le i l (omega arith)) e))

pub three_words : (m : Sample) → length (words_of m) ≡ 3
unfolding words_of
three_words m = refl

-- a thing takes three words at most
pub three_most : (x : Thing) → words_for x ≤ 3
unfolding words_for
three_most headed = omega arith
three_most (replied w) = omega arith
three_most unread = omega arith
three_most (point m) = omega arith

-- a sample's words are as many as it takes
pub row_length : (xs : List Thing) → length (flat_map row_of xs) ≡ words_in words_for xs
unfolding flat_map row_of words_in words_for
row_length [] = refl
row_length (headed ∷ xs) = omega (arith, row_length xs)
row_length (replied w ∷ xs) = omega (arith, row_length xs)
row_length (unread ∷ xs) = omega (arith, row_length xs)
row_length (point m ∷ xs) = omega (arith, three_words m, length-append (words_of m) (flat_map row_of xs), row_length xs)

put_eq : (ws : List ℕ) (u : ℕ) (xs : List Thing) → u + length (flat_map row_of xs) ≤ length ws
    → put ws u xs ≡ take u ws ++ (flat_map row_of xs ++ drop (u + length (flat_map row_of xs)) ws)
unfolding put flat_map row_of
put_eq ws u [] h = rw add-zero (sym (take-append-drop u ws))
put_eq ws u (headed ∷ xs) h = put_eq ws u xs h
put_eq ws u (replied w ∷ xs) h = put_eq ws u xs h
put_eq ws u (unread ∷ xs) h = put_eq ws u xs h
put_eq ws u (point m ∷ xs) h =
    let n : ℕ = length (flat_map row_of xs) in
    let three = three_words m in
    let l = length-append (words_of m) (flat_map row_of xs) in
    let e : u + 3 + n ≡ u + length (words_of m ++ flat_map row_of xs) = omega arith in
    put_eq (sets ws u (words_of m)) (u + 3) xs (omega (arith, length-sets ws u (words_of m)))
    ∙ rw (take-sets (words_of m) ws u (u + 3) (omega arith) (omega arith), drop-sets (words_of m) ws u (u + 3 + n) (omega arith), e, append_assoc, append_assoc)

-- ---- the promise

-- the answer of a call that came to o, counted from the h bytes held
unfoldable pub reading_of : ℕ → Account → Reading
reading_of h o = record { reader = written o.end o.skipped; taken = o.taken - h; words = o.used; stop = o.stop; reply = twenty o.reply }

-- the promise over plain lists: of a reader in phase p that holds the first h bytes of `held`, k skipped
pub record Comes (p : Phase) (h : ℕ) (held input : List ℕ) (k : ℕ) (ws ws' : List ℕ) (r : Reading) : Type 0 where
  pub answer : reading_of h (comes_to (fresh p) (take h held ++ input) 0 k 0 ws) ≡ r
  pub rows : (comes_to (fresh p) (take h held ++ input) 0 k 0 ws).words ≡ ws'

-- fewer bytes are held than are looked at together
pub held_few : (r : Reader) → length (held_of r) < width r.phase
unfolding held_of
held_few r = omega (arith, length-take (min r.n (width r.phase - 1)) r.held, width_pos r.phase)

-- so every reader waits for more
pub waits : (r : Reader) → test reader (meaning r) ≡ more
unfolding meaning
waits r = look_few reader_lawful (by_window r.phase) (held_of r) (held_few r)

module _ (self : Reader) (input was : List ℕ) where
  abbrev a : Answer Phase Event Thing
  a = called self input was

  held_first : (t k : ℕ) → account t k 0 was (behind (stopped (meaning self)) (length (held_of self)) a) ≡ account (t + length (held_of self)) k 0 was a
  unfolding account behind joined stopped
  held_first t k = let e : t + (length (held_of self) + a.taken) ≡ t + length (held_of self) + a.taken = omega arith in rw e

  pub whole : comes_to (fresh self.phase) (held_of self ++ input) 0 self.skipped 0 was ≡ account (length (held_of self)) self.skipped 0 was a
  unfolding called comes_to meaning
  whole =
      ap (account 0 self.skipped 0 was) (rw sub-zero (call_held reader_lawful giving (meaning self) input (length was) (waits self)))
      ∙ held_first 0 self.skipped
      ∙ rw zero-add

  pub row_fits : length (row_given self input was) ≤ length was
  unfolding row_given called
  row_fits = omega (arith, row_length a.given, call_words reader giving (meaning self) [] input (length was))

  whole_words : put was 0 a.given ≡ over was (row_given self input was)
  unfolding over row_given
  whole_words = put_eq was 0 a.given (omega (arith, row_fits)) ∙ rw zero-add

  -- what the bytes held and those of the input come to is the promise
  pub reads_by : (o : Account) → comes_to (fresh self.phase) (held_of self ++ input) 0 self.skipped 0 was ≡ o
      → (r : Reading) (is : List ℕ) → reading_of (length (held_of self)) o ≡ r → o.words ≡ is → Reads self input was r is
  unfolding account reading_of row_given
  reads_by o e r is f g =
      let q : account (length (held_of self)) self.skipped 0 was a ≡ o = sym whole ∙ e in
      let h : r ≡ reading_of (length (held_of self)) (account (length (held_of self)) self.skipped 0 was a) = sym f ∙ ap (reading_of (length (held_of self))) (sym q) in
      record {
        reader = ap (λ (x : Reading). x.reader) h;
        taken = ap (λ (x : Reading). x.taken) h ∙ omega arith;
        words = ap (λ (x : Reading). x.words) h ∙ zero-add _;
        stop = ap (λ (x : Reading). stop_number x.stop) h;
        reply = ap (λ (x : Reading). x.reply) h;
        row = sym g ∙ ap (λ (x : Account). x.words) (sym q) ∙ whole_words;
      }

pub comes : {p : Phase} {h : ℕ} {held input : List ℕ} {k : ℕ} {ws ws' : List ℕ} {r : Reading} (o : Account)
    → comes_to (fresh p) (take h held ++ input) 0 k 0 ws ≡ o → o.words ≡ ws' → reading_of h o ≡ r → Comes p h held input k ws ws' r
comes {p} {h} {held} {input} {k} {ws} {ws'} {r} o e f g = record { answer = ap (reading_of h) e ∙ g; rows = ap (λ (x : Account). x.words) e ∙ f }

-- it is the promise of a reader
pub comes_reads : (self : Reader) {p : Phase} {h : ℕ} {held input ws ws' : List ℕ} {r : Reading} → self.phase ≡ p → held_of self ≡ take h held → length (held_of self) ≡ h
    → Comes p h held input self.skipped ws ws' r → Reads self input ws r ws'
comes_reads self {p} {h} {held} {input} {ws} {ws'} {r} e f l c =
    let o : Account = comes_to (fresh p) (take h held ++ input) 0 self.skipped 0 ws in
    let q : comes_to (fresh self.phase) (held_of self ++ input) 0 self.skipped 0 ws ≡ o =
    ap (λ (x : Phase). comes_to (fresh x) (held_of self ++ input) 0 self.skipped 0 ws) e
    ∙ ap (λ (x : List ℕ). comes_to (fresh p) (x ++ input) 0 self.skipped 0 ws) f in
    reads_by self input ws o q r ws' (ap (λ (n : ℕ). reading_of n o) l ∙ c.answer) c.rows
