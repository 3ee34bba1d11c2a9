-- THE TEXT OF A CALL is the lines of the things that it gives, in order: `call_lines`, of every answer that the promise of `read` allows.
use Prim.Native.Nat.{ℕ, ◌-◌, ◌/◌, ◌%◌}
use mathlib.Core.Path.{◌≡◌, refl, sym, ap, ap₂, ◌∙◌}
use mathlib.Core.Bool.{Bool, true, false, cond}
use mathlib.Core.List.{List, [], ◌∷◌, ◌++◌, flat_map, append-nil}
use native.Mathlib.Omega.{arith}
use lib.ListN.{length, take, replicate}
use lib.Seq.{take_at, length-take-le}
use Rattle.paper.specs.Writing.{over as over_row}
use Rattle.framing.specs.Calls.{Stop as Reason, all_taken, ended_by, no_room, Answer}
use Rattle.framing.specs.Stages.{fails, passes, spoiled}
use Rattle.framing.proofs.Giving.{flat_map-append}
use Rattle.framing.proofs.Stops.{quiet, Ended, call_ended}
use Rattle.wire.specs.Sample.{mark, words_of}
use Rattle.stream.specs.Table.{Event, descriptor, reply, bad_health, Thing, headed, replied, unread, point, width, says, follows, reader, giving, ends_call, row_of}
use Rattle.stream.specs.State.{meaning, twenty}
use Rattle.stream.specs.Stops.{stop_of, reply_for}
use Rattle.stream.specs.Promises.{called, row_given, Reads}
use Rattle.stream.specs.inner.Reply.{bad, Awaits}
use Rattle.stream.specs.declared.Phase.{Phase}
use Rattle.stream.specs.declared.Phase.TheVariants.{Idle, SeekInfo, SeekHealth, SeekScan, InfoReply, HealthReply, Scanning}
use Rattle.stream.specs.declared.Stop.TheVariants.{Reply}
use Rattle.stream.specs.declared.Reader.{Reader}
use Rattle.stream.specs.declared.Reading.{Reading}
use Rattle.stream.proofs.Determined.{stop_one}
use Rattle.stream.proofs.RightAfter.{stop_reply, stop_reply_bytes}
use Rattle.scantext.specs.Lines.{thing_line, thing_lines, reply_line, row_lines, reply_bytes, stop_line, call_text}
use Rattle.scantext.specs.Listing.{read_text}

-- ---- samples

mark_parts : (s : Bool) (q : ℕ) → (mark s q % 2 ≡ cond s 1 0) × (mark s q / 2 ≡ q)
unfolding mark
mark_parts true q = (omega arith, omega arith)
mark_parts false q = (omega arith, omega arith)

-- things that end no call are samples, and their lines are those of their words
quiet_lines : (xs : List Thing) → quiet reader giving xs ≡ true → thing_lines xs ≡ row_lines (flat_map row_of xs)
unfolding quiet ends_call flat_map thing_lines thing_line row_of row_lines words_of
quiet_lines [] e = refl
quiet_lines (headed ∷ xs) e = cc
quiet_lines (replied w ∷ xs) e = cc
quiet_lines (unread ∷ xs) e = cc
quiet_lines (point m ∷ xs) e =
    let parts = mark_parts m.start m.quality in
    rw (parts.0, parts.1, quiet_lines xs e)

-- ---- a reply

clash : (b : Bool) (w : List ℕ) → fails ≡ cond b (spoiled bad_health) (passes (reply w)) → ⊥
clash true w e = let z : ◌≡◌ {A = ℕ} 0 1 = cc in omega arith
clash false w e = let z : ◌≡◌ {A = ℕ} 0 1 = cc in omega arith

-- where a reply is awaited, it is as many bytes as the phase looks at together
awaited_bytes : (p : Phase) (need : ℕ) → Awaits p need → width p ≡ reply_bytes p
unfolding width says follows reply_bytes
awaited_bytes Idle need z = absurd (clash (bad need []) [] (z.reads []))
awaited_bytes SeekInfo need z = let e = z.idle descriptor in let f : ◌≡◌ {A = ℕ} 0 1 = cc in absurd (omega arith)
awaited_bytes SeekHealth need z = let e = z.idle descriptor in let f : ◌≡◌ {A = ℕ} 0 1 = cc in absurd (omega arith)
awaited_bytes SeekScan need z = let e = z.idle descriptor in let f : ◌≡◌ {A = ℕ} 0 1 = cc in absurd (omega arith)
awaited_bytes InfoReply need z = refl
awaited_bytes HealthReply need z = refl
awaited_bytes Scanning need z = let e = z.idle descriptor in let f : ◌≡◌ {A = ℕ} 0 1 = cc in absurd (omega arith)

-- the bytes of a reply are found again at the front of the twenty
reply_front : (n : ℕ) (w : List ℕ) → length w ≡ n → w ≡ take n (twenty w)
unfolding twenty
reply_front n w e = sym (take_at w (replicate (20 - length w) 0) n e)

-- ---- what a call gives

-- a reply that ends a call has as many bytes as its phase says
unfoldable Fitting : Phase → Reason Thing → Type 0
Fitting p all_taken = Unit {0}
Fitting p no_room = Unit {0}
Fitting p (ended_by x) = thing_line x ≡ stop_line p (stop_of (ended_by x)) (twenty (reply_for (ended_by x)))

last_row : (x : Thing) → ends_call x ≡ true → row_of x ≡ []
unfolding ends_call row_of
last_row headed e = refl
last_row (replied w) e = refl
last_row unread e = refl
last_row (point m) e = cc

lines_last : (ys : List Thing) (x : Thing) → thing_lines (ys ++ x ∷ []) ≡ thing_lines ys ++ thing_line x
unfolding thing_lines flat_map
lines_last ys x = flat_map-append thing_line ys (x ∷ []) ∙ ap (λ (r : List ℕ). flat_map thing_line ys ++ r) (append-nil (thing_line x))

rows_last : (ys : List Thing) (x : Thing) → row_of x ≡ [] → flat_map row_of (ys ++ x ∷ []) ≡ flat_map row_of ys
unfolding flat_map
rows_last ys x l =
    flat_map-append row_of ys (x ∷ [])
    ∙ ap (λ (r : List ℕ). flat_map row_of ys ++ r) (append-nil (row_of x) ∙ l)
    ∙ append-nil (flat_map row_of ys)

given_lines : (p : Phase) (xs : List Thing) (w : Reason Thing) → Ended reader giving xs w → Fitting p w
    → thing_lines xs ≡ row_lines (flat_map row_of xs) ++ stop_line p (stop_of w) (twenty (reply_for w))
unfolding Ended Fitting stop_of stop_line
given_lines p xs all_taken e f = quiet_lines xs e ∙ sym (append-nil _)
given_lines p xs no_room e f = quiet_lines xs e ∙ sym (append-nil _)
given_lines p xs (ended_by x) e f = rw e.1 (ended e.0 e.2 (last_row x e.3))
  where
    ended : (ys : List Thing) → quiet reader giving ys ≡ true → row_of x ≡ []
        → thing_lines (ys ++ x ∷ []) ≡ row_lines (flat_map row_of (ys ++ x ∷ [])) ++ stop_line p (stop_of (ended_by x)) (twenty (reply_for (ended_by x)))
    ended ys q l =
        lines_last ys x
        ∙ ap₂ ◌++◌ (quiet_lines ys q) f
        ∙ ap (λ (r : List ℕ). row_lines r ++ stop_line p (stop_of (ended_by x)) (twenty (reply_for (ended_by x)))) (sym (rows_last ys x l))

-- ---- one call

-- the line of a reply that ended a call
fitting_by : (p : Phase) (xs : List Thing) (w : Reason Thing) → Ended reader giving xs w → (stop_of w ≡ Reply → length (reply_for w) ≡ reply_bytes p) → Fitting p w
unfolding Fitting Ended ends_call stop_of stop_line reply_for thing_line
fitting_by p xs all_taken e f = tt
fitting_by p xs no_room e f = tt
fitting_by p xs (ended_by headed) e f = refl
fitting_by p xs (ended_by (replied v)) e f = ap reply_line (reply_front (reply_bytes p) v (f refl))
fitting_by p xs (ended_by unread) e f = refl
fitting_by p xs (ended_by (point m)) e f = let q = e.3 in let z : ◌≡◌ {A = ℕ} 0 1 = cc in absurd (omega arith)

module _ {s : Reader} {input was row : List ℕ} {r : Reading} (h : Reads s input was r row) where
  abbrev a : Answer Phase Event Thing
  a = called s input was

  reply_long : stop_of a.stop ≡ Reply → length (reply_for a.stop) ≡ reply_bytes s.phase
  reply_long e =
      let stop : r.stop ≡ Reply = stop_one r.stop (stop_of a.stop) h.stop ∙ e in
      let b = stop_reply_bytes h stop in
      let after = stop_reply h stop in
      ap length b.bytes ∙ length-take-le (width s.phase) _ b.there ∙ awaited_bytes s.phase after.need after.awaits

  pub call_lines : read_text s.phase r row ≡ thing_lines a.given
  unfolding read_text call_text called row_given over_row
  call_lines =
      let words : take r.words row ≡ flat_map row_of a.given = rw (h.words, h.row) (take_at (flat_map row_of a.given) _ (length (flat_map row_of a.given)) refl) in
      let ended = call_ended reader giving (meaning s) [] input (length was) in
      rw (words, stop_one r.stop (stop_of a.stop) h.stop, h.reply)
      (sym (given_lines s.phase a.given a.stop ended (fitting_by s.phase a.given a.stop ended reply_long)))
