-- Stops 2, 3 and 4 come right after what they name: `stop_descriptor`: the first place of the descriptor and its seven bytes; `stop_reply`
-- and `stop_bad_health`: the bytes of the reply.
use mathlib.Core.Path.{◌≡◌, refl, sym, ap, subst, ◌∙◌}
use mathlib.Core.Bool.{Bool, true, false}
use mathlib.Core.Option.{some}
use mathlib.Core.List.{List, [], ◌∷◌, ◌++◌, flat_map}
use Prim.Native.Nat.{ℕ, zero, suc, ◌+◌, ◌≤◌, ◌<◌}
use native.Mathlib.Nat.{lt_of_not-le}
use native.Mathlib.Decide.{dec_le}
use native.Mathlib.Omega.{arith}
use lib.ListN.{length, take, drop, length-drop}
use lib.Seq.{sets, length-sets}
use Rattle.paper.specs.Outcome.{Outcome, gives, refuses}
use Rattle.framing.specs.Framing.{frame, reject, size, fresh, after}
use Rattle.framing.specs.Run.{events}
use Rattle.framing.specs.Stages.{fails, passes, spoiled, step_of}
use Rattle.framing.specs.Calls.{outputs}
use Rattle.wire.specs.declared.sample.Sample.{Sample}
use Rattle.wire.specs.Sample.{sample_of, words_of}
use Rattle.stream.specs.declared.Phase.{Phase}
use Rattle.stream.specs.declared.Phase.TheVariants.{Idle, SeekInfo, SeekHealth, SeekScan, InfoReply, HealthReply, Scanning}
use Rattle.stream.specs.declared.Stop.{Stop}
use Rattle.stream.specs.declared.Stop.TheVariants.{AllTaken, NoRoom, Descriptor, Reply, BadHealth}
use Rattle.stream.specs.declared.Reader.{Reader}
use Rattle.stream.specs.declared.Reading.{Reading}
use Rattle.stream.specs.Table.{descriptor, reply, bad_health, headed, replied, unread, same, seeking, width, says, follows, things_of, words_for, ends_call, row_of}
use Rattle.stream.specs.State.{held_of}
use Rattle.stream.specs.Stops.{reply_for, stop_of}
use Rattle.stream.specs.Readings.{first_place}
use Rattle.stream.specs.Promises.{called, Reads}
use Rattle.stream.specs.inner.Account.{Account, account, comes_to}
use Rattle.stream.specs.inner.Seek.{Seeks}
use Rattle.stream.specs.inner.Reply.{bad, Awaits}
use Rattle.stream.proofs.Determined.{stop_one}
use Rattle.stream.proofs.inner.Account.{comes_short, comes_skip, comes_sample, comes_full, comes_ended}
use Rattle.stream.proofs.inner.Promise.{whole}
use Rattle.stream.proofs.inner.Seek.{seeks_info, seeks_health, seeks_scan}
use Rattle.stream.proofs.inner.Reply.{idle_all, info_awaits, health_awaits}
use Rattle.stream.proofs.inner.Scan.{says_no, says_yes}

-- ---- what a call comes to, phase by phase

-- a search: the descriptor is not there, or the call stops behind its first place
data SeekSaid (d : List ℕ) (q : Phase) (xs : List ℕ) (t : ℕ) (o : Account) : Type 0 where
  unfound : o.stop ≡ AllTaken → SeekSaid d q xs t o
  found_at : (n : ℕ) → first_place d xs ≡ some n → o.taken ≡ t + (n + 7) → o.stop ≡ Descriptor → o.end ≡ fresh q → SeekSaid d q xs t o

module _ {p q : Phase} {d : List ℕ} (z : Seeks p d q) where
  said_short : (xs : List ℕ) (t k u : ℕ) (ws : List ℕ) → length xs < 7 → SeekSaid d q xs t (comes_to (fresh p) xs t k u ws)
  said_short xs t k u ws h = rw (comes_short p xs t k u ws (rw z.wide h)) (unfound refl)

  said_found : (x : ℕ) (xs : List ℕ) (t k u : ℕ) (ws : List ℕ) → 7 ≤ length (x ∷ xs) → same (take 7 (x ∷ xs)) d ≡ true → SeekSaid d q (x ∷ xs) t (comes_to (fresh p) (x ∷ xs) t k u ws)
  unfolding seeking first_place step_of size outputs events flat_map things_of ends_call words_for row_of stop_of after
  said_found x xs t k u ws h e =
      let v : says p (take (width p) (x ∷ xs)) ≡ passes descriptor = z.sought (take (width p) (x ∷ xs)) ∙ rw (z.wide, e) in
      rw (comes_ended p (x ∷ xs) t k u ws (rw z.wide h) (frame (width p) descriptor) headed (ap (step_of (width p)) v) refl refl refl refl refl)
      (found_at 0 (rw e) (rw z.wide) refl (rw z.next))

  said_skip : (x : ℕ) (xs : List ℕ) (t k u : ℕ) (ws : List ℕ) → 7 ≤ length (x ∷ xs) → same (take 7 (x ∷ xs)) d ≡ false
      → SeekSaid d q xs (t + 1) (comes_to (fresh p) xs (t + 1) (k + 1) u ws) → SeekSaid d q (x ∷ xs) t (comes_to (fresh p) (x ∷ xs) t k u ws)
  unfolding seeking first_place
  said_skip x xs t k u ws h e s =
      let v : says p (take (width p) (x ∷ xs)) ≡ fails = z.sought (take (width p) (x ∷ xs)) ∙ rw (z.wide, e) in
      rw (comes_skip p (x ∷ xs) t k u ws (rw z.wide h) v) (by s)
    where
      by : {o : Account} → SeekSaid d q xs (t + 1) o → SeekSaid d q (x ∷ xs) t o
      by (unfound f) = unfound f
      by (found_at n f g i j) = found_at (suc n) (rw (e, f)) (g ∙ omega arith) i j

  seek_said : (xs : List ℕ) (t k u : ℕ) (ws : List ℕ) → SeekSaid d q xs t (comes_to (fresh p) xs t k u ws)
  seek_said [] t k u ws = said_short [] t k u ws (omega arith)
  seek_said (x ∷ xs) t k u ws = elim (dec_le 7 (suc (length xs))) [
    | yes h ↦ by h (same (take 7 (x ∷ xs)) d) refl (seek_said xs (t + 1) (k + 1) u ws)
    | no h ↦ said_short (x ∷ xs) t k u ws (lt_of_not-le h)
  ]
    where
      by : 7 ≤ suc (length xs) → (b : Bool) → same (take 7 (x ∷ xs)) d ≡ b → SeekSaid d q xs (t + 1) (comes_to (fresh p) xs (t + 1) (k + 1) u ws)
          → SeekSaid d q (x ∷ xs) t (comes_to (fresh p) (x ∷ xs) t k u ws)
      by h true e s = said_found x xs t k u ws h e
      by h false e s = said_skip x xs t k u ws h e s

-- a reply: too few bytes, or the call stops behind it
data ReplySaid (need : ℕ) (xs : List ℕ) (t : ℕ) (o : Account) : Type 0 where
  waiting : o.stop ≡ AllTaken → ReplySaid need xs t o
  read_it : bad need (take need xs) ≡ false → need ≤ length xs → o.taken ≡ t + need → o.stop ≡ Reply → o.reply ≡ take need xs → ReplySaid need xs t o
  unread_it : bad need (take need xs) ≡ true → need ≤ length xs → o.taken ≡ t + need → o.stop ≡ BadHealth → ReplySaid need xs t o

reply_said : {p : Phase} {need : ℕ} → Awaits p need → (xs : List ℕ) (t k u : ℕ) (ws : List ℕ) → ReplySaid need xs t (comes_to (fresh p) xs t k u ws)
unfolding step_of size outputs events flat_map things_of ends_call words_for row_of stop_of reply_for
reply_said {p} {need} a xs t k u ws = elim (dec_le need (length xs)) [
  | yes h ↦ by h (bad need (take need xs)) refl
  | no h ↦ rw (comes_short p xs t k u ws (rw a.wide (lt_of_not-le h))) (waiting refl)
]
  where
    by : need ≤ length xs → (b : Bool) → bad need (take need xs) ≡ b → ReplySaid need xs t (comes_to (fresh p) xs t k u ws)
    by h true e =
        let v : says p (take (width p) xs) ≡ spoiled bad_health = rw a.wide (a.reads (take need xs) ∙ rw e) in
        rw (comes_ended p xs t k u ws (rw a.wide h) (reject (width p) bad_health) unread (ap (step_of (width p)) v) refl refl refl refl refl)
        (unread_it e h (rw a.wide) refl)
    by h false e =
        let w : List ℕ = take need xs in
        let v : says p (take (width p) xs) ≡ passes (reply w) = rw a.wide (a.reads w ∙ rw e) in
        rw (comes_ended p xs t k u ws (rw a.wide h) (frame (width p) (reply w)) (replied w) (ap (step_of (width p)) v) refl refl refl refl refl)
        (read_it e h (rw a.wide) refl refl)

-- a scan ends for no thing
unfoldable quiet : Stop → Bool
quiet AllTaken = true
quiet NoRoom = true
quiet Descriptor = false
quiet Reply = false
quiet BadHealth = false

abbrev Quiet : List ℕ → ℕ → ℕ → ℕ → List ℕ → Type 0
Quiet xs t k u ws = quiet (comes_to (fresh Scanning) xs t k u ws).stop ≡ true

-- five bytes are there, and what follows them is quiet
scan_on : (xs : List ℕ) (t k u : ℕ) (ws : List ℕ) → 5 ≤ length xs → u ≤ length ws
    → ((n j v : ℕ) (vs : List ℕ) → 1 ≤ n → v ≤ length vs → Quiet (drop n xs) (t + n) j v vs) → Quiet xs t k u ws
unfolding width follows quiet
scan_on xs t k u ws h l on = by (sample_of (take 5 xs)) refl
  where
    full : {m : Sample} → sample_of (take 5 xs) ≡ gives m → length ws < u + 3 → Quiet xs t k u ws
    full {m} e f = ap (λ (o : Account). quiet o.stop) (comes_full Scanning xs t k u ws h m (says_yes (take 5 xs) e) l f)

    by : (o : Outcome Sample) → sample_of (take 5 xs) ≡ o → Quiet xs t k u ws
    by (gives m) e = elim (dec_le (u + 3) (length ws)) [
      | yes f ↦ rw (comes_sample Scanning xs t k u ws h m (says_yes (take 5 xs) e) f) (on 5 k (u + 3) (sets ws u (words_of m)) (omega arith) (omega (arith, length-sets ws u (words_of m))))
      | no f ↦ full e (lt_of_not-le f)
    ]
    by (refuses n) e = rw (comes_skip Scanning xs t k u ws h (says_no (take 5 xs) e)) (on 1 (k + 1) u ws (omega arith) l)

scan_quiet : (n : ℕ) (xs : List ℕ) (t k u : ℕ) (ws : List ℕ) → length xs < n → u ≤ length ws → Quiet xs t k u ws
unfolding width quiet
scan_quiet zero xs t k u ws h l = absurd (omega arith)
scan_quiet (suc n) xs t k u ws h l = elim (dec_le 5 (length xs)) [
  | yes f ↦ scan_on xs t k u ws f l (λ m j v vs g i. scan_quiet n (drop m xs) (t + m) j v vs (omega (arith, length-drop m xs)) i)
  | no f ↦ ap (λ (o : Account). quiet o.stop) (comes_short Scanning xs t k u ws (lt_of_not-le f))
]

-- ---- the stops

-- A stop after a descriptor: the reader sought it, it stands at its first place, and the call stopped behind its seventh byte.
pub record AfterDescriptor (s : Reader) (input : List ℕ) (r : Reading) : Type 0 where
  pub sought : List ℕ
  pub next : Phase
  pub seeks : Seeks s.phase sought next
  pub place : ℕ
  pub first : first_place sought (held_of s ++ input) ≡ some place
  pub right_after : length (held_of s) + r.taken ≡ place + 7

-- A stop after a reply: it was awaited, and the call stopped behind its last byte.
pub record AfterReply (s : Reader) (input : List ℕ) (r : Reading) (unread : Bool) : Type 0 where
  pub need : ℕ
  pub awaits : Awaits s.phase need
  pub reads : bad need (take need (held_of s ++ input)) ≡ unread
  pub right_after : length (held_of s) + r.taken ≡ need

module _ {s : Reader} {input was row : List ℕ} {r : Reading} (h : Reads s input was r row) where
  abbrev o : Phase → Account
  o p = comes_to (fresh p) (held_of s ++ input) 0 s.skipped 0 was

  o_stop : (p : Phase) → s.phase ≡ p → (o p).stop ≡ r.stop
  unfolding account
  o_stop p e = ap (λ (x : Phase). (o x).stop) (sym e) ∙ ap (λ (x : Account). x.stop) (whole s input was) ∙ sym (stop_one r.stop (stop_of (called s input was).stop) h.stop)

  o_taken : (p : Phase) → s.phase ≡ p → (o p).taken ≡ length (held_of s) + r.taken
  unfolding account
  o_taken p e = ap (λ (x : Phase). (o x).taken) (sym e) ∙ ap (λ (x : Account). x.taken) (whole s input was) ∙ rw h.taken

  -- by the phase in which the call began
  data Began : Type 0 where
    quietly : quiet r.stop ≡ true → Began
    sought : {d : List ℕ} {p q : Phase} → s.phase ≡ p → Seeks p d q → SeekSaid d q (held_of s ++ input) 0 (o p) → Began
    awaited : {p : Phase} {need : ℕ} → s.phase ≡ p → Awaits p need → ReplySaid need (held_of s ++ input) 0 (o p) → Began

  began : (p : Phase) → s.phase ≡ p → Began
  unfolding quiet
  began Idle e = quietly (ap quiet (sym (o_stop Idle e)) ∙ ap (λ (x : Account). quiet x.stop) (idle_all (held_of s ++ input) 0 s.skipped 0 was))
  began SeekInfo e = sought e (seeks_info refl) (seek_said (seeks_info refl) (held_of s ++ input) 0 s.skipped 0 was)
  began SeekHealth e = sought e (seeks_health refl) (seek_said (seeks_health refl) (held_of s ++ input) 0 s.skipped 0 was)
  began SeekScan e = sought e (seeks_scan refl) (seek_said (seeks_scan refl) (held_of s ++ input) 0 s.skipped 0 was)
  began InfoReply e = awaited e (info_awaits refl) (reply_said (info_awaits refl) (held_of s ++ input) 0 s.skipped 0 was)
  began HealthReply e = awaited e (health_awaits refl) (reply_said (health_awaits refl) (held_of s ++ input) 0 s.skipped 0 was)
  began Scanning e =
      quietly (ap quiet (sym (o_stop Scanning e)) ∙ scan_quiet (suc (length (held_of s ++ input))) (held_of s ++ input) 0 s.skipped 0 was (omega arith) (omega arith))

  -- what a stop of each kind says
  unfoldable EndSays : Stop → Type 0
  EndSays AllTaken = Unit {0}
  EndSays NoRoom = Unit {0}
  EndSays Descriptor = AfterDescriptor s input r
  EndSays Reply = AfterReply s input r false
  EndSays BadHealth = AfterReply s input r true

  quiet_says : (x : Stop) → quiet x ≡ true → EndSays x
  unfolding quiet EndSays
  quiet_says AllTaken e = tt
  quiet_says NoRoom e = tt
  quiet_says Descriptor e = let x : ◌≡◌ {A = ℕ} 0 1 = cc in absurd (omega arith)
  quiet_says Reply e = let x : ◌≡◌ {A = ℕ} 0 1 = cc in absurd (omega arith)
  quiet_says BadHealth e = let x : ◌≡◌ {A = ℕ} 0 1 = cc in absurd (omega arith)

  stopped_as : {x : Stop} (p : Phase) → s.phase ≡ p → (o p).stop ≡ x → EndSays x → EndSays r.stop
  stopped_as p e f y = subst (λ (z : Stop). EndSays z) (sym f ∙ o_stop p e) y

  end_says : Began → EndSays r.stop
  unfolding EndSays
  end_says (quietly e) = quiet_says r.stop e
  end_says (sought {p = p} e z (unfound g)) = stopped_as p e g tt
  end_says (sought {d} {p} {q} e z (found_at n g i j k)) =
      stopped_as p e j (record { sought = d; next = q; seeks = rw e z; place = n; first = g; right_after = omega (arith, i, o_taken p e) })
  end_says (awaited {p = p} e z (waiting g)) = stopped_as p e g tt
  end_says (awaited {p} {need} e z (read_it b l i j k)) = stopped_as p e j (record { need = need; awaits = rw e z; reads = b; right_after = omega (arith, i, o_taken p e) })
  end_says (awaited {p} {need} e z (unread_it b l i j)) = stopped_as p e j (record { need = need; awaits = rw e z; reads = b; right_after = omega (arith, i, o_taken p e) })

  -- STOP 2
  pub stop_descriptor : r.stop ≡ Descriptor → AfterDescriptor s input r
  unfolding EndSays
  stop_descriptor e = subst (λ (z : Stop). EndSays z) e (end_says (began s.phase refl))

  -- STOP 3
  pub stop_reply : r.stop ≡ Reply → AfterReply s input r false
  unfolding EndSays
  stop_reply e = subst (λ (z : Stop). EndSays z) e (end_says (began s.phase refl))

  o_reply : (p : Phase) → s.phase ≡ p → (o p).reply ≡ reply_for (called s input was).stop
  unfolding account
  o_reply p e = ap (λ (x : Phase). (o x).reply) (sym e) ∙ ap (λ (x : Account). x.reply) (whole s input was)

  -- the bytes of a reply are as many as its phase looks at together
  pub record ReplyBytes : Type 0 where
    pub there : width s.phase ≤ length (held_of s ++ input)
    pub bytes : reply_for (called s input was).stop ≡ take (width s.phase) (held_of s ++ input)

  unfoldable BytesSaid : Stop → Type 0
  BytesSaid AllTaken = Unit {0}
  BytesSaid NoRoom = Unit {0}
  BytesSaid Descriptor = Unit {0}
  BytesSaid Reply = ReplyBytes
  BytesSaid BadHealth = Unit {0}

  quiet_bytes : (x : Stop) → quiet x ≡ true → BytesSaid x
  unfolding quiet BytesSaid
  quiet_bytes AllTaken e = tt
  quiet_bytes NoRoom e = tt
  quiet_bytes Descriptor e = tt
  quiet_bytes Reply e = let x : ◌≡◌ {A = ℕ} 0 1 = cc in absurd (omega arith)
  quiet_bytes BadHealth e = tt

  bytes_as : {x : Stop} (p : Phase) → s.phase ≡ p → (o p).stop ≡ x → BytesSaid x → BytesSaid r.stop
  bytes_as p e f y = subst (λ (z : Stop). BytesSaid z) (sym f ∙ o_stop p e) y

  bytes_say : Began → BytesSaid r.stop
  unfolding BytesSaid
  bytes_say (quietly e) = quiet_bytes r.stop e
  bytes_say (sought {p = p} e z (unfound g)) = bytes_as p e g tt
  bytes_say (sought {p = p} e z (found_at n g i j k)) = bytes_as p e j tt
  bytes_say (awaited {p = p} e z (waiting g)) = bytes_as p e g tt
  bytes_say (awaited {p} {need} e z (read_it b l i j k)) =
      let w : width s.phase ≡ need = ap width e ∙ z.wide in
      bytes_as p e j (record { there = omega (arith, l, w); bytes = sym (o_reply p e) ∙ k ∙ ap (λ (n : ℕ). take n (held_of s ++ input)) (sym w) })
  bytes_say (awaited {p = p} e z (unread_it b l i j)) = bytes_as p e j tt

  pub stop_reply_bytes : r.stop ≡ Reply → ReplyBytes
  unfolding BytesSaid
  stop_reply_bytes e = subst (λ (z : Stop). BytesSaid z) e (bytes_say (began s.phase refl))

  -- STOP 4
  pub stop_bad_health : r.stop ≡ BadHealth → AfterReply s input r true
  unfolding EndSays
  stop_bad_health e = subst (λ (z : Stop). EndSays z) e (end_says (began s.phase refl))
