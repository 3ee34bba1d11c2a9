-- What is collected writes back to the very bytes that were fed last: `collected_writes_back`.
use Prim.Native.Nat.{ℕ, suc, ◌+◌, ◌<◌, ◌≤◌}
use mathlib.Core.Path.{◌≡◌, refl, sym, ap, ◌∙◌}
use mathlib.Core.Bool.{Bool, true, false, cond, ◌||◌}
use mathlib.Core.List.{List, [], ◌∷◌, ◌++◌, append-nil, append_assoc}
use Rattle.std.specs.Prelude.{Some}
use native.Mathlib.Omega.{arith}
use lib.Bits.{bit_xor}
use lib.Dec.{ltb, eqb}
use lib.ListN.{length, take, drop}
use lib.Seq.{take-take, take-append_seam, take_at, append_snoc}
use Rattle.std.proofs.lemmas.List.{length_push}
use borrow.Author.Tests.{lt-ltb, ne_eqb, ltb-true, ltb-false, eqb-true, eqb-false}
use Rattle.paper.specs.Outcome.{gives}
use Rattle.paper.specs.Sum.{xor_from, sum_of}
use Rattle.paper.specs.Words.{Each, Bytes}
use Rattle.paper.specs.Writing.{over}
use Rattle.paper.proofs.Outcome.{gives_one}
use Rattle.paper.proofs.Writing.{length_over}
use Rattle.paper.proofs.Xor.{xor_from-append}
use Rattle.wire.specs.Request.{start_byte, with_sum, request_of}
use Rattle.wire.proofs.Requests.{short_request, long_request}
use Rattle.device.specs.Collector.{
  Part,
  empty,
  started,
  begin,
  late,
  whole,
  wrong,
  Taken,
  goes,
  packet,
  joining,
  taking,
  part_of,
  stage_of,
  behind,
  payload_in,
  answered,
  told,
  answer_to,
  collector_after,
  memory_after,
}
use Rattle.device.specs.Feeding.{onward, feeding, EndsWith}
use Rattle.device.proofs.Collecting.{joins_more, joins_wrong, joins_packet, taken_three}
use Rattle.device.specs.declared.collector.Stage.TheVariants.{Empty}
use Rattle.device.specs.declared.collector.Collector.{Collector}
use Rattle.device.specs.declared.collector.Packet.{Packet}

-- the beginning of a request that is not whole yet
Opens : List ℕ → Type 0
Opens [] = Unit {0}
Opens (a ∷ []) = a ≡ start_byte
Opens (a ∷ code ∷ []) = (a ≡ start_byte) × (0x80 ≤ code)
Opens (a ∷ code ∷ size ∷ rest) = (a ≡ start_byte) × (0x80 ≤ code) × (length rest ≤ size) × (size ≤ 255)

-- A packet so far is the end of the bytes fed, and its exclusive or is right.
record Follows (fed : List ℕ) (p : Part) : Type 0 where
  opens : Opens p.bytes
  right : p.sum ≡ sum_of p.bytes
  before : List ℕ
  split : fed ≡ before ++ p.bytes

Good : List ℕ → Taken → Type 0
Good fed (goes p) = Follows fed p
Good fed (packet code payload) = EndsWith fed code payload × (length payload ≤ 255)

-- numbers that differ
positive : {n : ℕ} → (n ≡ 0 → ⊥) → 0 < n
positive {n = n} h = omega arith

-- nothing begun follows whatever was fed
none_follows : (fed : List ℕ) (begun : ℕ) → Follows fed (record { bytes = []; sum = 0; begun = begun })
unfolding Opens sum_of xor_from
none_follows fed begun = record { opens = tt; right = refl; before = fed; split = sym (append-nil fed) }

begin_good : (fed : List ℕ) (time b : ℕ) → Good (fed ++ b ∷ []) (goes (begin time b))
unfolding Good begin empty started Opens sum_of xor_from
begin_good fed time b = go (eqb b start_byte) refl
  where
    go : (x : Bool) → eqb b start_byte ≡ x → Follows (fed ++ b ∷ []) (cond x (started time) empty)
    go true e = record { opens = refl; right = refl; before = fed; split = ap (λ (c : ℕ). fed ++ c ∷ []) (eqb-true b start_byte e) }
    go false e = none_follows (fed ++ b ∷ []) 0

-- one more byte of the packet
more_good : (fed : List ℕ) (p : Part) (b : ℕ) → Follows fed p → Opens (p.bytes ++ b ∷ [])
    → Follows (fed ++ b ∷ []) (record { bytes = p.bytes ++ b ∷ []; sum = bit_xor p.sum b; begun = p.begun })
unfolding sum_of xor_from
more_good fed p b f o = record {
  opens = o;
  right = ap (λ (x : ℕ). bit_xor x b) f.right ∙ sym (xor_from-append 0 p.bytes (b ∷ []));
  before = f.before;
  split = ap (λ (xs : List ℕ). xs ++ b ∷ []) f.split ∙ append_assoc f.before p.bytes (b ∷ []);
}

ends : (fed : List ℕ) (p : Part) (b code : ℕ) (payload : List ℕ) → Follows fed p → request_of code payload ≡ gives (p.bytes ++ b ∷ [])
    → EndsWith (fed ++ b ∷ []) code payload
ends fed p b code payload f e = record {
  before = f.before;
  request = p.bytes ++ b ∷ [];
  split = ap (λ (xs : List ℕ). xs ++ b ∷ []) f.split ∙ append_assoc f.before p.bytes (b ∷ []);
  writes = e;
}

good_same : (fed : List ℕ) {x y : Taken} → x ≡ y → Good fed y → Good fed x
good_same fed e g = rw e g

held : List ℕ → ℕ → ℕ → Part
held xs acc begun = record { bytes = xs; sum = acc; begun = begun }

-- the code
code_good : (fed : List ℕ) (a acc begun b : ℕ) → Follows fed (held (a ∷ []) acc begun) → Good (fed ++ b ∷ []) (joining (held (a ∷ []) acc begun) b)
unfolding Good Opens held whole wrong
code_good fed a acc begun b f = go (ltb b 0x80) refl
  where
    go : (x : Bool) → ltb b 0x80 ≡ x → Good (fed ++ b ∷ []) (joining (held (a ∷ []) acc begun) b)
    go true e =
        good_same (fed ++ b ∷ []) (joins_packet (held (a ∷ []) acc begun) b e refl) (
          ends fed (held (a ∷ []) acc begun) b b [] f
              (short_request b [] (ltb-true b 0x80 e) (omega arith) ∙ ap (λ (x : ℕ). gives (x ∷ b ∷ [])) (sym f.opens)),
          omega arith,
        )
    go false e =
        good_same (fed ++ b ∷ []) (joins_more (held (a ∷ []) acc begun) b e) (more_good fed (held (a ∷ []) acc begun) b f (f.opens, ltb-false b 0x80 e))

-- the size
size_good : (fed : List ℕ) (a code acc begun b : ℕ) → Follows fed (held (a ∷ code ∷ []) acc begun) → b ≤ 255
    → Good (fed ++ b ∷ []) (joining (held (a ∷ code ∷ []) acc begun) b)
unfolding Good Opens held whole
size_good fed a code acc begun b f l =
    let o = f.opens in
    good_same (fed ++ b ∷ []) (joins_more (held (a ∷ code ∷ []) acc begun) b (ne_eqb 0 (b + 1) (λ (z : 0 ≡ b + 1). omega arith)))
    (more_good fed (held (a ∷ code ∷ []) acc begun) b f (o.0, o.1, omega arith, l))

-- the payload and the checksum
module _ (fed : List ℕ) (a code size : ℕ) (rest : List ℕ) (acc begun b : ℕ) (f : Follows fed (held (a ∷ code ∷ size ∷ rest) acc begun)) where
  full : length rest ≡ size → b ≡ acc → request_of code rest ≡ gives (a ∷ code ∷ size ∷ (rest ++ b ∷ []))
  unfolding Opens held with_sum
  full n e =
      let o = f.opens in
      let m = o.3 in
      long_request code rest o.1 (omega arith)
      ∙ ap gives (rw (n, ← o.0) (ap (λ (x : ℕ). a ∷ code ∷ size ∷ (rest ++ x ∷ [])) (sym (e ∙ f.right))))

  rest_good : Good (fed ++ b ∷ []) (joining (held (a ∷ code ∷ size ∷ rest) acc begun) b)
  unfolding Good Opens held whole wrong empty
  rest_good = go (eqb (length (rest ++ b ∷ [])) (size + 1)) refl (eqb b acc) refl
    where
      go : (x : Bool) → eqb (length (rest ++ b ∷ [])) (size + 1) ≡ x → (y : Bool) → eqb b acc ≡ y
          → Good (fed ++ b ∷ []) (joining (held (a ∷ code ∷ size ∷ rest) acc begun) b)
      go true e true w =
          let z = eqb-true (length (rest ++ b ∷ [])) (size + 1) e in
          let o = f.opens in
          let m = o.3 in
          let n : length rest ≡ size = omega (arith, length_push rest b) in
          good_same (fed ++ b ∷ []) (joins_packet (held (a ∷ code ∷ size ∷ rest) acc begun) b e (rw (w, lt-ltb 1 (length (a ∷ code ∷ size ∷ rest)) (omega arith))))
          (ends fed (held (a ∷ code ∷ size ∷ rest) acc begun) b code rest f (full n (eqb-true b acc w)), omega arith)
      go true e false w = good_same (fed ++ b ∷ []) (joins_wrong (held (a ∷ code ∷ size ∷ rest) acc begun) b e (rw (w, lt-ltb 1 (length (a ∷ code ∷ size ∷ rest)) (omega arith)))) (none_follows (fed ++ b ∷ []) 0)
      go false e y w =
          let o = f.opens in
          let m = o.2 in
          let ne : length (rest ++ b ∷ []) ≡ size + 1 → ⊥ = eqb-false (length (rest ++ b ∷ [])) (size + 1) e in
          let lt : length (rest ++ b ∷ []) ≤ size = omega (arith, length_push rest b) in
          good_same (fed ++ b ∷ []) (joins_more (held (a ∷ code ∷ size ∷ rest) acc begun) b e)
          (more_good fed (held (a ∷ code ∷ size ∷ rest) acc begun) b f (o.0, o.1, lt, o.3))

joins_good : (fed xs : List ℕ) (acc begun b : ℕ) → Follows fed (held xs acc begun) → 0 < length xs → b ≤ 255 → Good (fed ++ b ∷ []) (joining (held xs acc begun) b)
joins_good fed [] acc begun b f h l = absurd (omega arith)
joins_good fed (a ∷ []) acc begun b f h l = code_good fed a acc begun b f
joins_good fed (a ∷ code ∷ []) acc begun b f h l = size_good fed a code acc begun b f l
joins_good fed (a ∷ code ∷ size ∷ rest) acc begun b f h l = rest_good fed a code size rest acc begun b f

taking_good : (fed : List ℕ) (p : Part) (time b : ℕ) → Follows fed p → b ≤ 255 → Good (fed ++ b ∷ []) (taking p time b)
unfolding taking held
taking_good fed p time b f l = go (eqb (length p.bytes) 0) refl (late p time)
  where
    go : (x : Bool) → eqb (length p.bytes) 0 ≡ x → (y : Bool) → Good (fed ++ b ∷ []) (cond (x || y) (goes (begin time b)) (joining p b))
    go true e y = begin_good fed time b
    go false e true = begin_good fed time b
    go false e false =
        let n : length p.bytes ≡ 0 → ⊥ = eqb-false (length p.bytes) 0 e in
        joins_good fed p.bytes p.sum p.begun b f (positive n) l

-- ---- the collector and its memory

-- what is held behind a byte is what the byte led to
module _ (mem : List ℕ) where
  held_again : (fed xs : List ℕ) (acc begun : ℕ) → Follows fed (held xs acc begun) → part_of (stage_of xs acc) begun (over mem (drop 3 xs)) ≡ held xs acc begun
  unfolding held part_of stage_of started Opens over sum_of xor_from
  held_again fed [] acc begun f = ap (λ (x : ℕ). held [] x begun) (sym f.right)
  held_again fed (a ∷ []) acc begun f = rw (f.right, f.opens)
  held_again fed (a ∷ code ∷ []) acc begun f = rw (f.right, f.opens.0)
  held_again fed (a ∷ code ∷ size ∷ rest) acc begun f =
      let o = f.opens in
      let t : take (length rest) (take size (rest ++ drop (length rest) mem)) ≡ rest =
      take-take (length rest) size (rest ++ drop (length rest) mem) o.2 ∙ take-append_seam rest (drop (length rest) mem) in
      rw (t, o.0)

  room_kept : (fed xs : List ℕ) (acc begun : ℕ) → Follows fed (held xs acc begun) → length mem ≡ 255 → length (over mem (drop 3 xs)) ≡ 255
  unfolding held Opens
  room_kept fed [] acc begun f l = length_over [] mem (omega arith) ∙ l
  room_kept fed (a ∷ []) acc begun f l = length_over [] mem (omega arith) ∙ l
  room_kept fed (a ∷ code ∷ []) acc begun f l = length_over [] mem (omega arith) ∙ l
  room_kept fed (a ∷ code ∷ size ∷ rest) acc begun f l =
      let o = f.opens in
      let m = o.2 in
      let n = o.3 in
      length_over rest mem (omega arith) ∙ l

-- A collector whose packet so far is the end of the bytes fed.
record Traced (fed : List ℕ) (s : Collector) (mem : List ℕ) (time : ℕ) : Type 0 where
  follows : Follows fed (part_of s.stage s.begun mem)
  room : length mem ≡ 255
  last : s.last ≤ time

-- a byte keeps that
traced_taken : (fed : List ℕ) (mem : List ℕ) (time next : ℕ) (x : Taken) → length mem ≡ 255 → time ≤ next → Good fed x → Traced fed (behind time x) (over mem (payload_in x)) next
unfolding Good behind payload_in held
traced_taken fed mem time next (goes p) l h g = record {
  follows = rw (held_again mem fed p.bytes p.sum p.begun g) g;
  room = room_kept mem fed p.bytes p.sum p.begun g l;
  last = h;
}
traced_taken fed mem time next (packet code payload) l h g =
    let m = g.1 in
    record { follows = unfold part_of in (none_follows fed 0); room = length_over payload mem (omega arith) ∙ l; last = h }

traced_byte : (fed : List ℕ) (s : Collector) (mem : List ℕ) (time next b : ℕ) → Traced fed s mem time → time ≤ next → b ≤ 255
    → Traced (fed ++ b ∷ []) (collector_after s mem time b) (memory_after s mem time b) next
traced_byte fed s mem time next b d h l =
    let x = taking (part_of s.stage s.begun mem) time b in
    let g = taken_three s time b mem d.last x refl in
    rw (g.1, g.2) (traced_taken (fed ++ b ∷ []) mem time next x d.room h (taking_good fed (part_of s.stage s.begun mem) time b d.follows l))

traced_all : (fed bs : List ℕ) (s : Collector) (mem : List ℕ) (t : ℕ → ℕ) → Traced fed s mem (t 0) → ((j : ℕ) → t j ≤ t (suc j)) → Bytes bs
    → Traced (fed ++ bs) (feeding s mem t bs).collector (feeding s mem t bs).memory (t (length bs))
unfolding feeding onward Each
traced_all fed [] s mem t d up l = rw (append-nil fed) d
traced_all fed (b ∷ bs) s mem t d up l =
    let h = l.0 in
    let one = traced_byte fed s mem (t 0) (t 1) b d (up 0) (omega arith) in
    let all = traced_all (fed ++ b ∷ []) bs (collector_after s mem (t 0) b) (memory_after s mem (t 0) b) (λ j. t (suc j)) one (λ j. up (suc j)) l.1 in
    rw (append_snoc fed b bs) at all

-- a packet that is answered is the one that was taken
packet_of : (fed : List ℕ) (x : Taken) (mem : List ℕ) (p : Packet) → Good fed x → told x ≡ Some p → EndsWith fed p.request.0 (take p.size (over mem (payload_in x)))
unfolding Good told answered payload_in over
packet_of fed (goes q) mem p g e = absurd (cc)
packet_of fed (packet code payload) mem p g e =
    let same : answered code (length payload) ≡ p = cc in
    rw (← same, take_at payload (drop (length payload) mem) _ refl) g.0

-- After any bytes with times that do not go back, fed to a collector with nothing begun: where one more byte completes a packet,
-- its code and its payload write back to the bytes that were fed last.
pub collected_writes_back : (s : Collector) (mem : List ℕ) (t : ℕ → ℕ) (bs : List ℕ) (b : ℕ) (p : Packet) → s.stage ≡ Empty → length mem ≡ 255 → s.last ≤ t 0
    → ((j : ℕ) → t j ≤ t (suc j)) → Bytes bs → b < 256
    → answer_to (feeding s mem t bs).collector (feeding s mem t bs).memory (t (length bs)) b ≡ gives (Some p)
    → EndsWith (bs ++ b ∷ []) p.request.0 (take p.size (memory_after (feeding s mem t bs).collector (feeding s mem t bs).memory (t (length bs)) b))
collected_writes_back s mem t bs b p idle room fresh up l h e =
    let u = (feeding s mem t bs).collector in
    let m = (feeding s mem t bs).memory in
    let time = t (length bs) in
    let begin : Traced [] s mem (t 0) = record { follows = rw idle (unfold part_of in (none_follows [] s.begun)); room = room; last = fresh } in
    let d : Traced bs u m time = traced_all [] bs s mem t begin up l in
    let x = taking (part_of u.stage u.begun m) time b in
    let g = taken_three u time b m d.last x refl in
    rw g.2
    (packet_of (bs ++ b ∷ []) x m p (taking_good bs (part_of u.stage u.begun m) time b d.follows (omega arith)) (gives_one (sym g.0 ∙ e)))
