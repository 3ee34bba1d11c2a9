-- What a byte makes of a packet so far, and what `Collector::byte` and `Stage::next` stand on: `earlier`, `met`, `payload_stepped`.
use Prim.Native.Nat.{ℕ, suc, ◌+◌, ◌-◌, ◌<◌, ◌≤◌}
use mathlib.Core.Path.{◌≡◌, refl, sym, ap, ◌∙◌}
use mathlib.Core.Bool.{Bool, true, false, cond, not, or-true}
use mathlib.Core.List.{List, [], ◌∷◌, ◌++◌}
use native.Mathlib.Omega.{arith}
use native.Mathlib.Numerals.{add-one}
use lib.Bits.{bit_xor}
use lib.Dec.{ltb, eqb}
use lib.ListN.{length, get_or, take, drop, set, take-append-drop}
use lib.Seq.{take-take, take_all, length-take-le, set_split, append_snoc}
use Rattle.std.proofs.lemmas.List.{length_push}
use borrow.Author.Tests.{lt-ltb, le-ltb, eq-eqb, ne_eqb}
use Rattle.paper.specs.Outcome.{gives, refuses, if_given, mapped}
use Rattle.paper.specs.Refusals.{number_of}
use Rattle.std.specs.Prelude.{None}
use Rattle.paper.specs.Writing.{over}
use Rattle.paper.specs.declared.refusal.Refusal.TheVariants.{TimeEarlier}
use Rattle.paper.proofs.Outcome.{refuse_yes, refuse_no}
use Rattle.wire.specs.Request.{start_byte, packet_time}
use Rattle.device.specs.Collector.{
  Part,
  empty,
  started,
  begin,
  late,
  whole,
  wrong,
  Taken,
  goes,
  packet,
  joining,
  taking,
  part_of,
  stage_of,
  collecting,
  behind,
  payload_in,
  told,
  answer_to,
  collector_after,
  memory_after,
  collected,
}
use Rattle.device.specs.inner.Collecting.{stepping, begun_by, Stepped}
use Rattle.device.specs.declared.collector.Stage.{Stage}
use Rattle.device.specs.declared.collector.Stage.TheVariants.{Empty, Started, Coded, Sized}
use Rattle.device.specs.declared.collector.Collector.{Collector}

-- ---- what a byte makes of a packet so far

pub begin_yes : (time b : ℕ) → b ≡ start_byte → begin time b ≡ started time
unfolding begin
begin_yes time b e = rw (eq-eqb b start_byte e)

module _ (p : Part) (time b : ℕ) where
  pub taken_none : length p.bytes ≡ 0 → taking p time b ≡ goes (begin time b)
  unfolding taking
  taken_none e = rw (eq-eqb (length p.bytes) 0 e)

  pub taken_late : late p time ≡ true → taking p time b ≡ goes (begin time b)
  unfolding taking
  taken_late e = rw (e, or-true (eqb (length p.bytes) 0))

  pub taken_joins : 0 < length p.bytes → late p time ≡ false → taking p time b ≡ joining p b
  unfolding taking
  taken_joins h e = rw (ne_eqb (length p.bytes) 0 (λ q. omega arith), e)

module _ (p : Part) (b : ℕ) where
  pub joins_more : whole (p.bytes ++ b ∷ []) ≡ false
      → joining p b ≡ goes (record { bytes = p.bytes ++ b ∷ []; sum = bit_xor p.sum b; begun = p.begun })
  unfolding joining
  joins_more e = rw e

  pub joins_wrong : whole (p.bytes ++ b ∷ []) ≡ true → wrong p b ≡ true → joining p b ≡ goes empty
  unfolding joining
  joins_wrong e f = rw (e, f)

  pub joins_packet : whole (p.bytes ++ b ∷ []) ≡ true → wrong p b ≡ false → joining p b ≡ packet (get_or (p.bytes ++ b ∷ []) 1 0) (drop 3 p.bytes)
  unfolding joining
  joins_packet e f = rw (e, f)

-- the time of a packet is its collector's
pub late_of : (st : Stage) (begun time : ℕ) (mem : List ℕ) → late (part_of st begun mem) time ≡ ltb packet_time (time - begun)
unfolding late part_of started
late_of Empty begun time mem = refl
late_of Started begun time mem = refl
late_of (Coded code) begun time mem = refl
late_of (Sized code size count sum) begun time mem = refl

-- a byte that comes in time joins a packet begun
pub joined_at : (st : Stage) (begun time b : ℕ) (mem : List ℕ) → 0 < length (part_of st begun mem).bytes → ltb packet_time (time - begun) ≡ false
    → taking (part_of st begun mem) time b ≡ joining (part_of st begun mem) b
joined_at st begun time b mem h e = taken_joins (part_of st begun mem) time b h (late_of st begun time mem ∙ e)

-- the size
unfoldable pub sized : ℕ → ℕ → ℕ → Part
sized begun code b = record { bytes = start_byte ∷ code ∷ b ∷ []; sum = bit_xor (bit_xor start_byte code) b; begun = begun }

pub size_joins : (begun code b : ℕ) (was : List ℕ) → joining (part_of (Coded code) begun was) b ≡ goes (sized begun code b)
unfolding part_of whole sized
size_joins begun code b was = joins_more (part_of (Coded code) begun was) b (ne_eqb 0 (b + 1) (λ z. omega arith))

-- the payload so far with one byte more
one_more : (count b : ℕ) (was : List ℕ) → count ≤ length was → length (take count was ++ b ∷ []) ≡ count + 1
one_more count b was h = length_push (take count was) b ∙ ap (λ (k : ℕ). k + 1) (length-take-le count was h)

-- the payload
module _ (code size count sum begun b : ℕ) (was : List ℕ) where
  pub filled : Part
  filled = record { bytes = start_byte ∷ code ∷ size ∷ take count was ++ b ∷ []; sum = bit_xor sum b; begun = begun }

  module _ (h : count < size) (l : size ≤ length was) where
    pub payload_joins : joining (part_of (Sized code size count sum) begun was) b ≡ goes filled
    unfolding part_of whole filled
    payload_joins =
        let t : take count (take size was) ≡ take count was = take-take count size was (omega arith) in
        let n : length (take count was ++ b ∷ []) ≡ count + 1 = one_more count b was (omega arith) in
        let w : eqb (length (take count was ++ b ∷ [])) (size + 1) ≡ false = ne_eqb (length (take count was ++ b ∷ [])) (size + 1) (λ (z : length (take count was ++ b ∷ []) ≡ size + 1). omega arith) in
        joins_more (part_of (Sized code size count sum) begun was) b (rw t w) ∙ rw t

    pub payload_behind : (time : ℕ) → behind time (goes filled) ≡ record { stage = Sized code size (count + 1) (bit_xor sum b); begun = begun; last = time }
    unfolding behind stage_of filled
    payload_behind time =
        let n : length (take count was ++ b ∷ []) ≡ count + 1 = one_more count b was (omega arith) in
        let held : ℕ → Collector = λ k. record { stage = Sized code size k (bit_xor sum b); begun = begun; last = time } in
        ap held n

    pub payload_memory : set was count b ≡ over was (payload_in (goes filled))
    unfolding payload_in over filled
    payload_memory =
        let n : length (take count was ++ b ∷ []) ≡ suc count = one_more count b was (omega arith) ∙ add-one count in
        rw n (set_split was count b (omega arith) ∙ sym (append_snoc (take count was) b (drop (suc count) was)))

-- the checksum
module _ (code size count sum begun b : ℕ) (was : List ℕ) (h : size ≤ count) (l : size ≤ length was) where
  all_there : take count (take size was) ≡ take size was
  all_there = take_all count (take size was) (let n = length-take-le size was l in omega arith)

  last_whole : whole ((part_of (Sized code size count sum) begun was).bytes ++ b ∷ []) ≡ true
  unfolding part_of whole
  last_whole =
      rw all_there (eq-eqb (length (take size was ++ b ∷ [])) (size + 1) (one_more size b was l))

  last_wrong : wrong (part_of (Sized code size count sum) begun was) b ≡ not (eqb b sum)
  unfolding part_of wrong
  last_wrong = rw (lt-ltb 1 (length (start_byte ∷ code ∷ size ∷ take count (take size was))) (omega arith))

  pub last_yes : b ≡ sum → joining (part_of (Sized code size count sum) begun was) b ≡ packet code (take size was)
  last_yes e =
      joins_packet (part_of (Sized code size count sum) begun was) b last_whole (last_wrong ∙ ap not (eq-eqb b sum e)) ∙ (unfold part_of in (ap (packet code) all_there))

-- a whole packet's payload is in the memory already
pub kept_memory : (code size : ℕ) (was : List ℕ) → size ≤ length was → was ≡ over was (payload_in (packet code (take size was)))
unfolding payload_in over
kept_memory code size was l = rw (length-take-le size was l) (sym (take-append-drop size was))

-- a byte that is not earlier is taken, and leads to three things
pub taken_gives : (s : Collector) (time b : ℕ) (was : List ℕ) → s.last ≤ time → (t : Taken) → taking (part_of s.stage s.begun was) time b ≡ t
    → collecting s was time b ≡ gives t
unfolding collecting
taken_gives s time b was fresh t e = refuse_no _ _ (le-ltb time s.last fresh) ∙ ap gives e

pub taken_three : (s : Collector) (time b : ℕ) (was : List ℕ) → s.last ≤ time → (t : Taken) → taking (part_of s.stage s.begun was) time b ≡ t
    → (answer_to s was time b ≡ gives (told t)) × (collector_after s was time b ≡ behind time t) × (memory_after s was time b ≡ over was (payload_in t))
unfolding mapped if_given answer_to collector_after memory_after
taken_three s time b was fresh t e = let g = taken_gives s time b was fresh t e in (rw g, rw g, rw g)

-- ---- what the functions stand on

-- a byte of the payload
pub payload_stepped : {st : Stage} {k : ℕ} (code size count sum b : ℕ) (was : List ℕ) → st ≡ Sized code size count sum → k ≡ count → count < size → size ≤ length was
    → Stepped st b was (Sized code size (count + 1) (bit_xor sum b), None) (set was k b)
unfolding stepping told collected begun_by
payload_stepped code size count sum b was e i h l = rw (e, i) (record {
  answer = λ begun time. rw (payload_joins code size count sum begun b was h l)
      (ap (λ (s : Collector). record { collector = s; packet = None }) (payload_behind code size count sum begun b was h l time));
  memory = λ begun time. rw (payload_joins code size count sum begun b was h l) (sym (payload_memory code size count sum begun b was h l));
})

-- what the byte that is taken makes of the stage that it meets
pub met : (s : Collector) (was : List ℕ) (time b : ℕ) → s.last ≤ time
    → collecting s was time b ≡ gives (stepping (cond (ltb packet_time (time - s.begun)) Empty s.stage) s.begun was time b)
unfolding stepping
met s was time b fresh = taken_gives s time b was fresh _ (go (ltb packet_time (time - s.begun)) refl s.stage)
  where
    go : (x : Bool) → ltb packet_time (time - s.begun) ≡ x → (st : Stage) → taking (part_of st s.begun was) time b ≡ stepping (cond x Empty st) s.begun was time b
    go true e st = taken_late (part_of st s.begun was) time b (late_of st s.begun time was ∙ e)
    go false e Empty = taken_none (part_of Empty s.begun was) time b (unfold part_of in refl)
    go false e Started = joined_at Started s.begun time b was (unfold part_of started in (omega arith)) e
    go false e (Coded code) = joined_at (Coded code) s.begun time b was (unfold part_of in (omega arith)) e
    go false e (Sized code size count sum) = joined_at (Sized code size count sum) s.begun time b was (unfold part_of in (omega arith)) e

pub earlier : (s : Collector) (was : List ℕ) (time b : ℕ) → time < s.last → collecting s was time b ≡ refuses (number_of TimeEarlier)
unfolding collecting
earlier s was time b h = refuse_yes _ _ (lt-ltb time s.last h)
