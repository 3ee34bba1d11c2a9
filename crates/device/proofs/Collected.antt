-- Every request that can be written, fed byte by byte in time to a collector with nothing begun, is collected after its last byte and not before: `request_collected`.
use Prim.Native.Nat.{ℕ, suc, ◌+◌, ◌-◌, ◌<◌, ◌≤◌}
use mathlib.Core.Path.{◌≡◌, refl, sym, ap, ◌∙◌}
use mathlib.Core.Bool.{Bool, true, false}
use mathlib.Core.List.{List, [], ◌∷◌, ◌++◌}
use Rattle.std.specs.Prelude.{Option, None, Some}
use native.Mathlib.Omega.{arith}
use native.Mathlib.Numerals.{add-one}
use lib.Bits.{bit_xor}
use lib.Dec.{ltb}
use lib.ListN.{length, take, drop, set, replicate, length-append, length-set, take-append-drop}
use lib.Seq.{length-take-le, take-suc-set, drop-set-lt, append_snoc}
use Rattle.std.proofs.lemmas.List.{nil_from_length}
use borrow.Author.Tests.{le-ltb, lt-ltb, ltb-true, ltb-false}
use Rattle.paper.specs.Outcome.{Outcome, gives}
use Rattle.paper.specs.Refusals.{number_of}
use Rattle.paper.specs.Sum.{xor_from, sum_of}
use Rattle.paper.specs.Writing.{over}
use Rattle.paper.specs.declared.refusal.Refusal.TheVariants.{CodeNotPermitted}
use Rattle.paper.proofs.Outcome.{gives_one, refuse_not}
use Rattle.wire.specs.Request.{start_byte, packet_time, with_sum, request_of}
use Rattle.device.specs.Collector.{started, whole, wrong, Taken, goes, packet, taking, part_of, stage_of, behind, payload_in, answered, told}
use Rattle.device.specs.Feeding.{Fed, onward, feeding, collected_whole}
use Rattle.device.proofs.Collecting.{
  begin_yes,
  taken_none,
  joins_more,
  joins_packet,
  joined_at,
  sized,
  size_joins,
  filled,
  payload_joins,
  payload_behind,
  payload_memory,
  last_yes,
  kept_memory,
  taken_three,
}
use Rattle.device.specs.declared.collector.Stage.{Stage}
use Rattle.device.specs.declared.collector.Stage.TheVariants.{Empty, Started, Coded, Sized}
use Rattle.device.specs.declared.collector.Collector.{Collector}
use Rattle.device.specs.declared.collector.Packet.{Packet}

-- a collector at a stage
at_stage : Stage → ℕ → ℕ → Collector
at_stage st begun last = record { stage = st; begun = begun; last = last }

-- one byte, and then the further ones
fed_step : (s : Collector) (mem : List ℕ) (t : ℕ → ℕ) (b : ℕ) (bs : List ℕ) (x : Taken) {u : Collector} {is : List ℕ} → s.last ≤ t 0
    → taking (part_of s.stage s.begun mem) (t 0) b ≡ x → behind (t 0) x ≡ u → over mem (payload_in x) ≡ is
    → feeding s mem t (b ∷ bs) ≡ onward (gives (told x)) (feeding u is (λ k. t (suc k)) bs)
unfolding feeding
fed_step s mem t b bs x f e v m =
    let g = taken_three s (t 0) b mem f x e in
    rw (g.0, g.1, g.2, v, m)

fed_is : {xs ys : List (Outcome (Option Packet))} {s u : Collector} {m w : List ℕ} → xs ≡ ys → s ≡ u → m ≡ w
    → ◌≡◌ {A = Fed} (record { answers = xs; collector = s; memory = m }) (record { answers = ys; collector = u; memory = w })
fed_is a c m = rw (a, c, m)

-- nothing complete for n bytes, and then a packet
answers_of : ℕ → ℕ → ℕ → List (Outcome (Option Packet))
answers_of n code size = replicate n (gives None) ++ gives (Some (answered code size)) ∷ []

-- the payload and the checksum, from the k-th byte of the payload on
module _ (code n begun : ℕ) where
  rest_fed : List ℕ → List ℕ → ℕ → (ℕ → ℕ) → Fed
  rest_fed qs mem k t = record {
    answers = answers_of (length qs) code n;
    collector = at_stage Empty 0 (t (length qs));
    memory = take k mem ++ (qs ++ drop n mem);
  }

  last_fed : (mem : List ℕ) (k : ℕ) (t : ℕ → ℕ) → k + 0 ≡ n → n ≤ length mem
      → onward (gives (told (packet code (take n mem)))) (feeding (at_stage Empty 0 (t 0)) mem (λ j. t (suc j)) []) ≡ rest_fed [] mem k t
  unfolding rest_fed answers_of onward feeding told
  last_fed mem k t e l =
      let size : length (take n mem) ≡ n = length-take-le n mem l in
      let same : k ≡ n = omega arith in
      fed_is (ap (λ (m : ℕ). gives (Some (answered code m)) ∷ []) size) refl (sym (take-append-drop n mem) ∙ ap (λ (m : ℕ). take m mem ++ drop n mem) (sym same))

  more_fed : (q : ℕ) (qs mem : List ℕ) (k : ℕ) (t : ℕ → ℕ) → k < n → n ≤ length mem
      → onward (gives None) (rest_fed qs (set mem k q) (k + 1) (λ j. t (suc j))) ≡ rest_fed (q ∷ qs) mem k t
  unfolding rest_fed answers_of onward
  more_fed q qs mem k t h l =
      let front : take (k + 1) (set mem k q) ≡ take k mem ++ q ∷ [] = ap (λ (m : ℕ). take m (set mem k q)) (add-one k) ∙ take-suc-set mem k q (omega arith) in
      let tail : drop n (set mem k q) ≡ drop n mem = drop-set-lt n mem k q h in
      fed_is refl refl (rw (front, tail) (append_snoc (take k mem) q (qs ++ drop n mem)))

  rest_fed_lem : (qs mem : List ℕ) (k acc last : ℕ) (t : ℕ → ℕ) → k + length qs ≡ n → n ≤ length mem → last ≤ t 0
      → ((j : ℕ) → t j ≤ t (suc j)) → ((j : ℕ) → t j - begun ≤ packet_time)
      → feeding (at_stage (Sized code n k acc) begun last) mem t (qs ++ xor_from acc qs ∷ []) ≡ rest_fed qs mem k t
  unfolding xor_from at_stage part_of behind told
  rest_fed_lem [] mem k acc last t e l f up soon =
      fed_step (at_stage (Sized code n k acc) begun last) mem t acc [] (packet code (take n mem)) f
      (joined_at (Sized code n k acc) begun (t 0) acc mem (omega arith) (le-ltb packet_time (t 0 - begun) (soon 0))
      ∙ last_yes code n k acc begun acc mem (omega arith) l refl)
      refl (sym (kept_memory code n mem l))
      ∙ last_fed mem k t e l
  rest_fed_lem (q ∷ qs) mem k acc last t e l f up soon =
      let h : k < n = omega arith in
      fed_step (at_stage (Sized code n k acc) begun last) mem t q (qs ++ xor_from (bit_xor acc q) qs ∷ []) (goes (filled code n k acc begun q mem)) f
      (joined_at (Sized code n k acc) begun (t 0) q mem (omega arith) (le-ltb packet_time (t 0 - begun) (soon 0))
      ∙ payload_joins code n k acc begun q mem h l)
      (payload_behind code n k acc begun q mem h l (t 0)) (sym (payload_memory code n k acc begun q mem h l))
      ∙ ap (onward (gives None))
      (rest_fed_lem qs (set mem k q) (k + 1) (bit_xor acc q) (t 0) (λ j. t (suc j)) (omega arith) (simp length-set l) (up 0) (λ j. up (suc j)) (λ j. soon (suc j)))
      ∙ more_fed q qs mem k t h l

-- what a request that can be written looks like
short_of : (code : ℕ) (payload bytes : List ℕ) → code < 0x80 → request_of code payload ≡ gives bytes → (payload ≡ []) × (start_byte ∷ code ∷ [] ≡ bytes)
unfolding request_of
short_of code payload bytes h e =
    let g = refuse_not (ltb 0 (length payload)) (number_of CodeNotPermitted) (gives (start_byte ∷ code ∷ [])) (rw (lt-ltb code 0x80 h) at e) in
    let none = ltb-false 0 (length payload) g.0 in
    (nil_from_length payload (omega arith), gives_one g.1)

long_of : (code : ℕ) (payload bytes : List ℕ) → 0x80 ≤ code → request_of code payload ≡ gives bytes
    → (length payload ≤ 255) × (with_sum (start_byte ∷ code ∷ length payload ∷ payload) ≡ bytes)
unfolding request_of
long_of code payload bytes h e =
    let g = refuse_not (ltb 255 (length payload)) (number_of CodeNotPermitted) (gives (with_sum (start_byte ∷ code ∷ length payload ∷ payload)))
    (rw (le-ltb code 0x80 h) at e) in
    (ltb-false 255 (length payload) g.0, gives_one g.1)

module _ (s : Collector) (mem : List ℕ) (t : ℕ → ℕ) (idle : s.stage ≡ Empty) (fresh : s.last ≤ t 0) (up : (j : ℕ) → t j ≤ t (suc j))
    (soon : (j : ℕ) → t j - t 0 ≤ packet_time) where
  on_time : (j : ℕ) → ltb packet_time (t j - t 0) ≡ false
  on_time j = le-ltb packet_time (t j - t 0) (soon j)

  first_fed : (bs : List ℕ) → feeding s mem t (start_byte ∷ bs) ≡ onward (gives None) (feeding (at_stage Started (t 0) (t 0)) mem (λ k. t (suc k)) bs)
  unfolding part_of behind stage_of started payload_in over told at_stage
  first_fed bs =
      fed_step s mem t start_byte bs (goes (started (t 0))) fresh
      (ap (λ (st : Stage). taking (part_of st s.begun mem) (t 0) start_byte) idle
      ∙ taken_none (part_of Empty s.begun mem) (t 0) start_byte refl ∙ ap goes (begin_yes (t 0) start_byte refl))
      refl refl

  short_fed : (code : ℕ) → code < 0x80 → feeding s mem t (start_byte ∷ code ∷ []) ≡ collected_whole code [] (start_byte ∷ code ∷ []) mem t
  unfolding part_of behind started payload_in over told at_stage collected_whole onward feeding whole wrong
  short_fed code h =
      first_fed (code ∷ [])
      ∙ ap (onward (gives None))
      (fed_step (at_stage Started (t 0) (t 0)) mem (λ k. t (suc k)) code [] (packet code []) (up 0)
      (joined_at Started (t 0) (t 1) code mem (omega arith) (on_time 1) ∙ joins_packet (started (t 0)) code (lt-ltb code 0x80 h) refl)
      refl refl)

  second_fed : (code : ℕ) (bs : List ℕ) → 0x80 ≤ code
      → feeding (at_stage Started (t 0) (t 0)) mem (λ k. t (suc k)) (code ∷ bs)
      ≡ onward (gives None) (feeding (at_stage (Coded code) (t 0) (t 1)) mem (λ k. t (suc (suc k))) bs)
  unfolding part_of behind stage_of started payload_in over told at_stage whole
  second_fed code bs h =
      fed_step (at_stage Started (t 0) (t 0)) mem (λ k. t (suc k)) code bs
      (goes (record { bytes = start_byte ∷ code ∷ []; sum = bit_xor start_byte code; begun = t 0 })) (up 0)
      (joined_at Started (t 0) (t 1) code mem (omega arith) (on_time 1) ∙ joins_more (started (t 0)) code (le-ltb code 0x80 h))
      refl refl

  size_fed : (code n : ℕ) (bs : List ℕ)
      → feeding (at_stage (Coded code) (t 0) (t 1)) mem (λ k. t (suc (suc k))) (n ∷ bs)
      ≡ onward (gives None) (feeding (at_stage (Sized code n 0 (bit_xor (bit_xor start_byte code) n)) (t 0) (t 2)) mem (λ k. t (suc (suc (suc k)))) bs)
  unfolding part_of behind stage_of payload_in over told at_stage sized
  size_fed code n bs =
      fed_step (at_stage (Coded code) (t 0) (t 1)) mem (λ k. t (suc (suc k))) n bs (goes (sized (t 0) code n)) (up 1)
      (joined_at (Coded code) (t 0) (t 2) n mem (omega arith) (on_time 2) ∙ size_joins (t 0) code n mem)
      refl refl

  long_fed : (code : ℕ) (payload : List ℕ) → 0x80 ≤ code → length payload ≤ length mem
      → feeding s mem t (with_sum (start_byte ∷ code ∷ length payload ∷ payload))
      ≡ collected_whole code payload (with_sum (start_byte ∷ code ∷ length payload ∷ payload)) mem t
  unfolding with_sum sum_of xor_from collected_whole over onward rest_fed answers_of at_stage
  long_fed code payload h l =
      let n = length payload in
      let acc = bit_xor (bit_xor start_byte code) n in
      let long : length (start_byte ∷ code ∷ n ∷ (payload ++ xor_from acc payload ∷ [])) - 1 ≡ suc (suc (suc n)) = simp length-append (omega arith) in
      first_fed (code ∷ n ∷ (payload ++ xor_from acc payload ∷ []))
      ∙ ap (onward (gives None)) (second_fed code (n ∷ (payload ++ xor_from acc payload ∷ [])) h
      ∙ ap (onward (gives None)) (size_fed code n (payload ++ xor_from acc payload ∷ [])
      ∙ ap (onward (gives None)) (rest_fed_lem code n (t 0) payload mem 0 acc (t 2) (λ k. t (suc (suc (suc k)))) (omega arith) l (up 2)
      (λ j. up (suc (suc (suc j)))) (λ j. soon (suc (suc (suc j)))))))
      ∙ ap (λ (m : ℕ). record {
        answers = replicate m (gives None) ++ gives (Some (answered code n)) ∷ [];
        collector = record { stage = Empty; begun = 0; last = t m };
        memory = payload ++ drop n mem;
      }) (sym long)

  pub request_collected : (code : ℕ) (payload bytes : List ℕ) → request_of code payload ≡ gives bytes → 255 ≤ length mem
      → feeding s mem t bytes ≡ collected_whole code payload bytes mem t
  request_collected code payload bytes e l = go (ltb code 0x80) refl
    where
      go : (x : Bool) → ltb code 0x80 ≡ x → feeding s mem t bytes ≡ collected_whole code payload bytes mem t
      go true x =
          let g = short_of code payload bytes (ltb-true code 0x80 x) e in
          rw (g.0, ← g.1) (short_fed code (ltb-true code 0x80 x))
      go false x =
          let g = long_of code payload bytes (ltb-false code 0x80 x) e in
          let m = g.0 in
          rw (← g.1) (long_fed code payload (ltb-false code 0x80 x) (omega arith))
