-- A call as code goes, from place to place in the bytes at hand, in any framing. The ones to know: `call_held`: held bytes are as bytes
-- handed over first; `call_decided`: bytes that give nothing are passed as far as they decide; `call_makes` and `call_stops`: the byte
-- that makes something due is taken or not; `call_gives` and `call_ends`: the first thing due is given.
use mathlib.Core.Path.{◌≡◌, refl, sym, ap, ap₂, ◌∙◌}
use mathlib.Core.Bool.{Bool, true, false}
use mathlib.Core.List.{List, [], ◌∷◌, ◌++◌, flat_map, append-nil, append_assoc, append-eq-nil_iff}
use Prim.Native.Nat.{ℕ, suc, ◌+◌, ◌-◌, ◌≤◌, ◌<◌}
use native.Mathlib.Nat.{add_assoc}
use native.Mathlib.Omega.{arith}
use borrow.Author.Tests.{le-leb}
use lib.ListN.{length, get_or, take, drop, take-append-drop}
use lib.Seq.{drop-cons, take-suc, length-take-le, drop-append-le}
use Rattle.framing.specs.Framing.{Step, more, Framing, Lawful, State, fresh, fed, test}
use Rattle.framing.specs.Run.{Result, stopped, joined, run, events, framed, skipped}
use Rattle.framing.specs.Calls.{Giving, outputs, Stop, all_taken, ended_by, no_room, Gave, also_gave, give, begins, Answer, rests, goes_on, decide, call}
use Rattle.framing.proofs.Run.{run_more, run_none, cutting, cutting_at, end_more, empty_more}
use Rattle.framing.proofs.Steps.{conserved, kept}
use Rattle.framing.proofs.Giving.{outputs-append}

-- xs are given before what a gives
unfoldable pub also_gives : {P E X : Type 0} → List X → Answer P E X → Answer P E X
also_gives xs a = record { result = a.result; given = xs ++ a.given; due = a.due; taken = a.taken; stop = a.stop }

-- r by n bytes that give nothing, and then a
unfoldable pub behind : {P E X : Type 0} → Result P E → ℕ → Answer P E X → Answer P E X
behind r n a = record { result = joined r a.result; given = a.given; due = a.due; taken = n + a.taken; stop = a.stop }

module _ {P E X : Type 0} (F : Framing P E) (G : Giving E X) where
  -- ---- the first thing due, by itself: if it ends the call, and if not

  pub call_ends : (s : State P) (x : X) (xs : List X) (bs : List ℕ) (room : ℕ) → G.words x ≤ room → G.ends x ≡ true
      → call F G s (x ∷ xs) bs room ≡ record { result = stopped s; given = x ∷ []; due = xs; taken = 0; stop = ended_by x }
  unfolding call give rests decide
  call_ends s x xs [] room h k = rw (le-leb _ _ h, k)
  call_ends s x xs (b ∷ bs) room h k = rw (le-leb _ _ h, k)

  give_on : (x : X) (xs : List X) (room : ℕ) → G.words x ≤ room → G.ends x ≡ false → give G room (x ∷ xs) ≡ also_gave x (give G (room - G.words x) xs)
  unfolding give
  give_on x xs room h k = rw (le-leb _ _ h, k)

  also_decide : (x : X) (w : Stop X) (t : Bool) (l m n : Answer P E X)
      → decide w t (also_gives (x ∷ []) l) (also_gives (x ∷ []) m) (also_gives (x ∷ []) n) ≡ also_gives (x ∷ []) (decide w t l m n)
  unfolding decide
  also_decide x all_taken true l m n = refl
  also_decide x all_taken false l m n = refl
  also_decide x (ended_by y) t l m n = refl
  also_decide x no_room t l m n = refl

  pub call_gives : (s : State P) (x : X) (xs : List X) (bs : List ℕ) (room : ℕ) → G.words x ≤ room → G.ends x ≡ false
      → call F G s (x ∷ xs) bs room ≡ also_gives (x ∷ []) (call F G s xs bs (room - G.words x))
  unfolding call rests goes_on also_gives also_gave
  call_gives s x xs [] room h k = rw (give_on x xs room h k)
  call_gives s x xs (b ∷ bs) room h k =
      let g : Gave X = give G (room - G.words x) xs in
      let r : Result P E = run F (fed s (b ∷ [])) in
      let new : List X = outputs G r.steps in
      rw (give_on x xs room h k)
      (also_decide x g.stop (begins G g.room new) (rests s g g.stop) (rests s g no_room) (goes_on g r (call F G r.end new bs g.room)))

  -- ---- one byte: with room for what it makes due, and with none

  by_one : (room : ℕ) (r : Result P E) (a : Answer P E X) → goes_on (record { given = []; left = []; room = room; stop = all_taken }) r a ≡ behind r 1 a
  unfolding goes_on behind
  by_one room r a = ap (λ (k : ℕ). record { result = joined r a.result; given = a.given; due = a.due; taken = k; stop = a.stop }) (omega arith)

  by_none : (s : State P) (a : Answer P E X) → a ≡ behind (stopped s) 0 a
  unfolding behind joined stopped
  by_none s a = ap (λ (k : ℕ). record { result = a.result; given = a.given; due = a.due; taken = k; stop = a.stop }) (omega arith)

  call_takes : (s : State P) (b : ℕ) (bs : List ℕ) (room : ℕ) → begins G room (outputs G (run F (fed s (b ∷ []))).steps) ≡ true
      → call F G s [] (b ∷ bs) room
      ≡ behind (run F (fed s (b ∷ []))) 1 (call F G (run F (fed s (b ∷ []))).end (outputs G (run F (fed s (b ∷ []))).steps) bs room)
  unfolding call give decide
  call_takes s b bs room h = rw h (by_one room (run F (fed s (b ∷ []))) _)

  call_before : (s : State P) (b : ℕ) (bs : List ℕ) (room : ℕ) → begins G room (outputs G (run F (fed s (b ∷ []))).steps) ≡ false
      → call F G s [] (b ∷ bs) room ≡ record { result = stopped s; given = []; due = []; taken = 0; stop = no_room }
  unfolding call give decide rests
  call_before s b bs room h = rw h

  no_output : (r t : Result P E) → outputs G (joined r t).steps ≡ [] → (outputs G r.steps ≡ []) × (outputs G t.steps ≡ [])
  unfolding joined
  no_output r t e = append-eq-nil_iff.0 (sym (outputs-append G r.steps t.steps) ∙ e)

  behind_behind : (r t : Result P E) (m n : ℕ) (a : Answer P E X) → behind r m (behind t n a) ≡ behind (joined r t) (m + n) a
  unfolding behind joined
  behind_behind r t m n a = rw (append_assoc, add_assoc)

module _ {P E X : Type 0} {F : Framing P E} (ok : Lawful F) (G : Giving E X) where
  -- bytes that give nothing are taken, whatever the room
  call_through : (s : State P) (xs bs : List ℕ) (room : ℕ) → test F s ≡ more → outputs G (run F (fed s xs)).steps ≡ []
      → call F G s [] (xs ++ bs) room ≡ behind (run F (fed s xs)) (length xs) (call F G (run F (fed s xs)).end [] bs room)
  unfolding begins joined stopped
  call_through s [] bs room e h = rw (run_none ok s e) (by_none F G s (call F G s [] bs room))
  call_through s (x ∷ xs) bs room e h =
      let r : Result P E = run F (fed s (x ∷ [])) in
      let n = no_output F G r (run F (fed r.end xs)) (rw (cutting_at ok s (x ∷ []) xs) at h) in
      call_takes F G s x (xs ++ bs) room (ap (begins G room) n.0)
      ∙ ap (λ (l : List X). behind r 1 (call F G r.end l (xs ++ bs) room)) n.0
      ∙ ap (behind r 1) (call_through r.end xs bs room (end_more ok (fed s (x ∷ []))) n.1)
      ∙ behind_behind F G r (run F (fed r.end xs)) 1 (length xs) _
      ∙ ap₂ (λ (u : Result P E) (k : ℕ). behind u k (call F G u.end [] bs room)) (sym (cutting_at ok s (x ∷ []) xs)) (omega arith)

  -- a call that holds bytes is the call that is handed them first
  pub call_held : (s : State P) (bs : List ℕ) (room : ℕ) → test F s ≡ more
      → call F G (fresh s.phase) [] (s.bytes ++ bs) room ≡ behind (stopped s) (length s.bytes) (call F G s [] bs room)
  unfolding fed stopped outputs events flat_map
  call_held s bs room e =
      let q : run F (fed (fresh s.phase) s.bytes) ≡ stopped s = run_more ok s e in
      call_through (fresh s.phase) s.bytes bs room (empty_more ok s.phase) (rw q)
      ∙ rw q

  module _ (p : P) (xs : List ℕ) where
    abbrev here : List ℕ → State P
    here ys = record { phase = p; bytes = ys }

    -- what the first m bytes decide
    abbrev pub front : ℕ → Result P E
    front m = run F (here (take m xs))

    -- how many of them that is
    unfoldable pub decided : ℕ → ℕ
    decided m = framed (front m).steps + skipped (front m).steps

    through : (m : ℕ) (room : ℕ) → m ≤ length xs → outputs G (front m).steps ≡ []
        → call F G (fresh p) [] xs room ≡ behind (front m) m (call F G (front m).end [] (drop m xs) room)
    unfolding fed
    through m room h q =
        ap (λ (l : List ℕ). call F G (fresh p) [] l room) (sym (take-append-drop m xs))
        ∙ call_through (fresh p) (take m xs) (drop m xs) room (empty_more ok p) q
        ∙ rw (length-take-le m xs h)

    join_nil : (t : Result P E) → joined (record { steps = t.steps; end = fresh t.end.phase }) (stopped t.end) ≡ t
    unfolding joined stopped
    join_nil t = rw (append-nil t.steps)

    -- they give nothing: what they decide is passed, and the call goes on behind it, holding nothing
    pub call_decided : (m : ℕ) (room : ℕ) → m ≤ length xs → outputs G (front m).steps ≡ []
        → call F G (fresh p) [] xs room
        ≡ behind (record { steps = (front m).steps; end = fresh (front m).end.phase }) (decided m)
        (call F G (fresh (front m).end.phase) [] (drop (decided m) xs) room)
    unfolding decided
    call_decided m room h q =
        let l : length (take m xs) ≡ m = length-take-le m xs h in
        let c = conserved ok (here (take m xs)) in
        let k : (front m).end.bytes ≡ drop (decided m) (take m xs) = kept ok (here (take m xs)) in
        let d : (front m).end.bytes ++ drop m xs ≡ drop (decided m) xs =
        ap (λ (y : List ℕ). y ++ drop m xs) k
        ∙ sym (drop-append-le (decided m) (take m xs) (drop m xs) (omega (arith, l, c)))
        ∙ ap (λ (y : List ℕ). drop (decided m) y) (take-append-drop m xs) in
        let a : Answer P E X = call F G (front m).end [] (drop m xs) room in
        let u = rw d at (call_held (front m).end (drop m xs) room (end_more ok (here (take m xs)))) in
        let r : Result P E = record { steps = (front m).steps; end = fresh (front m).end.phase } in
        through m room h q
        ∙ ap₂ (λ (t : Result P E) (i : ℕ). behind t i a) (sym (join_nil (front m))) (omega (arith, l, c))
        ∙ sym (behind_behind F G r (stopped (front m).end) (decided m) (length (front m).end.bytes) a)
        ∙ ap (behind r (decided m)) (sym u)

    -- the next byte makes something due: it is taken if the first has room, else the call stops before it
    module _ (m : ℕ) (h : m < length xs) (q : outputs G (front m).steps ≡ []) where
      abbrev b : ℕ
      b = get_or xs m 0

      abbrev made : Result P E
      made = run F (fed (front m).end (b ∷ []))

      both : front (suc m) ≡ joined (front m) made
      unfolding fed
      both = rw (take-suc xs m 0 h) (cutting ok (here (take m xs)) (b ∷ []))

      abbrev new : List X
      new = outputs G (front (suc m)).steps

      made_new : outputs G made.steps ≡ new
      unfolding joined
      made_new =
          sym (ap (λ (t : Result P E). outputs G t.steps) both
          ∙ outputs-append G (front m).steps made.steps
          ∙ ap (λ (l : List X). l ++ outputs G made.steps) q)

      up_to : (room : ℕ) → call F G (fresh p) [] xs room ≡ behind (front m) m (call F G (front m).end [] (b ∷ drop (suc m) xs) room)
      up_to room = through m room (omega arith) q ∙ rw (drop-cons xs m 0 h)

      pub call_makes : (room : ℕ) → begins G room (outputs G (front (suc m)).steps) ≡ true
          → call F G (fresh p) [] xs room ≡ behind (front (suc m)) (suc m) (call F G (front (suc m)).end (outputs G (front (suc m)).steps) (drop (suc m) xs) room)
      unfolding joined
      call_makes room w =
          up_to room
          ∙ ap (behind (front m) m) (call_takes F G (front m).end b (drop (suc m) xs) room (rw made_new w))
          ∙ behind_behind F G (front m) made m 1 _
          ∙ ap (λ (l : List X). behind (joined (front m) made) (m + 1) (call F G made.end l (drop (suc m) xs) room)) made_new
          ∙ ap₂ (λ (t : Result P E) (i : ℕ). behind t i (call F G t.end new (drop (suc m) xs) room)) (sym both) (omega arith)

      pub call_stops : (room : ℕ) → begins G room (outputs G (front (suc m)).steps) ≡ false
          → call F G (fresh p) [] xs room ≡ record { result = front m; given = []; due = []; taken = m; stop = no_room }
      unfolding behind joined stopped
      call_stops room w =
          up_to room
          ∙ ap (behind (front m) m) (call_before F G (front m).end b (drop (suc m) xs) room (rw made_new w))
          ∙ ap₂ (λ (l : List (Step E)) (i : ℕ). record { result = record { steps = l; end = (front m).end }; given = []; due = []; taken = i; stop = no_room })
          (append-nil (front m).steps) (omega arith)
