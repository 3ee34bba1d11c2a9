-- The account of a call from a place on, added to what was done before it: the form in which code meets a call.
use Rattle.std.specs.Prelude.{◌≡◌, ℕ, ◌+◌, ◌-◌, length, drop}
use mathlib.Core.List.{List, [], ◌∷◌, ◌++◌, flat_map}
use Rattle.std.proofs.lemmas.List.Edits.{sets}
use Rattle.framing.specs.Framing.{State, fresh}
use Rattle.framing.specs.Run.{skipped}
use Rattle.framing.specs.Calls.{Answer, call}
use Rattle.wire.specs.Sample.{words_of}
use Rattle.stream.specs.declared.Phase.{Phase}
use Rattle.stream.specs.declared.Stop.{Stop}
use Rattle.stream.specs.Table.{Event, Thing, headed, replied, unread, point, reader, giving, row_of}
use Rattle.stream.specs.Stops.{stop_of, reply_for}

-- the words of things, stored from u on
unfoldable pub put : List ℕ → ℕ → List Thing → List ℕ
put ws u [] = ws
put ws u (headed ∷ xs) = put ws u xs
put ws u (replied w ∷ xs) = put ws u xs
put ws u (unread ∷ xs) = put ws u xs
put ws u (point m ∷ xs) = put (sets ws u (words_of m)) (u + 3) xs

pub record Account : Type 0 where
  pub taken : ℕ
  pub skipped : ℕ
  pub used : ℕ
  pub words : List ℕ
  pub stop : Stop
  pub reply : List ℕ
  pub end : State Phase

-- a call that comes to a, where t bytes were taken before it, k skipped, and u of the words used
unfoldable pub account : ℕ → ℕ → ℕ → List ℕ → Answer Phase Event Thing → Account
account t k u ws a = record {
  taken = t + a.taken;
  skipped = k + skipped a.result.steps;
  used = u + length (flat_map row_of a.given);
  words = put ws u a.given;
  stop = stop_of a.stop;
  reply = reply_for a.stop;
  end = a.result.end;
}

-- the call in state s over these bytes, where so much was done before it
unfoldable pub comes_to : State Phase → List ℕ → ℕ → ℕ → ℕ → List ℕ → Account
comes_to s xs t k u ws = account t k u ws (call reader giving s [] xs (length ws - u))

-- From phase p, with none held, the bytes of `part` from b up to i are passed, whatever comes behind them; k of them are skipped, and the
-- words go from u in ws to v in vs.
pub record Moves (p : Phase) (part : List ℕ) (b i k u : ℕ) (ws : List ℕ) (v : ℕ) (vs : List ℕ) : Type 0 where
  pub go : (ys : List ℕ) (t j : ℕ) → comes_to (fresh p) (drop b part ++ ys) (t + b) j u ws ≡ comes_to (fresh p) (drop i part ++ ys) (t + i) (j + k) v vs
