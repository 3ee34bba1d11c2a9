-- What a caller with the stated room knows of the text of a call: the room is never too short (`call_never_short`), and the bytes written are the
-- text (`call_shown`).
use Prim.Native.Nat.{ℕ, ◌≤◌, ◌<◌}
use mathlib.Core.Path.{◌≡◌}
use mathlib.Core.List.{List}
use native.Mathlib.Omega.{arith}
use borrow.Author.Tests.{le-ltb}
use lib.ListN.{length, get_or}
use Rattle.paper.specs.Outcome.{gives}
use Rattle.paper.specs.Refusals.{number_of}
use Rattle.paper.specs.Writing.{Writes}
use Rattle.paper.specs.declared.refusal.Refusal.{Refusal}
use Rattle.paper.specs.declared.refusal.Refusal.TheVariants.{OutputShort}
use Rattle.std.specs.Prelude.{Result, Ok, Err}
use Rattle.paper.proofs.Outcome.{refuse_no}
use Rattle.paper.proofs.Writing.{writes_same}
use Rattle.stream.specs.declared.Phase.{Phase}
use Rattle.stream.specs.declared.Stop.{Stop}
use Rattle.text.proofs.Shown.{Shows, line_never_short, line_shown}
use Rattle.scantext.specs.Lines.{call_text, room_for, call_out}
use Rattle.scantext.proofs.Room.{each_below, call_short}

module _ (p : Phase) (words : List ℕ) (stop : Stop) (reply : List ℕ) {was is : List ℕ} {r : Result ℕ Refusal}
    (small : (i : ℕ) → get_or words i 0 < 65536) (room : room_for (length words) ≤ length was)
    (w : Writes (call_out (length was) p words stop reply) was r is) where
  fits : length (call_text p words stop reply) ≤ length was
  fits = omega (arith, call_short p words stop reply (each_below words small))

  as_line : Writes (gives (call_text p words stop reply)) was r is
  unfolding call_out
  as_line = writes_same (refuse_no (number_of OutputShort) (gives (call_text p words stop reply)) (le-ltb (length was) (room_for (length words)) room)) w

  pub call_never_short : {q : Refusal} → r ≡ Err q → ⊥
  call_never_short = line_never_short (call_text p words stop reply) fits as_line

  pub call_shown : (n : ℕ) → r ≡ Ok n → Shows (call_text p words stop reply) n is
  call_shown = line_shown (call_text p words stop reply) fits as_line
