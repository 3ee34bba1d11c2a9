-- How the promise of `given` is met: `given_short` and `given_written`.
use Prim.Native.Nat.{ℕ, ◌+◌, ◌≤◌, ◌<◌}
use mathlib.Core.Path.{◌≡◌, refl, ◌∙◌}
use mathlib.Core.List.{List}
use native.Mathlib.Omega.{arith}
use borrow.Author.Tests.{lt-ltb, le-ltb}
use lib.ListN.{length}
use Rattle.paper.specs.Outcome.{gives}
use Rattle.paper.specs.Refusals.{number_of}
use Rattle.paper.specs.Promises.{put_at}
use Rattle.paper.specs.Writing.{over, Writes}
use Rattle.paper.specs.declared.refusal.Refusal.TheVariants.{OutputShort}
use Rattle.std.specs.Prelude.{Ok, Err}
use Rattle.paper.proofs.Outcome.{refuse_yes, refuse_no}
use Rattle.paper.proofs.Writing.{writes_all, writes_no, writes_yes}
use Rattle.stream.specs.declared.Phase.{Phase}
use Rattle.stream.specs.declared.Stop.{Stop}
use Rattle.text.specs.Appends.{Appends}
use Rattle.text.proofs.Puts.{append_whole}
use Rattle.scantext.specs.Lines.{call_text, room_for, call_out}

-- what stands at the front of an output
front_over : (xs was is : List ℕ) (r : ℕ) → Appends was 0 xs r is → is ≡ over was xs
unfolding put_at over
front_over xs was is r p =
    let z : 0 + length xs ≡ length xs = omega arith in
    append_whole p ∙ rw z

module _ (p : Phase) (words : List ℕ) (stop : Stop) (reply was : List ℕ) where
  pub given_short : length was < room_for (length words) → Writes (call_out (length was) p words stop reply) was (Err OutputShort) was
  unfolding call_out
  given_short l = writes_no (refuse_yes (number_of OutputShort) (gives (call_text p words stop reply)) (lt-ltb (length was) (room_for (length words)) l))

  pub given_written : {is : List ℕ} {r : ℕ} → room_for (length words) ≤ length was → length (call_text p words stop reply) ≤ length was
      → Appends was 0 (call_text p words stop reply) r is → Writes (call_out (length was) p words stop reply) was (Ok r) is
  unfolding call_out
  given_written {is} {r} l fit text =
      writes_yes (refuse_no (number_of OutputShort) (gives (call_text p words stop reply)) (le-ltb (length was) (room_for (length words)) l)) refl
      (writes_all (call_text p words stop reply) was is r fit (omega (arith, text.end)) (front_over _ was is r text))
