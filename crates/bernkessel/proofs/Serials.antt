-- The serial of a record written out: refused where the record does not read (`serial_refused`), and otherwise its bytes (`serial_written`).
use Rattle.std.proofs.Common.{ℕ, List, [], Result, Ok, Err, sym, ap, ◌∙◌}
use Rattle.paper.specs.Outcome.{Outcome, gives, mapped, if_given}
use Rattle.paper.specs.Refusals.{outcome}
use Rattle.paper.specs.Writing.{Writes}
use Rattle.paper.specs.declared.refusal.Refusal.{Refusal}
use Rattle.paper.proofs.Outcome.{refused_as, mapped_given}
use Rattle.paper.proofs.Writing.{writes_no, writes_yes}
use Rattle.record.specs.Record.{Turn, turn_of}
use Rattle.record.specs.Promises.{Checked, SerialGiven}

module _ (rec : List ℕ) where
  pub serial_refused : {q : Refusal} {was : List ℕ} → Checked rec (Err q) → Writes (mapped (λ (t : Turn). t.serial) (turn_of rec)) was (Err q) was
  unfolding outcome
  serial_refused p = writes_no (sym (refused_as (λ (t : Turn). tt) (turn_of rec) (λ (t : Turn). t.serial) p.answer))

  pub serial_written : {part was is : List ℕ} {r : Result ℕ Refusal} → Checked rec (Ok tt) → SerialGiven rec part → Writes (gives part) was r is
      → Writes (mapped (λ (t : Turn). t.serial) (turn_of rec)) was r is
  unfolding outcome mapped if_given
  serial_written p s w =
      let read = (mapped_given (λ (t : Turn). tt) (turn_of rec) p.answer).1.0 in
      writes_yes (ap (mapped (λ (t : Turn). t.serial)) read) (s.answer ∙ ap (λ (o : Outcome Turn). if_given o (λ (t : Turn). t.serial) []) read) w
