-- What each public function of the crate promises.
use Rattle.std.specs.Prelude.{ℕ, ◌≡◌, List, length, Result}
use Rattle.paper.specs.Outcome.{if_given, mapped}
use Rattle.paper.specs.Refusals.{outcome}
use Rattle.paper.specs.Writing.{over, fitting}
use Rattle.paper.specs.declared.refusal.Refusal.{Refusal}
use Rattle.session.specs.Session.{sending}
use Rattle.stream.specs.Promises.{called, Reads}
use Rattle.turn.specs.Gather.{row_of}
use Rattle.turn.specs.Promises.{gathering}
use Rattle.wire.specs.declared.request.Request.{Request}
use Rattle.wire.specs.declared.sample.Sample.{Sample}
use Rattle.host.specs.Number.{next_number}
use Rattle.host.specs.Host.{fresh, asked, waited, kept, through, reading_of, ready, turned}
use Rattle.host.specs.declared.Host.{Host}
use Rattle.host.specs.declared.Asked.{Asked}
use Rattle.host.specs.declared.Heard.{Heard}
use Rattle.host.specs.declared.Turned.{Turned}

-- `Host::new`
pub record Made (r : Host) : Type 0 where
  pub answer : r ≡ fresh

-- `Host::send`: what the session writes or refuses, and the host that all were told in
pub record Asks (h : Host) (time : ℕ) (q : Request) (payload was : List ℕ) (r : Result Asked Refusal) (is : List ℕ) : Type 0 where
  pub answer : outcome r ≡ mapped (λ xs. record { host = asked h time q; bytes = length xs }) (fitting (length was) (sending h.session time q.0 payload))
  pub output : is ≡ if_given (fitting (length was) (sending h.session time q.0 payload)) (over was) was

-- `Host::read`: a call of the reader, and what it gives is noted
pub record Hears (h : Host) (input was : List ℕ) (r : Heard) (is : List ℕ) : Type 0 where
  pub reads : Reads h.reader input was (reading_of r) is
  pub session : r.host.session ≡ through waited h.session (called h.reader input was).given
  pub gatherer : r.host.gatherer ≡ h.gatherer
  pub serial : r.host.serial ≡ through kept h.serial (called h.reader input was).given

-- `Host::gather`: the row is gathered up to and including a sample that closes a turn; the cells of the open turn, those of the turn just closed, and its record
pub record Turns (h : Host) (row : List ℕ) (number : ℕ) (filling closed rec : List ℕ) (r : Result Turned Refusal) (filling' closed' rec' : List ℕ) : Type 0 where
  pub answer : outcome r ≡ mapped (λ (ms : List Sample). turned h (gathering h.gatherer filling closed ms)) (row_of row)
  pub filled : filling' ≡ if_given (row_of row) (λ (ms : List Sample). (gathering h.gatherer filling closed ms).held.filling) filling
  pub shown : closed' ≡ if_given (row_of row) (λ (ms : List Sample). (gathering h.gatherer filling closed ms).held.closed) closed
  pub ready : rec' ≡ if_given (row_of row) (λ (ms : List Sample). ready h number rec (gathering h.gatherer filling closed ms).turn closed') rec

-- `next_number`: of a ring of S slots
pub record NumberNext (S : ℕ) (mem : List ℕ) (r : Result ℕ Refusal) : Type 0 where
  pub answer : outcome r ≡ next_number S mem
