-- The two ends of the loop: what the model sends for samples, each by the promise of its call, and records stored one after the other.
use Rattle.std.specs.Prelude.{ℕ, ◌<◌, List, [], ◌∷◌, ◌++◌, take, Ok}
use Rattle.paper.specs.Writing.{Writes}
use Rattle.wire.specs.declared.sample.Sample.{Sample}
use Rattle.ring.specs.History.{Event, attempt}
use Rattle.device.specs.Model.{sample_sent}
use Rattle.device.specs.declared.model.Model.{Model}

-- the bench gave these samples (distances are 16-bit words), the model sent each, and these are the bytes in order
pub data Sends (m : Model) : List Sample → List ℕ → Type 0 where
  none : Sends m [] []
  one : {ms : List Sample} {bs : List ℕ} (x : Sample) (was is : List ℕ) (n : ℕ) → x.distance.0 < 65536 → Writes (sample_sent m x) was (Ok n) is → Sends m ms bs
      → Sends m (x ∷ ms) (take n is ++ bs)

-- records stored one after the other, each whole
unfoldable pub wholly : List (List ℕ) → List Event
wholly [] = []
wholly (rec ∷ recs) = attempt rec 755 ∷ wholly recs
