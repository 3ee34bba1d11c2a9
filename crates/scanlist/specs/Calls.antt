-- One call of a listing.
use Rattle.std.specs.Prelude.{ℕ, ◌<◌, ◌≤◌, List, length, drop}
use Rattle.stream.specs.declared.Reader.{Reader}
use Rattle.stream.specs.declared.Reading.{Reading}
use Rattle.scantext.specs.Listing.{Lists}

-- a call takes some of the bytes, and what lists those that it left lists all
pub record Goes (s : Reader) (bs : List ℕ) (r : Reading) : Type 0 where
  pub some : 0 < r.taken
  pub within : r.taken ≤ length bs
  pub on : (z : Reader) → Lists r.reader (drop r.taken bs) z → Lists s bs z
