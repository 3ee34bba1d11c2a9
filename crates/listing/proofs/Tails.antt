-- No text depends on the last 14 bytes of a slot: `tails_unlisted`.
use Rattle.std.proofs.Common.{◌≡◌, ℕ, List}
use Rattle.ring.specs.Tails.{SameButTails}
use Rattle.ring.proofs.Tails.{tails_unread, tails_ignored}
use Rattle.listing.specs.Text.{text_of}

pub tails_unlisted : (S : ℕ) (mem other : List ℕ) → SameButTails mem other → text_of S mem ≡ text_of S other
unfolding text_of
tails_unlisted S mem other same = rw ((tails_ignored S mem other same).count, tails_unread S mem other same)
