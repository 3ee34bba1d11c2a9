-- `text::Text::add_number` calls itself with one digit less.
use Rattle.text.proofs.Text.+add_number.Given as goal

abbrev pub decreases-add_number : goal.decreases-add_number
decreases-add_number l = l.n
