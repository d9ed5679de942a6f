-- The measure of `listing::write::Text::number`, which calls itself with a digit less: the number. Assumes nothing.
use Rattle.listing.proofs.write.Text.+number.Given as goal

abbrev pub decreases-number : goal.decreases-number
decreases-number l = l.x
