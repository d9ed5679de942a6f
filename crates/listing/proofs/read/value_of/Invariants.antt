-- What the loop of `listing::read::value_of` keeps true.
use Rattle.listing_theory.proofs.Digits.{Valued}
use Rattle.listing.proofs.read.value_of.Given as goal

abbrev pub invariant-loop-digit : goal.invariant-loop-digit
invariant-loop-digit l = Valued l.digits l.value l.digit-index
