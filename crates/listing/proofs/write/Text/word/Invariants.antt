-- What the loop of `listing::write::Text::word` keeps true.
use lib.ListN.{take}
use Rattle.listing.specs.Appends.{Appends}
use Rattle.listing.proofs.write.Text.word.Given as goal

abbrev pub invariant-loop-b : goal.invariant-loop-b
invariant-loop-b l = Appends l.initial.self (take l.b-index l.word) l.self
