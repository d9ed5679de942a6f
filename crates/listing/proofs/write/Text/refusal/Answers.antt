-- `listing::write::Text::refusal` meets its contract: the word, and the number. Assumes nothing.
use Rattle.listing_theory.specs.Sheet.{refused_line}
use Rattle.listing.proofs.Texts.{both}
use Rattle.listing.proofs.write.Text.refusal.Goals as goal

pub returns : goal.returns
unfolding refused_line
returns c = both c.word.ensures c.field.ensures
