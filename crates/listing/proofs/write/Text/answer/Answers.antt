-- `listing::write::Text::answer` meets its contract: the text goes by the refusal. Assumes nothing.
use Rattle.listing_theory.proofs.Answers.{answer-listing, answer-refused}
use Rattle.listing.proofs.Texts.{named}
use Rattle.listing.proofs.write.Text.answer.Goals as goal

pub returns-then-refusal-eq0 : goal.returns-then-refusal-eq0
returns-then-refusal-eq0 c = named (answer-listing _ c.if-refusal-eq0.true) c.listing.ensures

pub returns-else-refusal-eq0 : goal.returns-else-refusal-eq0
returns-else-refusal-eq0 c = named (answer-refused _ c.if-refusal-eq0.false) c.refusal.ensures
