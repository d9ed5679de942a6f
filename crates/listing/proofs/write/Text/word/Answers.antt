-- `listing::write::Text::word` meets its contract. The invariant: the bytes passed are appended. Assumes nothing.
use mathlib.Core.Path.{sym}
use Rattle.std.proofs.lemmas.List.{take_more}
use Rattle.listing.proofs.Texts.{both, named}
use Rattle.listing.proofs.write.Text.word.Goals as goal

pub loop-b-preserved : goal.loop-b-preserved
loop-b-preserved c =
    named (sym (take_more _ _ 0 c.loop-b-test.true)) (both c.loop-b.invariant c.byte.ensures)
