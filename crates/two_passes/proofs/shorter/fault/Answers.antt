-- `two_passes::shorter::fault` meets its contract. Assumes nothing.
use mathlib.Core.Bool.{true}
use mathlib.Core.Path.{◌≡◌, sym, ◌∙◌}
use lib.ListN.{length}
use Rattle.shortened_theory.specs.Calls.{fits_word}
use Rattle.shortened_theory.proofs.Guards.{word_fits}
use Rattle.two_passes.proofs.Answers.{shorter-whole, shorter-filled, shorter-none}
use Rattle.two_passes.proofs.shorter.fault.Goals as goal
use Rattle.two_passes.proofs.shorter.fault.Goals.{Else-not-fits_word}

-- past the test the word fits
ok : (c : Else-not-fits_word) → let g = c.args in fits_word g.code.t g.code.r g.code.s (length g.word.now) ≡ true
ok c = sym c.fits_word.ensures ∙ c.if-not-fits_word.false

pub returns-then-not-fits_word : goal.returns-then-not-fits_word
returns-then-not-fits_word c = shorter-none _ _ _ _ (sym c.fits_word.ensures ∙ c.if-not-fits_word.true)

pub returns-then-code-eq0 : goal.returns-then-code-eq0
returns-then-code-eq0 c = c.fault.ensures ∙ shorter-whole _ _ _ _ (ok (goal.at.returns-then-code-eq0 c).Else-not-fits_word) c.if-code-eq0.true

pub fault-requires-2 : goal.fault-requires-2
fault-requires-2 c = word_fits _ _ _ _ (ok (goal.at.fault-requires-2 c).Else-not-fits_word)

pub returns : goal.returns
returns c = c.fault-2.ensures ∙ shorter-filled _ _ _ _ (ok (goal.at.returns c).Else-not-fits_word)
