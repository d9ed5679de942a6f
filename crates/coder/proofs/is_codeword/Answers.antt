-- `coder::is_codeword` meets its contract. Assumes nothing.
use mathlib.Core.Path.{ap, refl, ◌∙◌}
use Rattle.coder_theory.specs.Calls.{answer_of}
use Rattle.coder_theory.proofs.Outcomes.{word_room, codeword-accepted}
use Rattle.coder.proofs.is_codeword.Goals as goal

pub returns-in-Ok : goal.returns-in-Ok
returns-in-Ok c =
    let g = c.args in
    rw c.is_zero.ensures (codeword-accepted g.«record» g.word.now _ (c.in-Ok.ensures.answer ∙ ap answer_of (word_room g.«record» g.word.now)) refl _ c.in-Ok.ensures.sum)
