-- `coder::work::asked` meets its contract: what is asked of the word, as of one with room for itself, and then the place at fault. Assumes nothing.
use mathlib.Core.Path.{ap, refl, ◌∙◌}
use Rattle.coder_theory.specs.Calls.{answer_of}
use Rattle.coder_theory.proofs.Outcomes.{word_room}
use Rattle.coder_theory.proofs.Asking.{ask-told}
use Rattle.coder.proofs.work.asked.Goals as goal

pub returns : goal.returns
returns c =
    ask-told _ _ _ (c.in_ok-q.ensures.answer ∙ ap answer_of (word_room c.args.«record» c.args.word.now)) refl _ c.in_ok-q.ensures.place _ c.renumbered.ensures
