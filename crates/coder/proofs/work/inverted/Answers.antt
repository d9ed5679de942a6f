-- `coder::work::inverted` meets its contract: an output that is written only where the check accepts. Assumes nothing.
use mathlib.Core.Path.{◌∙◌, refl}
use Rattle.coder_theory.specs.Calls.{invert_answer}
use Rattle.coder_theory.proofs.Outputs.{invert-wrote}
use Rattle.coder.proofs.work.inverted.Goals as goal

pub returns-clause-bytes : goal.returns-clause-bytes
unfolding invert_answer
returns-clause-bytes c = (rw c.code.ensures at c.invert.ensures) ∙ invert-wrote _ _ _ _ c.in_ok-written.ensures refl
