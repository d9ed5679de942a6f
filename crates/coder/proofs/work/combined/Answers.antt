-- `coder::work::combined` meets its contract: an output that is written only where the check accepts. Assumes nothing.
use mathlib.Core.Path.{◌∙◌, refl}
use Rattle.coder_theory.specs.Calls.{combine_answer}
use Rattle.coder_theory.proofs.Outputs.{combine-wrote}
use Rattle.coder.proofs.work.combined.Goals as goal

pub returns-clause-bytes : goal.returns-clause-bytes
unfolding combine_answer
returns-clause-bytes c = (rw c.code.ensures at c.combine.ensures) ∙ combine-wrote _ _ _ _ _ c.in_ok-two.ensures refl
