-- `coder::work::third` meets its contract. Assumes nothing.
use mathlib.Core.Path.{ap, refl}
use Rattle.coder_theory.specs.declared.Answer.{Answer}
use Rattle.coder_theory.proofs.Outcomes.{third-told}
use Rattle.coder.proofs.work.third.Goals as goal

pub returns : goal.returns
returns c =
    third-told _ _ _ _ (ap (λ (a : Answer). a.refusal) c.in_ok-places.ensures) refl _ (rw c.code.ensures at c.third.ensures) _ c.renumbered.ensures
