-- `coder::commit` meets its contract: what is counted was accepted. Assumes nothing.
use mathlib.Core.Path.{sym, ap}
use Rattle.coder_theory.specs.declared.Corrected.{Corrected}
use Rattle.coder_theory.proofs.Asking.{commit-counts}
use Rattle.coder.proofs.commit.Goals as goal

pub returns-in-Ok-clause-answer : goal.returns-in-Ok-clause-answer
returns-in-Ok-clause-answer c =
    let a = rw c.in-Ok.is at c.committed.ensures.answer in
    rw (c.counted.ensures.usable (commit-counts _ _ _ (sym (ap (λ (x : Corrected). x.refusal) a)))) a

pub returns-in-Err-clause-answer : goal.returns-in-Err-clause-answer
returns-in-Err-clause-answer c = rw (c.number.ensures, c.place.ensures) (rw c.in-Err.is at c.committed.ensures.answer)
