-- `two_passes::correct` meets its contract: a correction that is accepted is counted. Assumes nothing.
use mathlib.Core.Path.{sym, ap}
use Rattle.coder_theory.specs.declared.Corrected.{Corrected}
use Rattle.coder_theory.proofs.Corrections.{correct-counts}
use Rattle.two_passes.proofs.correct.Goals as goal

pub counted-requires : goal.counted-requires
counted-requires c =
    let g = c.args in
    let a = rw c.in-Ok.is at c.corrected.ensures.answer in
    correct-counts g.«record» g.word.now g.out.now (sym (ap (λ (x : Corrected). x.refusal) a))

pub returns-in-Ok-clause-answer : goal.returns-in-Ok-clause-answer
returns-in-Ok-clause-answer c = rw c.counted.ensures (rw c.in-Ok.is at c.corrected.ensures.answer)

pub returns-in-Err-clause-answer : goal.returns-in-Err-clause-answer
returns-in-Err-clause-answer c = rw (c.number.ensures, c.place.ensures) (rw c.in-Err.is at c.corrected.ensures.answer)
