-- `folds::digit` meets its contract. Assumes nothing.
use Rattle.folds_theory.proofs.Halving.{digit-two, digit-four}
use Rattle.folds.proofs.digit.Goals as goal

pub returns-then-i-a : goal.returns-then-i-a
returns-then-i-a c = digit-two _ _ _ c.if-i-a.true

pub returns-else-i-a : goal.returns-else-i-a
returns-else-i-a c = digit-four _ _ _ c.if-i-a.false
