-- `folds::gather_three` meets its contract. Assumes nothing.
use Rattle.folds_theory.proofs.Gathers.{three-start, three-step, three-done}
use Rattle.folds.proofs.gather_three.Goals as goal

pub loop-i-init : goal.loop-i-init
loop-i-init c = three-start _ _ _ c.requires.0

pub loop-i-preserved : goal.loop-i-preserved
loop-i-preserved c = three-step _ _ _ c.requires.0 c.requires.1 _ _ _ c.loop-i.invariant c.loop-i-test.true

pub returns : goal.returns
returns c = let d = three-done _ _ _ _ _ _ c.loop-i.invariant c.loop-i-test.false in record { sum = d.0; left = d.1 }
