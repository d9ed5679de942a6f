-- `folds::halve` meets its contract. Assumes nothing.
use Rattle.std.proofs.Common.{arith}
use Rattle.folds_theory.proofs.Gathers.{halve-start, halve-step, halve-done}
use Rattle.folds.proofs.halve.Goals as goal

pub loop-i-init : goal.loop-i-init
loop-i-init c = halve-start _ _ (omega arith)

pub loop-i-preserved : goal.loop-i-preserved
loop-i-preserved c = halve-step _ _ (omega arith) _ _ _ c.loop-i.invariant c.loop-i-test.true

pub returns : goal.returns
returns c = let d = halve-done _ _ (omega arith) _ _ _ c.loop-i.invariant c.loop-i-test.false in record { sum = d.0; left = d.1 }
