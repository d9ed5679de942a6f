-- `folds::gather` meets its contract. Assumes nothing.
use Rattle.folds_theory.proofs.Gathers.{mixing-start, mixing-step, mixing-done}
use Rattle.folds.proofs.gather.Goals as goal

pub loop-i-init : goal.loop-i-init
loop-i-init g c = mixing-start _ _ _ _ _ _ _ _

pub loop-i-preserved : goal.loop-i-preserved
loop-i-preserved g c = let l = c.requires.long in mixing-step _ _ _ _ _ _ _ _ l.0 l.1 l.2 _ _ _ c.loop-i.invariant c.loop-i-test.true

pub returns : goal.returns
returns g c =
    let l = c.requires.long in
    let d = mixing-done _ _ _ _ _ _ _ _ l.0 l.1 l.2 _ _ _ c.loop-i.invariant c.loop-i-test.false in
    record { sum = d.0; left = d.1 }
