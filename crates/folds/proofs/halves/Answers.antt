-- `folds::halves` meets its contract. Assumes nothing.
use Rattle.std.proofs.Common.{rules, refl}
use Rattle.folds_theory.proofs.Halving.{halving-start, halving-step, halving-done}
use Rattle.folds.proofs.halves.Goals as goal

pub loop-i-init : goal.loop-i-init
loop-i-init c = halving-start _ _ _ _ _ c.requires (search rules)

pub loop-i-preserved : goal.loop-i-preserved
loop-i-preserved c =
    let h = c.halve-c.ensures in
    halving-step _ _ _ _ _ _ _ _ _ c.loop-i.invariant c.loop-i-test.true _ _ _ _ _ refl (h.sum, h.left) refl c.digit.ensures

pub returns : goal.returns
returns c = halving-done _ _ _ _ _ _ _ _ _ c.loop-i.invariant c.loop-i-test.false
