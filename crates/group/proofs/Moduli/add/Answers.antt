-- `group::Moduli::add` meets its contract: the loop fills the sum from the front. Assumes nothing.
use mathlib.Core.Path.{sym, ◌∙◌}
use Rattle.group_theory.proofs.Fill.{fill_done, length-moduli, length-sum, sum-at, sum-mod}
use Rattle.group.proofs.Turns.{turn}
use Rattle.group.proofs.Moduli.add.Goals as goal

pub loop-i-preserved : goal.loop-i-preserved
loop-i-preserved c =
    turn _ _ _ _ _ _ _ c.modulus.ensures c.loop-i.invariant c.loop-i-test.true (length-sum _ _ _) (λ h. sum-mod _ _ _ ∙ sym (sum-at _ _ _ _ h))

pub returns : goal.returns
returns c = fill_done _ _ _ _ c.loop-i.invariant c.loop-i-test.false (length-sum _ _ _ ∙ length-moduli _ _)
