-- `group::Moduli::multiple` meets its contract: the loop fills the multiple from the front. Assumes nothing.
use mathlib.Core.Path.{sym, ◌∙◌}
use Rattle.group_theory.proofs.Fill.{fill_done, length-moduli, length-times, times-at, times_mod}
use Rattle.group.proofs.Turns.{turn}
use Rattle.group.proofs.Moduli.multiple.Goals as goal

pub loop-i-preserved : goal.loop-i-preserved
loop-i-preserved c =
    turn _ _ _ _ _ _ _ c.modulus.ensures c.loop-i.invariant c.loop-i-test.true (length-times _ _ _) (λ h. times_mod _ _ _ ∙ sym (times-at _ _ _ _ h))

pub returns : goal.returns
returns c = fill_done _ _ _ _ c.loop-i.invariant c.loop-i-test.false (length-times _ _ _ ∙ length-moduli _ _)
