-- `two_passes::fill::put` meets its contract. Assumes nothing.
use mathlib.Core.Path.{refl}
use Rattle.two_passes.proofs.Filled.{copy_start, copy_step, copy-end}
use Rattle.two_passes.proofs.fill.put.Goals as goal

pub loop-i-init : goal.loop-i-init
loop-i-init c = copy_start _ _ _ c.requires

pub loop-i-preserved : goal.loop-i-preserved
loop-i-preserved c = copy_step _ _ _ _ _ _ c.loop-i.invariant c.loop-i-test.true c.requires.space refl

pub returns : goal.returns
returns c = copy-end _ _ _ _ _ c.loop-i.invariant c.loop-i-test.false
