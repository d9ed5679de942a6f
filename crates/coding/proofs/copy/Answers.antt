-- `coding::copy` meets its contract. Assumes nothing.
use Rattle.std.proofs.Common.{◌++◌, refl, ap, ◌∙◌, arith, append-nil}
use Rattle.std.proofs.Math.ListN.{drop_of_length-le}
use Rattle.loops_theory.proofs.Writing.{write-none, write_step, write-end}
use Rattle.coding.proofs.copy.Goals as goal

pub loop-i-init : goal.loop-i-init
loop-i-init c = write-none _ _

pub loop-i-preserved : goal.loop-i-preserved
loop-i-preserved c = write_step _ _ _ _ _ c.loop-i.invariant (omega arith) (omega (arith, c.requires)) refl

pub returns : goal.returns
returns c = write-end _ _ _ _ c.loop-i.invariant (omega arith) ∙ ap (λ t. c.args.from.now ++ t) (drop_of_length-le c.args.to.now (omega (arith, c.requires))) ∙ append-nil c.args.from.now
