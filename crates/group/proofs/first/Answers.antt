-- `group::first` meets its contract: the components passed are 0, so the rest decides. Assumes nothing.
use borrow.Author.Rules.{rules}
use native.Mathlib.Omega.{arith}
use Rattle.group_theory.proofs.Fill.{first_step, first_found, first-end}
use Rattle.group.proofs.first.Goals as goal

pub returns-then-c-ne0 : goal.returns-then-c-ne0
returns-then-c-ne0 c = omega (arith, c.loop-i.invariant, first_found c.args.x c.loop-i.i (search rules) c.if-c-ne0.true)

pub loop-i-preserved : goal.loop-i-preserved
loop-i-preserved c = omega (arith, c.loop-i.invariant, first_step c.args.x c.loop-i.i (search rules) c.if-c-ne0.false)

pub returns : goal.returns
returns c = omega (arith, c.loop-i.invariant, first-end c.args.x c.loop-i.i (search rules))
