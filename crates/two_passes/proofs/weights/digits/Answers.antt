-- `two_passes::weights::digits` meets its contract. Assumes nothing.
use mathlib.Core.Bool.{true}
use native.Mathlib.Omega.{arith}
use lib.ListN.{drop}
use Rattle.loops_theory.proofs.Laying.{copy_start, copy_step, copy_done, length-row, digit-wrote}
use Rattle.two_passes.proofs.weights.digits.Goals as goal

pub loop-i-init : goal.loop-i-init
loop-i-init c = let h = c.requires in let l = length-row true c.args.n (drop c.args.at c.args.word.now) in copy_start _ _ _ _ (omega arith) (omega arith)

pub loop-i-preserved : goal.loop-i-preserved
loop-i-preserved c =
    let g = c.args in
    copy_step _ _ _ _ _ _ _ c.loop-i.invariant c.loop-i-test.true
    (digit-wrote g.word.now g.at g.n _ _ _ c.every_other.ensures c.digit-d.ensures (let h = c.loop-i-test.true in omega arith))

pub returns : goal.returns
returns c = copy_done _ _ _ _ _ _ c.loop-i.invariant c.loop-i-test.false
