-- `two_passes::weights::bytes` meets its contract. Assumes nothing.
use mathlib.Core.Bool.{false}
use native.Mathlib.Omega.{arith}
use lib.ListN.{drop}
use Rattle.loops_theory.proofs.Laying.{copy_start, copy_step, length-row, byte-write, bytes-done}
use Rattle.two_passes.proofs.weights.bytes.Goals as goal

pub loop-i-init : goal.loop-i-init
loop-i-init c = let h = c.requires in let l = length-row false c.args.n (drop c.args.at c.args.word.now) in copy_start _ _ _ _ (omega arith) (omega arith)

pub loop-i-preserved : goal.loop-i-preserved
loop-i-preserved c =
    let g = c.args in
    copy_step _ _ _ _ _ _ _ c.loop-i.invariant c.loop-i-test.true (byte-write g.word.now g.at g.n _ c.loop-i-test.true)

pub returns : goal.returns
returns c = let g = c.args in bytes-done g.word.now _ g.at _ g.n _ _ c.loop-i.invariant c.loop-i-test.false
