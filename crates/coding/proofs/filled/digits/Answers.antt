-- `coding::filled::digits` meets its contract. Assumes nothing.
use Rattle.std.proofs.Common.{◌/◌, length, true, arith}
use Rattle.loops_theory.proofs.Laying.{length-row, digit-wrote}
use Rattle.loops_theory.proofs.Passing.{highest-none, highest-step}
use Rattle.loops_theory.proofs.Parts.{laid-start, laid-step, next-digit}
use Rattle.coding.proofs.filled.digits.Goals as goal

pub loop-i-init : goal.loop-i-init
loop-i-init c =
    let h = c.requires in
    let l = length-row true (length c.args.v.now / 2) c.args.word.now in
    (laid-start _ _ (omega arith), highest-none _ _)

pub loop-i-preserved : goal.loop-i-preserved
loop-i-preserved c =
    let h = c.requires in
    let t = c.loop-i-test.true in
    let n = length c.args.v.now / 2 in (
      laid-step _ _ _ _ c.loop-i.invariant.0 (omega (arith, c.loop-i.auto.v)) (digit-wrote c.args.word.now 0 n _ _ _ c.every_other.ensures (next-digit c.args.word.now c.loop-i.i c.digit.result (omega arith) c.digit.ensures) (omega arith)),
      highest-step _ _ _ _ _ (omega arith) c.loop-i.invariant.1 c.max-most.ensures,
    )
