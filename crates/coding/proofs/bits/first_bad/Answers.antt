-- `coding::bits::first_bad` meets its contract: no byte of the blocks that were passed is above 1. Assumes nothing.
use Rattle.std.proofs.Common.{sym, ◌∙◌, arith}
use Rattle.loops_theory.proofs.Passing.{bad-begin, block-skip, bad-at, bad-not}
use Rattle.coding.proofs.bits.first_bad.Goals as goal

pub loop-start-init : goal.loop-start-init
loop-start-init c = (c.requires.0, bad-begin _ _ c.requires.0 c.requires.1)

pub loop-start-preserved : goal.loop-start-preserved
loop-start-preserved c =
    let h = c.loop-start-test.true in
    let k = c.loop-start.invariant.0 in
    (omega arith, sym (block-skip c.args.word.now _ _ 16 (omega arith) (omega arith) (λ i a l. c.if-bits.ensures i a l)) ∙ c.loop-start.invariant.1)

pub returns-in-Some : goal.returns-in-Some
returns-in-Some c =
    let f = c.in-Some.ensures in
    bad-at c.args.word.now _ _ f.0 f.1 f.2 ∙ c.loop-start.invariant.1

pub returns-in-None : goal.returns-in-None
returns-in-None c =
    let k = c.loop-start.invariant.0 in
    bad-not c.args.word.now _ k (λ i a l. c.in-None.ensures i a l) ∙ c.loop-start.invariant.1
