-- `two_passes::bytes::first_bad` meets its contract: no byte that was passed is above 1. Assumes nothing.
use mathlib.Core.Path.{sym, ◌∙◌}
use native.Mathlib.Omega.{arith}
use Rattle.words_theory.proofs.Bad.{bad-step, bad-found, bad-end}
use Rattle.two_passes.proofs.bytes.first_bad.Goals as goal

pub returns-then-word-i-gt1 : goal.returns-then-word-i-gt1
returns-then-word-i-gt1 c =
    sym (bad-found c.args.word.now c.loop-i.i c.loop-i-test.true c.if-word-i-gt1.true) ∙ c.loop-i.invariant.1

pub loop-i-preserved : goal.loop-i-preserved
loop-i-preserved c = (
  omega arith,
  sym (bad-step c.args.word.now c.loop-i.i c.loop-i-test.true c.if-word-i-gt1.false) ∙ c.loop-i.invariant.1,
)

pub returns : goal.returns
returns c =
    sym (bad-end c.args.word.now c.loop-i.i c.loop-i-test.false) ∙ c.loop-i.invariant.1
