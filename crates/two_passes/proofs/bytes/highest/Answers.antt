-- `two_passes::bytes::highest` meets its contract: while it is at most 1, no byte that was passed is above 1. Assumes nothing.
use mathlib.Core.Path.{refl, sym, ◌∙◌}
use native.Mathlib.Omega.{arith}
use Rattle.words_theory.proofs.Bad.{bad-step, bad-end}
use Rattle.two_passes.proofs.bytes.highest.Goals as goal

pub loop-i-init : goal.loop-i-init
loop-i-init c = (omega arith, λ h. refl)

pub loop-i-preserved : goal.loop-i-preserved
loop-i-preserved c =
    let w = c.args.word.now in (
      omega arith,
      λ h. sym (bad-step w c.loop-i.i c.loop-i-test.true (omega arith)) ∙ c.loop-i.invariant.1 (omega arith),
    )

pub returns : goal.returns
returns c =
    λ h. sym (c.loop-i.invariant.1 h) ∙ bad-end c.args.word.now c.loop-i.i c.loop-i-test.false
