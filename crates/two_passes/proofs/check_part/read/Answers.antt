-- `two_passes::check_part::read` meets its contract: each turn reads one component. Assumes nothing.
use Rattle.loops_theory.proofs.Checking.{seen_end, seen-two, seen-four, seen_one}
use Rattle.two_passes.proofs.check_part.read.Goals as goal
use Rattle.two_passes.proofs.check_part.read.Goals.{then-i-m, else-i-m+then-i-m-2, else-i-m+else-i-m-2}

pub loop-i-preserved : goal.loop-i-preserved
loop-i-preserved c =
    let h = c.loop-i-test.true in
    elim c.if-i-m.branch [
      | then-i-m w ↦ rw (w.e-is, w.at-is) (seen-two _ _ _ _ _ _ _ c.loop-i.invariant h w.if-i-m.true)
      | else-i-m+then-i-m-2 w ↦ rw (w.e-is, w.at-is, w.digit.ensures) (seen-four _ _ _ _ _ _ _ c.loop-i.invariant h w.if-i-m.false w.if-i-m-2.true)
      | else-i-m+else-i-m-2 w ↦ rw (w.e-is, w.at-is) (seen_one _ _ _ _ _ _ _ c.loop-i.invariant h w.if-i-m.false w.if-i-m-2.false)
    ]

pub returns : goal.returns
returns c = seen_end _ _ _ _ _ _ _ c.loop-i.invariant c.loop-i-test.false
