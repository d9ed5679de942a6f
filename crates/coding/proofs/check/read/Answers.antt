-- `coding::check::read` meets its contract: each turn reads one component. Assumes nothing.
use Rattle.std.proofs.Common.{◌<◌, arith}
use Rattle.loops_theory.proofs.Checking.{unread-start, unread-step, seen_start, seen-two, seen-four, seen-rest}
use Rattle.loops_theory.proofs.Passing.{highest-none, highest-step, highest-steps, highest-good, highest-bad}
use Rattle.coding.proofs.check.read.Goals as goal
use Rattle.coding.proofs.check.read.Goals.{then-i-m, else-i-m}

pub loop-i-init : goal.loop-i-init
loop-i-init c = (seen_start _ _ _ _, unread-start, highest-none _ _)

pub loop-i-preserved : goal.loop-i-preserved
loop-i-preserved c =
    let k = c.requires.0 in
    let t = c.loop-i-test.true in
    let h : c.loop-i.i < 12 = omega arith in
    let i = c.loop-i.invariant in
    elim c.if-i-m.branch [
      | then-i-m w ↦ (
        rw (w.e-is, w.at-is) (seen-two _ _ _ _ _ _ _ i.0 h w.if-i-m.true),
        rw w.e-is (unread-step _ _ _ i.1),
        rw (w.most-is, w.at-is) (highest-step _ _ _ _ _ (omega arith) i.2 w.max-most.ensures),
      )
      | else-i-m w ↦ (
        rw (w.e-is, w.at-is, w.digit.ensures) (seen-four _ _ _ _ _ _ _ i.0 h w.if-i-m.false (omega arith)),
        rw w.e-is (unread-step _ _ _ i.1),
        rw (w.most-is, w.at-is) (highest-steps _ _ _ _ _ _ (omega arith) i.2 w.max.ensures w.max-most-else-i-m.ensures),
      )
    ]

pub returns-then-most-le1 : goal.returns-then-most-le1
returns-then-most-le1 c =
    let i = c.loop-i.invariant in
    let p = i.0.place in
    let t = c.loop-i-test.false in
    (λ k a l. highest-good _ _ _ (omega arith) i.2 c.if-most-le1.true k a l, seen-rest _ _ _ _ _ _ _ i.0 i.1 t)

pub returns-else-most-le1 : goal.returns-else-most-le1
returns-else-most-le1 c = highest-bad _ _ _ c.loop-i.invariant.2 c.if-most-le1.false
