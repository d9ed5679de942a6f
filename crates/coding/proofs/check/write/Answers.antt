-- `coding::check::write` meets its contract: each turn writes the digit of one component. Assumes nothing.
use Rattle.std.proofs.Common.{rules}
use Rattle.loops_theory.proofs.CheckWriting.{digits-start, digits-end, write_two, write-four, write-one}
use Rattle.coding.proofs.check.write.Goals as goal
use Rattle.coding.proofs.check.write.Goals.{then-i-m, else-i-m+then-i-m-2, else-i-m+else-i-m-2}

pub loop-i-init : goal.loop-i-init
loop-i-init c = digits-start _ _ _ _ (search rules) c.requires.0 c.requires.1

pub loop-i-preserved : goal.loop-i-preserved
loop-i-preserved c =
    let h = c.loop-i-test.true in
    elim c.if-i-m.branch [
      | then-i-m w ↦ rw (w.out-is, w.at-is) (write_two _ _ _ _ (search rules) c.requires.0 c.requires.1 _ _ _ c.loop-i.invariant h w.if-i-m.true)
      | else-i-m+then-i-m-2 w ↦ rw (w.out-is, w.at-is, w.places.ensures) (write-four _ _ _ _ (search rules) c.requires.0 c.requires.1 _ _ _ c.loop-i.invariant h w.if-i-m.false w.if-i-m-2.true)
      | else-i-m+else-i-m-2 w ↦ rw (w.out-is, w.at-is) (write-one _ _ _ _ (search rules) c.requires.0 c.requires.1 _ _ _ c.loop-i.invariant h w.if-i-m.false w.if-i-m-2.false)
    ]

pub returns : goal.returns
returns c = digits-end _ _ _ _ (search rules) c.requires.0 c.requires.1 _ _ _ c.loop-i.invariant (search rules)
