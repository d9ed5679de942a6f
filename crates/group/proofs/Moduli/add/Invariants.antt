-- What the loop of `group::Moduli::add` keeps true.
use Rattle.group_theory.specs.Group.{moduli, sum}
use Rattle.group_theory.proofs.Fill.{Filled}
use Rattle.group.proofs.Moduli.add.Given as goal

abbrev pub invariant-loop-i : goal.invariant-loop-i
invariant-loop-i l = Filled 12 (sum (moduli l.self.a l.self.b) l.x l.y) l.r l.i
