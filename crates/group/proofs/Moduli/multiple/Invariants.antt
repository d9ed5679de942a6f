-- What the loop of `group::Moduli::multiple` keeps true.
use Rattle.group_theory.specs.Group.{moduli, times}
use Rattle.group_theory.proofs.Fill.{Filled}
use Rattle.group.proofs.Moduli.multiple.Given as goal

abbrev pub invariant-loop-i : goal.invariant-loop-i
invariant-loop-i l = Filled 12 (times (moduli l.self.a l.self.b) l.d l.x) l.r l.i
