-- What the loop of `layout::descent::base` keeps true.
use Rattle.group_theory.specs.Group.{moduli, times}
use Rattle.blocks_theory.specs.Indices.{factor_of}
use Rattle.blocks_theory.proofs.Rising.{Rising}
use Rattle.layout.proofs.descent.base.Given as goal

abbrev pub invariant-loop-j : goal.invariant-loop-j
invariant-loop-j l = Rising l.m.a l.m.b l.sign (times (moduli l.m.a l.m.b) (factor_of l.sign) l.x) l.k l.kind l.j
