-- What the loop of `layout::descent::top` keeps true.
use Rattle.blocks_theory.proofs.Descents.{Falling}
use Rattle.layout.proofs.descent.top.Given as goal

abbrev pub invariant-loop-j : goal.invariant-loop-j
invariant-loop-j l = Falling l.m.a l.m.b l.sign l.fn.k l.i l.kind l.j l.r
