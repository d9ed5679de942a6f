-- What the loop of `places::halves::swap` keeps true.
use Rattle.group_theory.specs.Group.{moduli}
use Rattle.shortened_theory.specs.Code.{shortened_inverse}
use Rattle.loops_theory.specs.Writing.{Written}
use Rattle.places.proofs.halves.swap.Given as goal

abbrev pub invariant-loop-i : goal.invariant-loop-i
invariant-loop-i l = Written (shortened_inverse (moduli l.h.a l.h.b) l.s l.word) l.initial.out l.out l.i
