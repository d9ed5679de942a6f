-- What the loop of `folds::halves` keeps true.
use Rattle.folds_theory.proofs.Halving.{Halving}
use Rattle.folds.proofs.halves.Given as goal

abbrev pub invariant-loop-i : goal.invariant-loop-i
invariant-loop-i l = Halving l.m.a l.m.b l.top l.initial.v l.initial.x l.v l.x l.n l.i
