-- What the loop of `folds::levels` keeps true.
use Rattle.folds_theory.proofs.Levelling.{Levelling}
use Rattle.folds.proofs.levels.Given as goal

abbrev pub invariant-loop-j : goal.invariant-loop-j
invariant-loop-j l = Levelling l.m.a l.m.b l.top l.initial.v l.initial.x l.v l.x l.n l.e l.j
