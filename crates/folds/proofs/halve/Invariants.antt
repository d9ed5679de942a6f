-- What the loop of `folds::halve` keeps true.
use Rattle.folds_theory.proofs.Gathers.{InHalves}
use Rattle.folds.proofs.halve.Given as goal

abbrev pub invariant-loop-i : goal.invariant-loop-i
invariant-loop-i l = InHalves l.n l.initial.v l.v l.c l.i
