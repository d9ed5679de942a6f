-- What the loop of `folds::gather_three` keeps true.
use Rattle.folds_theory.proofs.Gathers.{MixingThree}
use Rattle.folds.proofs.gather_three.Given as goal

abbrev pub invariant-loop-i : goal.invariant-loop-i
invariant-loop-i l = MixingThree l.initial.x l.y l.z l.x l.c l.i
