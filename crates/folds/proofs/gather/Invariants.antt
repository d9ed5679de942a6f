-- What the loop of `folds::gather` keeps true.
use Rattle.folds_theory.proofs.Gathers.{Mixing}
use Rattle.folds.proofs.gather.Given as goal

abbrev pub invariant-loop-i : goal.invariant-loop-i
invariant-loop-i g l = let n = g.row in Mixing n.A n.B n.C n.D l.initial.x l.y l.z l.w l.x l.c l.i
