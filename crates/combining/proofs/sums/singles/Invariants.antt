-- What the loop of `combining::sums::singles` keeps true.
use Rattle.loops_theory.specs.Writing.{SumsTwo}
use Rattle.combining.proofs.sums.singles.Given as goal

abbrev pub invariant-loop-i : goal.invariant-loop-i
invariant-loop-i l = SumsTwo l.first l.second 0 l.i l.out
