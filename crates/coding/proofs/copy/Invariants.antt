-- What the loop of `coding::copy` keeps true.
use Rattle.loops_theory.specs.Writing.{Written}
use Rattle.coding.proofs.copy.Given as goal

abbrev pub invariant-loop-i : goal.invariant-loop-i
invariant-loop-i l = Written l.from l.initial.to l.to l.i
