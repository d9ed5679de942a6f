-- What the loop of `coding::check::write` keeps true.
use Rattle.loops_theory.proofs.CheckWriting.{DigitsWritten}
use Rattle.coding.proofs.check.write.Given as goal

abbrev pub invariant-loop-i : goal.invariant-loop-i
invariant-loop-i l = DigitsWritten l.m.a l.m.b l.fn.e l.initial.out l.out l.at l.i
