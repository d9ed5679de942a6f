-- What the loop of `two_passes::check_part::read` keeps true.
use Rattle.loops_theory.proofs.Checking.{Seen}
use Rattle.two_passes.proofs.check_part.read.Given as goal

abbrev pub invariant-loop-i : goal.invariant-loop-i
invariant-loop-i l = Seen l.m.a l.m.b l.check 0 l.e l.at l.i
