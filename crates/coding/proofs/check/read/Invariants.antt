-- What the loop of `coding::check::read` keeps true.
use Rattle.loops_theory.specs.Passing.{Highest}
use Rattle.loops_theory.proofs.Checking.{Seen, Unread}
use Rattle.coding.proofs.check.read.Given as goal

abbrev pub invariant-loop-i : goal.invariant-loop-i
invariant-loop-i l = Seen l.m.a l.m.b l.check 0 l.e l.at l.i × Unread l.e l.i × Highest l.check 0 l.at l.most
