-- What the loop of `two_passes::weights::singles` keeps true.
use Rattle.loops_theory.proofs.Laying.{Singling}
use Rattle.two_passes.proofs.weights.singles.Given as goal

abbrev pub invariant-loop : goal.invariant-loop
invariant-loop l = Singling l.a l.b l.start l.word l.initial.v l.v l.n l.at l.counter
