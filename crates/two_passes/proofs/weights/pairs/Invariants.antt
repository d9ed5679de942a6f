-- What the loop of `two_passes::weights::pairs` keeps true.
use Rattle.loops_theory.proofs.Laying.{Pairing}
use Rattle.two_passes.proofs.weights.pairs.Given as goal

abbrev pub invariant-loop : goal.invariant-loop
invariant-loop l = Pairing l.a l.b l.part l.word l.initial.v l.v l.p l.e l.at l.counter
