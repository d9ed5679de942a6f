-- What the loop of `coding::weights::Message::pairs` keeps true.
use Rattle.shortened_theory.specs.Code.{fill}
use Rattle.loops_theory.specs.Passing.{BitsIn}
use Rattle.loops_theory.proofs.Laying.{Pairing}
use Rattle.coding.proofs.weights.Message.pairs.Given as goal

abbrev pub invariant-loop : goal.invariant-loop
invariant-loop l =
    let s = l.self in
    let w = fill s.filled.d s.filled.word.now in
    Pairing s.m.a s.m.b s.part w l.initial.v l.v l.p l.e l.at l.counter × BitsIn w s.part l.at
