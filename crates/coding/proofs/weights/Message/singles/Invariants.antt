-- What the loop of `coding::weights::Message::singles` keeps true.
use Rattle.std.proofs.Common.{◌+◌}
use Rattle.shortened_theory.specs.Code.{fill}
use Rattle.loops_theory.proofs.Singles.{Singled}
use Rattle.coding.proofs.weights.Message.singles.Given as goal

abbrev pub invariant-loop : goal.invariant-loop
invariant-loop l =
    let s = l.self in
    Singled s.m.a s.m.b (s.part + s.m.a + 1) (fill s.filled.d s.filled.word.now) l.v l.n l.at l.counter
