-- What the loop of `coding::bits::highest` keeps true.
use Rattle.loops_theory.specs.Passing.{Highest}
use Rattle.coding.proofs.bits.highest.Given as goal

abbrev pub invariant-loop-b : goal.invariant-loop-b
invariant-loop-b l = Highest l.bytes 0 l.b-index l.most
