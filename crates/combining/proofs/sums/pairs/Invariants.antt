-- What the loop of `combining::sums::pairs` keeps true.
use Prim.Native.Nat.{◌*◌}
use Rattle.loops_theory.specs.Writing.{SumsFour}
use Rattle.combining.proofs.sums.pairs.Given as goal

abbrev pub invariant-loop-k : goal.invariant-loop-k
invariant-loop-k l = SumsFour l.first l.second 0 (2 * l.k) l.out
