-- What the loop of `two_passes::weights::bytes` keeps true.
use mathlib.Core.Bool.{false}
use lib.ListN.{drop}
use Rattle.loops_theory.specs.Spread.{row}
use Rattle.loops_theory.proofs.Laying.{Copying}
use Rattle.two_passes.proofs.weights.bytes.Given as goal

abbrev pub invariant-loop-i : goal.invariant-loop-i
invariant-loop-i l = Copying (row false l.n (drop l.at l.word)) l.initial.v l.k l.n l.v l.i
