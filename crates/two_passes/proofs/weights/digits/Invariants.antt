-- What the loop of `two_passes::weights::digits` keeps true.
use mathlib.Core.Bool.{true}
use lib.ListN.{drop}
use Rattle.loops_theory.specs.Spread.{row}
use Rattle.loops_theory.proofs.Laying.{Copying}
use Rattle.two_passes.proofs.weights.digits.Given as goal

abbrev pub invariant-loop-i : goal.invariant-loop-i
invariant-loop-i l = Copying (row true l.n (drop l.at l.word)) l.initial.v l.k l.m l.v l.i
