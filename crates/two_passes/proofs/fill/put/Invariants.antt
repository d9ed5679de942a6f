-- What the loop of `two_passes::fill::put` keeps true.
use Rattle.two_passes.proofs.Filled.{Copied}
use Rattle.two_passes.proofs.fill.put.Given as goal

abbrev pub invariant-loop-i : goal.invariant-loop-i
invariant-loop-i l = Copied l.s l.word l.initial.v l.v l.i
