-- What the loop of `coding::filled::digits` keeps true.
use Rattle.std.proofs.Common.{◌/◌, true, length}
use Rattle.loops_theory.specs.Spread.{row}
use Rattle.loops_theory.specs.Passing.{Highest}
use Rattle.loops_theory.proofs.Parts.{Laid}
use Rattle.coding.proofs.filled.digits.Given as goal

abbrev pub invariant-loop-i : goal.invariant-loop-i
invariant-loop-i l = Laid (row true (length l.initial.v / 2) l.word) l.v l.i × Highest l.word 0 l.i l.most
