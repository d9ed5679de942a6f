-- What the loop of `layout::descent::bits` keeps true.
use lib.ListN.{drop}
use mathlib.Core.List.{◌++◌}
use Rattle.blocks_theory.proofs.Descents.{LowBits}
use Rattle.layout.proofs.descent.bits.Given as goal

abbrev pub invariant-loop-digit : goal.invariant-loop-digit
invariant-loop-digit l = LowBits l.a l.k l.fn.x (l.digit-items ++ drop l.a l.fn.x) l.left l.digit-index
