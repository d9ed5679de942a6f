-- What the loop of `layout::descent::sign` keeps true.
use mathlib.Core.Path.{◌≡◌}
use Prim.Native.Nat.{◌+◌, ◌≤◌}
use lib.ListN.{drop}
use Rattle.group_theory.specs.Group.{moduli}
use Rattle.group_theory.specs.Sign.{lead}
use Rattle.blocks_theory.specs.Indices.{digit_of}
use Rattle.layout.proofs.descent.sign.Given as goal

abbrev pub invariant-loop-j : goal.invariant-loop-j
invariant-loop-j l = (l.j ≤ l.m.b) × (digit_of l.s ≡ lead (drop (l.m.a + l.j) (moduli l.m.a l.m.b)) (drop (l.m.a + l.j) l.x))
