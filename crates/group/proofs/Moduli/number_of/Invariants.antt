-- What the loop of `group::Moduli::number_of` keeps true.
use mathlib.Core.Path.{◌≡◌}
use Prim.Native.Nat.{◌≤◌}
use lib.ListN.{drop}
use Rattle.group_theory.specs.Group.{moduli, number}
use Rattle.group.proofs.Moduli.number_of.Given as goal

abbrev pub invariant-loop-i : goal.invariant-loop-i
invariant-loop-i l = (l.i ≤ 12) × (l.n ≡ number (drop l.i (moduli l.self.a l.self.b)) (drop l.i l.x))
