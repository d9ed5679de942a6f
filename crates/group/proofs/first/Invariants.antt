-- What the loop of `group::first` keeps true.
use mathlib.Core.Path.{◌≡◌}
use Prim.Native.Nat.{◌+◌}
use lib.ListN.{drop}
use Rattle.group_theory.specs.Sign.{first_of}
use Rattle.group.proofs.first.Given as goal

abbrev pub invariant-loop-i : goal.invariant-loop-i
invariant-loop-i l = first_of l.fn.x ≡ l.i + first_of (drop l.i l.fn.x)
