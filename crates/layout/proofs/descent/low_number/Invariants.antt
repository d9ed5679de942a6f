-- What the loop of `layout::descent::low_number` keeps true: what is left are the first digits of x, and u is the number of the others.
use mathlib.Core.Path.{◌≡◌}
use mathlib.Core.List.{◌++◌}
use Prim.Native.Nat.{◌≤◌}
use lib.ListN.{length, drop}
use Rattle.group_theory.specs.Group.{moduli, number}
use Rattle.layout.proofs.descent.low_number.Given as goal

abbrev pub invariant-loop-digit : goal.invariant-loop-digit
invariant-loop-digit l =
    let r = l.digit-iterator.iter.rest.now in
    (length r ≤ l.a)
    × (l.fn.x ≡ r ++ drop (length r) l.fn.x)
    × (l.u ≡ number (drop (length r) (moduli l.a 0)) (drop (length r) l.fn.x))
