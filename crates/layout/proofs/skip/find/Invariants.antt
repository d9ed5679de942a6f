-- What the loop of `layout::skip::find` keeps true.
use Prim.Native.Nat.{◌<◌, ◌≤◌}
use Rattle.blocks_theory.specs.Indices.{units_of, unit_index}
use Rattle.layout.proofs.skip.find.Given as goal

abbrev pub invariant-loop-c : goal.invariant-loop-c
invariant-loop-c l =
    let n = units_of l.sign l.m.a l.m.b in
    (l.c ≤ n) × (l.c < n → l.k < unit_index l.sign l.m.a l.m.b l.c)
