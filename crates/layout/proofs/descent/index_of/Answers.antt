-- `layout::descent::index_of` meets its contract: where the block starts, and the number in it. Assumes nothing.
use native.Mathlib.Omega.{arith}
use Rattle.blocks_theory.proofs.Rising.{index-found}
use Rattle.layout.proofs.descent.index_of.Goals as goal

pub overflow_add-result : goal.overflow_add-result
overflow_add-result c =
    let g = c.args in
    omega (arith, (index-found g.m.a g.m.b g.sign g.x c.requires _ _ c.base.ensures c.low_number.ensures).1)

pub returns : goal.returns
returns c =
    let g = c.args in
    let f = index-found g.m.a g.m.b g.sign g.x c.requires _ _ c.base.ensures c.low_number.ensures in
    (f.0, f.2)
