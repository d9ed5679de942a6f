-- `layout::descent::top` meets its contract: each turn takes the highest digit off the index. Assumes nothing.
use mathlib.Core.Path.{refl}
use native.Mathlib.Omega.{arith}
use Rattle.blocks_theory.proofs.Descents.{falling-start, falling-step, falling-end}
use Rattle.layout.proofs.descent.top.Goals as goal

pub loop-j-init : goal.loop-j-init
loop-j-init c =
    let g = c.args in
    rw c.kind_of-kind.ensures (falling-start g.m.a g.m.b c.requires.0 g.sign g.k c.requires.1)

pub loop-j-preserved : goal.loop-j-preserved
loop-j-preserved c =
    let l = c.loop-j in
    let g = c.args in
    let f = rw (c.of.ensures.0, c.of.ensures.1) at c.find-d.ensures in
    rw (c.after-kind.ensures, f.1, c.factor_of.ensures)
    (falling-step g.m.a g.m.b c.requires.0 g.sign g.k l.i l.kind l.j l.r _ _ l.invariant c.loop-j-test.true f.0 refl)

pub returns : goal.returns
returns c =
    let g = c.args in
    falling-end g.m.a g.m.b c.requires.0 g.sign g.k _ _ _ _ c.loop-j.invariant (omega arith)
