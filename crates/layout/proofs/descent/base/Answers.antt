-- `layout::descent::base` meets its contract: each turn adds where the block of a digit starts. Assumes nothing.
use mathlib.Core.Path.{refl}
use Prim.Native.Nat.{◌+◌, ◌-◌, ◌*◌, ◌%◌, ◌<◌}
use native.Mathlib.Omega.{arith}
use lib.ListN.{get_or}
use Rattle.group_theory.specs.Group.{moduli, times}
use Rattle.blocks_theory.specs.Indices.{factor_of, kind_after}
use Rattle.blocks_theory.proofs.Descents.{factor-small}
use Rattle.blocks_theory.proofs.Rising.{Rising, rising-start, rising_step, rising-end, numbers-few, sign-turn}
use Rattle.layout.proofs.descent.base.Goals as goal
use Rattle.layout.proofs.descent.base.Goals.{After-start-k}

pub loop-j-init : goal.loop-j-init
loop-j-init c =
    let g = c.args in
    rw c.kind_of-kind.ensures (rising-start g.m.a g.m.b g.sign g.x c.requires)

pub overflow_mul-d : goal.overflow_mul-d
overflow_mul-d c =
    let g = c.args in
    let d = (sign-turn g.m.a g.m.b c.requires.room g.x c.requires.valid _ c.loop-j-test.true c.loop-j.invariant.down).0 in
    rw c.factor_of.ensures (omega (arith, factor-small g.sign _ d))

-- what a turn makes
turn : (c : After-start-k)
    → let l = c.loop-j in
    let g = c.args in
    let d = c.factor_of.result * get_or g.x (g.m.a + (l.j - 1)) 0 % 4 in
    (d < 4)
    × Rising g.m.a g.m.b g.sign (times (moduli g.m.a g.m.b) (factor_of g.sign) g.x) (l.k + c.start-k.result) (kind_after l.kind d) (l.j - 1)
turn c =
    let l = c.loop-j in
    let g = c.args in
    rw (c.start-k.ensures.0, c.of.ensures.0, c.of.ensures.1, c.factor_of.ensures)
    (rising_step g.m.a g.m.b g.sign g.x c.requires l.k l.kind l.j _ l.invariant c.loop-j-test.true refl)

pub overflow_add-k : goal.overflow_add-k
overflow_add-k c =
    let n = numbers-few c.args.m.a c.args.m.b c.requires.room c.args.sign in
    omega (arith, (turn c).1.room)

pub loop-j-preserved : goal.loop-j-preserved
loop-j-preserved c = rw c.after-kind.ensures (turn (goal.at.loop-j-preserved c).After-start-k).1

pub returns : goal.returns
returns c =
    let g = c.args in
    rising-end g.m.a g.m.b g.sign g.x c.requires _ _ _ c.loop-j.invariant (omega arith)
