-- `layout::descent::sign` meets its contract: the components are read from the last to the first. Assumes nothing.
use mathlib.Core.Path.{◌≡◌, sym, ◌∙◌}
use Prim.Native.Nat.{◌+◌, ◌-◌, ◌<◌}
use native.Mathlib.Omega.{arith}
use lib.ListN.{get_or, drop}
use Rattle.group_theory.specs.Group.{moduli}
use Rattle.group_theory.specs.Sign.{lead, odd_or}
use Rattle.blocks_theory.specs.Indices.{digit_of}
use Rattle.blocks_theory.proofs.Rising.{lead-start, sign-turn, lead-end}
use Rattle.layout.proofs.descent.sign.Goals as goal
use Rattle.layout.proofs.descent.sign.Goals.{In-loop-j}

pub loop-j-init : goal.loop-j-init
loop-j-init c = (omega arith, sym (lead-start c.args.m.a c.args.m.b c.requires.0 c.args.x c.requires.1))

-- what a turn makes
turn : (c : In-loop-j)
    → let g = c.args in
    let i = g.m.a + (c.loop-j.j - 1) in
    let ms = moduli g.m.a g.m.b in
    (get_or g.x i 0 < 4) × (odd_or (get_or g.x i 0) (digit_of c.loop-j.s) ≡ lead (drop i ms) (drop i g.x))
turn c =
    let g = c.args in
    rw c.loop-j.invariant.1 (sign-turn g.m.a g.m.b c.requires.0 g.x c.requires.1 _ c.loop-j-test.true c.loop-j.invariant.0)

pub sign_after-s-requires : goal.sign_after-s-requires
sign_after-s-requires c = (turn (goal.at.sign_after-s-requires c).In-loop-j).0

pub loop-j-preserved : goal.loop-j-preserved
loop-j-preserved c = (omega arith, c.sign_after-s.ensures ∙ (turn (goal.at.loop-j-preserved c).In-loop-j).1)

pub returns : goal.returns
returns c =
    let g = c.args in
    let z : c.loop-j.j ≡ 0 = omega arith in
    (rw z at c.loop-j.invariant.1) ∙ lead-end g.m.a g.m.b c.requires.0 g.x c.requires.1
