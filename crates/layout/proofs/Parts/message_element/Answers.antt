-- `layout::Parts::message_element` meets its contract: a single, or one of the two places of a pair. Assumes nothing.
use mathlib.Core.Path.{◌≡◌, ◌∙◌}
use Prim.Native.Nat.{◌+◌, ◌<◌}
use native.Mathlib.Omega.{arith}
use lib.ListN.{length}
use Rattle.group_theory.specs.Group.{moduli}
use Rattle.layout_theory.specs.Layout.{element_at}
use Rattle.blocks_theory.specs.Indices.{kind_of, numbers, standing}
use Rattle.blocks_theory.specs.declared.Sign.TheVariants.{Zero}
use Rattle.blocks_theory.proofs.Standing.{single-element, pair-half}
use Rattle.layout.proofs.Parts.message_element.Goals as goal
use Rattle.layout.proofs.Parts.message_element.Goals.{After-with_units-k, After-half}

-- what is known of a single's place
single : (c : After-with_units-k)
    → let s = c.args.self in
    let k = c.with_units-k.result in
    let ms = moduli s.m.a s.m.b in
    (k < length (numbers (kind_of Zero) ms)) × (standing Zero ms k ≡ element_at ms (c.args.i + 1))
single c =
    let s = c.args.self in
    let k = c.with_units-k.ensures in
    single-element s.m.a s.m.b s.located.room c.args.i c.with_units-k.result (omega (arith, s.located.part)) k.0 k.1

pub element-requires : goal.element-requires
element-requires c = (c.args.self.located.room, (single (goal.at.element-requires c).After-with_units-k).0)

pub returns-then-i-self : goal.returns-then-i-self
returns-then-i-self c = c.element.ensures ∙ (single (goal.at.returns-then-i-self c).After-with_units-k).1

-- what is known of a pair's place
half : (c : After-half)
    → let s = c.args.self in
    let k = c.with_units-k-2.result in
    let ms = moduli s.m.a s.m.b in
    (k < length (numbers (kind_of c.half.result) ms)) × (standing c.half.result ms k ≡ element_at ms (c.args.i + 1))
half c =
    let s = c.args.self in
    let k = c.with_units-k-2.ensures in
    pair-half s.m.a s.m.b s.located.room c.args.i s.part _ c.half.result s.located.part c.if-i-self.false (omega (arith, s.located.part, s.located.front)) k.0 k.1 c.half.ensures

pub element-requires-2 : goal.element-requires-2
element-requires-2 c = (c.args.self.located.room, (half c).0)

pub returns : goal.returns
returns c = c.element-2.ensures ∙ (half (goal.at.returns c).After-half).1
