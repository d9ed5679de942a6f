-- `two_passes::halves::other_index` meets its contract: the part in which an index lies says where its pair begins. Assumes nothing.
use mathlib.Core.Path.{sym, ◌∙◌}
use Prim.Native.Nat.{ℕ, ◌-◌, ◌<◌}
use native.Mathlib.Omega.{arith}
use Rattle.layout_theory.specs.Parts.{Located}
use Rattle.layout_theory.specs.declared.Shape.{Shape}
use Rattle.layout_theory.proofs.Parameters.{Sizes}
use Rattle.words_theory.proofs.OtherHalf.{other-one, other-two, other-three, other-four}
use Rattle.words_theory.proofs.Shapes.{OfCode, sizes, located}
use Rattle.two_passes.proofs.halves.other_index.Goals as goal

-- what is required says that the shape has a place
module _ (s : Shape) (i : ℕ) (p : OfCode s × (i < s.places)) where
  numbers : Sizes s
  numbers = sizes s p.0 (omega (arith, p.1))

  parts : Located s.a s.b (s.binary - s.a) s.message
  parts = located s p.0 (omega (arith, p.1))

pub overflow_sub-part : goal.overflow_sub-part
overflow_sub-part c =
    let k = numbers c.args.h c.args.i c.requires in
    omega (arith, k.part)

pub returns-then-i-part : goal.returns-then-i-part
returns-then-i-part c =
    sym (other-one _ _ _ _ (parts c.args.h c.args.i c.requires) c.args.i c.if-i-part.true)

pub returns-then-i-message : goal.returns-then-i-message
returns-then-i-message c =
    c.other_from.ensures ∙ sym (other-two _ _ _ _ (parts c.args.h c.args.i c.requires) c.args.i (omega arith) (omega arith))

pub overflow_add-message : goal.overflow_add-message
overflow_add-message c =
    let k = numbers c.args.h c.args.i c.requires in
    omega (arith, k.check, k.small)

pub returns-then-i-message-2 : goal.returns-then-i-message-2
returns-then-i-message-2 c =
    sym (other-three _ _ _ _ (parts c.args.h c.args.i c.requires) c.args.i (omega arith) (omega arith))

pub returns : goal.returns
returns c =
    let k = numbers c.args.h c.args.i c.requires in
    c.other_from-2.ensures
    ∙ sym (other-four _ _ _ _ (parts c.args.h c.args.i c.requires) c.args.i (omega arith) (omega (arith, k.check, c.requires.1)))
