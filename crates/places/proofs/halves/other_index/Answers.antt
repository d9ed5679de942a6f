-- `places::halves::other_index` meets its contract: the part in which an index lies says where its pair begins. Assumes nothing.
use borrow.Author.Rules.{rules}
use mathlib.Core.Path.{◌≡◌, sym, ◌∙◌}
use Prim.Native.Nat.{ℕ, ◌-◌, ◌<◌}
use native.Mathlib.Omega.{arith}
use Rattle.group_theory.specs.Group.{moduli}
use Rattle.layout_theory.specs.Layout.{slots}
use Rattle.layout_theory.specs.Parts.{Located}
use Rattle.layout_theory.specs.declared.Shape.{Shape}
use Rattle.layout_theory.proofs.Parameters.{Sizes}
use Rattle.words_theory.specs.Halves.{other_at}
use Rattle.words_theory.proofs.OtherHalf.{other-one, other-two, other-three, other-four}
use Rattle.words_theory.proofs.Shapes.{OfCode, sizes, located, other-within}
use Rattle.places.proofs.halves.other_index.Goals as goal

-- what is required says that the shape has a place
module _ (s : Shape) (i : ℕ) (p : OfCode s × (i < s.places)) where
  numbers : Sizes s
  numbers = sizes s p.0 (omega (arith, p.1))

  parts : Located s.a s.b (s.binary - s.a) s.message
  parts = located s p.0 (omega (arith, p.1))

  inside : (j : ℕ) → j ≡ other_at (slots (moduli s.a s.b)) i → j < s.places
  inside j e = let h = other-within s p.0 (omega (arith, p.1)) i p.1 in rw e h

pub overflow_sub-part : goal.overflow_sub-part
overflow_sub-part c = let k = numbers c.args.s c.args.i c.requires in search rules

pub overflow_add-units : goal.overflow_add-units
overflow_add-units c = let k = numbers c.args.s c.args.i c.requires in search rules

pub returns-then-i-part-clause-at : goal.returns-then-i-part-clause-at
returns-then-i-part-clause-at c = sym (other-one _ _ _ _ (parts c.args.s c.args.i c.requires) c.args.i c.if-i-part.true)

pub returns-then-i-message-clause-at : goal.returns-then-i-message-clause-at
returns-then-i-message-clause-at c =
    c.other_from.ensures ∙ sym (other-two _ _ _ _ (parts c.args.s c.args.i c.requires) c.args.i (omega arith) (omega arith))

pub returns-then-i-message-clause-within : goal.returns-then-i-message-clause-within
returns-then-i-message-clause-within c = inside c.args.s c.args.i c.requires _ (returns-then-i-message-clause-at c)

pub returns-then-i-units-clause-at : goal.returns-then-i-units-clause-at
returns-then-i-units-clause-at c =
    sym (other-three _ _ _ _ (parts c.args.s c.args.i c.requires) c.args.i (omega arith) (omega arith))

pub returns-else-i-units-clause-at : goal.returns-else-i-units-clause-at
returns-else-i-units-clause-at c =
    let k = numbers c.args.s c.args.i c.requires in
    c.other_from-else-i-units.ensures
    ∙ sym (other-four _ _ _ _ (parts c.args.s c.args.i c.requires) c.args.i (omega arith) (omega (arith, k.check, c.requires.1)))

pub returns-else-i-units-clause-within : goal.returns-else-i-units-clause-within
returns-else-i-units-clause-within c = inside c.args.s c.args.i c.requires _ (returns-else-i-units-clause-at c)
