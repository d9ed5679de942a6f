-- `layout::Parts::place_of` meets its contract: the place found is the only one, and what is no element has none. Assumes nothing.
use mathlib.Core.Path.{sym, ◌∙◌}
use mathlib.Core.Bool.{false≢true}
use native.Mathlib.Omega.{arith}
use Rattle.group_theory.specs.Group.{Valid, moduli}
use Rattle.layout_theory.proofs.Places.{place_none}
use Rattle.blocks_theory.proofs.Locate.{place_found}
use Rattle.layout.proofs.Parts.place_of.Goals as goal
use Rattle.layout.proofs.Parts.place_of.Goals.{Else-not-is_element}

pub returns-then-not-is_element : goal.returns-then-not-is_element
returns-then-not-is_element c =
    let s = c.args.self in
    sym (place_none (moduli s.m.a s.m.b) c.args.e (λ v. absurd (false≢true (sym c.if-not-is_element.true ∙ c.is_element.ensures.1 v))))

valid : (c : Else-not-is_element) → Valid (moduli c.args.self.m.a c.args.self.m.b) c.args.e
valid c = c.is_element.ensures.0 c.if-not-is_element.false

pub sign-sign-requires : goal.sign-sign-requires
sign-sign-requires c = (c.args.self.located.room, valid (goal.at.sign-sign-requires c).Else-not-is_element)

pub index_of-k-requires : goal.index_of-k-requires
index_of-k-requires c = record { room = c.args.self.located.room; valid = valid (goal.at.index_of-k-requires c).Else-not-is_element; sign = sym c.sign-sign.ensures }

pub returns-in-Zero : goal.returns-in-Zero
returns-in-Zero c =
    let s = c.args.self in
    let f = c.single_place.ensures in
    let k = rw c.in-Zero.is at c.index_of-k.ensures in
    place_found (moduli s.m.a s.m.b) c.args.e _ (valid (goal.at.returns-in-Zero c).Else-not-is_element) f.0 (f.1 ∙ k.1)

pub returns-in-One : goal.returns-in-One
returns-in-One c =
    let s = c.args.self in
    let f = c.second_place.ensures in
    let k = rw c.in-One.is at c.index_of-k.ensures in
    place_found (moduli s.m.a s.m.b) c.args.e _ (valid (goal.at.returns-in-One c).Else-not-is_element) f.1 (f.2 ∙ k.1)

pub returns-in-Three : goal.returns-in-Three
returns-in-Three c =
    let s = c.args.self in
    let f = c.second_place-in-Three.ensures in
    let l = f.1 in
    let k = rw c.in-Three.is at c.index_of-k.ensures in
    place_found (moduli s.m.a s.m.b) c.args.e _ (valid (goal.at.returns-in-Three c).Else-not-is_element) (omega arith) (f.3 ∙ k.1)
