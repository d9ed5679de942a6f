-- `places::place::negative_place` meets its contract. Assumes nothing.
use mathlib.Core.Path.{ap, ◌∙◌}
use mathlib.Core.List.{List}
use Prim.Native.Nat.{ℕ}
use Rattle.layout_theory.specs.Calls.{place_for}
use Rattle.places.proofs.OtherPlace.{minus-told, minus-for}
use Rattle.places.proofs.place.negative_place.Goals as goal

pub returns-then-p-ne0 : goal.returns-then-p-ne0
returns-then-p-ne0 c = minus-told _ _ _ _ c.other_half.ensures _ c.place_of-p.ensures c.if-p-ne0.true

pub returns : goal.returns
returns c =
    let g = c.args in
    c.place_of.ensures
    ∙ ap (λ (e : List ℕ). place_for g.code.t g.code.r e) c.neg.ensures
    ∙ minus-for _ _ _ c.shape-h.ensures g.e
