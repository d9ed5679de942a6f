-- `shortened::third` meets its contract. Assumes nothing.
use mathlib.Core.Bool.{true}
use mathlib.Core.Path.{◌≡◌, sym, ap, ◌∙◌}
use Prim.Native.Nat.{ℕ, ◌-◌}
use Rattle.layout_theory.specs.Parameters.{places_of}
use Rattle.shortened_theory.specs.Calls.{allowed_for}
use Rattle.shortened_theory.proofs.Places.{place-by, third-none, third-first, third-second, third-old}
use Rattle.shortened_theory.proofs.Guards.{still, places-are}
use Rattle.shortened.proofs.third.Goals as goal
use Rattle.shortened.proofs.third.Goals.{After-shape, else-is_place-via-then-is_place+else-is_place-2, else-is_place-via-else-is_place}

-- past the test s is allowed, and there are n − s places
module _ (c : After-shape) where
  fine : allowed_for c.args.code.t c.args.code.r c.args.code.s ≡ true
  fine = sym c.allowed.ensures ∙ c.if-not-allowed.false

  left : c.shape.result.places - c.args.code.s ≡ places_of c.args.code.t - c.args.code.s
  left = ap (λ (n : ℕ). n - c.args.code.s) (places-are _ _ _ fine _ c.shape.ensures)

pub returns-then-not-allowed : goal.returns-then-not-allowed
returns-then-not-allowed c = third-none _ _ _ _ _ (sym c.allowed.ensures ∙ c.if-not-allowed.true)

pub overflow_sub-n : goal.overflow_sub-n
overflow_sub-n c = (still _ _ _ (fine (goal.at.overflow_sub-n c).After-shape) _ c.shape.ensures).0

pub returns-then-is_place-2 : goal.returns-then-is_place-2
returns-then-is_place-2 c =
    let q = (goal.at.returns-then-is_place-2 c).After-shape in
    c.third.ensures
    ∙ third-old _ _ _ _ _ (fine q)
    (place-by _ _ _ c.args.i _ _ (left q) c.is_place.ensures c.if-is_place.true)
    (place-by _ _ _ c.args.j _ _ (left q) c.is_place-then-is_place.ensures c.if-is_place-2.true)

pub returns-else-is_place : goal.returns-else-is_place
returns-else-is_place c =
    let q = (goal.at.returns-else-is_place c).After-shape in
    elim c.else-is_place.branch [
      | else-is_place-via-then-is_place+else-is_place-2 w ↦
          third-second _ _ _ _ _ (fine q) (place-by _ _ _ c.args.i _ _ (left q) c.is_place.ensures w.if-is_place.true)
          (place-by _ _ _ c.args.j _ _ (left q) w.is_place-then-is_place.ensures w.if-is_place-2.false)
      | else-is_place-via-else-is_place w ↦
          third-first _ _ _ _ _ (fine q) (place-by _ _ _ c.args.i _ _ (left q) c.is_place.ensures w.if-is_place.false)
    ]
