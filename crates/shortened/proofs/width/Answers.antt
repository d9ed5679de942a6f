-- `shortened::width` meets its contract. Assumes nothing.
use mathlib.Core.Bool.{true, false, ◌&&◌}
use mathlib.Core.Path.{◌≡◌, sym, ◌∙◌}
use Prim.Native.Nat.{ℕ, ◌-◌, ◌<◌}
use native.Mathlib.Decide.{ℕ_discrete}
use native.Mathlib.Omega.{arith}
use lib.Dec.{leb}
use Rattle.layout_theory.specs.declared.Shape.{Shape}
use Rattle.layout_theory.specs.Calls.{shape_for}
use Rattle.words_theory.proofs.Shapes.{place-there, place-beyond}
use Rattle.shortened_theory.specs.Calls.{allowed_for, shortened_width_for}
use Rattle.shortened_theory.proofs.Places.{width-none, width-zero, width-old, width-beyond}
use Rattle.shortened_theory.proofs.Guards.{still, places-are}
use Rattle.shortened.proofs.width.Goals as goal
use Rattle.shortened.proofs.width.Goals.{Then-allowed, else-allowed-via-then-allowed+else-is_place, else-allowed-via-else-allowed}

-- past the test s is allowed
fine : (c : Then-allowed) → allowed_for c.args.code.t c.args.code.r c.args.code.s ≡ true
fine c = sym c.allowed.ensures ∙ c.if-allowed.true

-- a number that is none of the n − s places
nowhere : (t r s : ℕ) → allowed_for t r s ≡ true → (h : Shape) → h ≡ shape_for t r → (p : ℕ) → (leb 1 p && leb p (h.places - s)) ≡ false
    → 0 ≡ shortened_width_for t r s p
nowhere t r s y h e p q = go (ℕ_discrete p 0)
  where
    go : Dec (p ≡ 0) → 0 ≡ shortened_width_for t r s p
    go (yes z) = width-zero t r s p y z
    go (no n) = width-beyond t r s p y n (let k = places-are t r s y h e in let l = place-beyond (h.places - s) p q (omega arith) in omega arith)

pub overflow_sub-shape : goal.overflow_sub-shape
overflow_sub-shape c = (still _ _ _ (fine (goal.at.overflow_sub-shape c).Then-allowed) _ c.shape.ensures).0

pub returns-then-is_place : goal.returns-then-is_place
returns-then-is_place c =
    let l : 0 < c.args.place = (place-there _ _ (sym c.is_place.ensures ∙ c.if-is_place.true)).0 in
    c.width.ensures ∙ width-old _ _ _ _ (fine (goal.at.returns-then-is_place c).Then-allowed) (λ z. absurd (omega arith))

pub returns-else-allowed : goal.returns-else-allowed
returns-else-allowed c =
    elim c.else-allowed.branch [
      | else-allowed-via-then-allowed+else-is_place w ↦
          nowhere _ _ _ (sym c.allowed.ensures ∙ w.if-allowed.true) _ w.shape.ensures _ (sym w.is_place.ensures ∙ w.if-is_place.false)
      | else-allowed-via-else-allowed w ↦ width-none _ _ _ _ (sym c.allowed.ensures ∙ w.if-allowed.false)
    ]
