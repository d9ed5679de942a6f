-- `layout::Parts::element_at` meets its contract: no such place, a place of the message, or one of the check. Assumes nothing.
use mathlib.Core.Path.{◌≡◌, sym, ap, ◌∙◌}
use Prim.Native.Nat.{ℕ, suc, ◌+◌, ◌-◌, ◌*◌, ◌≤◌}
use native.Mathlib.Omega.{arith}
use Rattle.group_theory.specs.Group.{moduli}
use Rattle.layout_theory.specs.Layout.{element_at}
use Rattle.layout_theory.proofs.Index.{at-check}
use Rattle.layout.proofs.Parts.element_at.Goals as goal

pub returns-then-place-eq0 : goal.returns-then-place-eq0
unfolding element_at
returns-then-place-eq0 c = rw c.if-place-eq0.true c.zero.ensures

-- the number of a check place, counted on from the message
check-number : (x y m p : ℕ) → m ≡ x + 2 * y → (p ≡ 0 → ⊥) → m ≤ p - 1 → suc (x + (2 * y + (p - 1 - m))) ≡ p
check-number x y m p e h l = omega arith

pub returns : goal.returns
returns c =
    let s = c.args.self in
    let ms = moduli s.m.a s.m.b in
    c.check_element.ensures ∙ sym (at-check ms (c.args.place - 1 - s.message))
    ∙ ap (element_at ms) (check-number _ _ _ _ s.located.front c.if-place-eq0.false c.if-i-self.false)
