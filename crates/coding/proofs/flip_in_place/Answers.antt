-- `coding::flip_in_place` meets its contract. Assumes nothing.
use Rattle.std.proofs.Common.{◌≡◌, ℕ, zero, suc, ◌-◌, eqb, refl, ◌∙◌, arith}
use mir.Val.{bool_byte}
use borrow.Author.Tests.{ne_eqb}
use Rattle.loops_theory.proofs.Faults.{own-nothing, own-outside, own-inside}
use Rattle.coding.proofs.flip_in_place.Goals as goal

-- 1 for 0, and 0 for any other byte
flipped : (b : ℕ) → bool_byte (eqb b 0) ≡ 1 - b
flipped zero = refl
flipped (suc b) = rw (ne_eqb (suc b) 0 (omega arith)) (omega arith)

pub returns-then-place-eq0 : goal.returns-then-place-eq0
returns-then-place-eq0 c = own-nothing _ _ c.if-place-eq0.true

pub returns-then-i-word : goal.returns-then-i-word
returns-then-i-word c = own-inside _ _ c.if-place-eq0.false _ (c.from.ensures ∙ flipped _)

pub returns-else-i-word : goal.returns-else-i-word
returns-else-i-word c = own-outside _ _ c.if-place-eq0.false c.if-i-word.false
