-- `gray::digit` meets its contract: the Gray map, read. Assumes nothing.
use mathlib.Core.Path.{◌≡◌, refl}
use mathlib.Core.Bool.{not}
use Prim.Native.Nat.{ℕ, zero, suc, ◌-◌, ◌≤◌}
use native.Mathlib.Omega.{arith}
use lib.Dec.{eqb}
use mir.Val.{bool_byte}
use borrow.Author.Tests.{ne_eqb}
use Rattle.words_theory.specs.Digits as digits
use Rattle.gray.proofs.digit.Goals as goal

-- whether a byte is not 0, as a number
small : (c : ℕ) → bool_byte (not (eqb c 0)) ≤ 3
small zero = omega arith
small (suc c) = rw (ne_eqb (suc c) 0 (omega arith)) (omega arith)

upper : (b c l : ℕ) → (b ≡ 0 → ⊥) → l ≡ bool_byte (not (eqb c 0)) → 3 - l ≡ digits.digit b c
upper zero c l n e = absurd (n refl)
upper (suc b) zero l n e = rw e
upper (suc b) (suc c) l n e = rw (e, ne_eqb (suc c) 0 (omega arith))

lower : (b c l : ℕ) → b ≡ 0 → l ≡ bool_byte (not (eqb c 0)) → l ≡ digits.digit b c
lower b zero l z e = rw (z, e)
lower b (suc c) l z e = rw (z, e, ne_eqb (suc c) 0 (omega arith))

pub overflow_sub-result : goal.overflow_sub-result
overflow_sub-result c = rw c.from-low.ensures (small _)

pub returns-then-b-ne0 : goal.returns-then-b-ne0
returns-then-b-ne0 c = upper _ _ _ c.if-b-ne0.true c.from-low.ensures

pub returns : goal.returns
returns c = lower _ _ _ c.if-b-ne0.false c.from-low.ensures
