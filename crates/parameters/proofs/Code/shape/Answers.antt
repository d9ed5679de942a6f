-- `parameters::Code::shape` meets its contract: the numbers of document 01, or zeros. Assumes nothing.
use mathlib.Core.Path.{◌≡◌, sym, ap₂, ◌∙◌}
use mathlib.Core.Bool.{true}
use Prim.Native.Nat.{ℕ, ◌-◌, ◌*◌, ◌%◌, ◌^◌, ◌<◌, ◌≤◌}
use native.Mathlib.Omega.{arith}
use Rattle.layout_theory.specs.Parameters.{longest, admits}
use Rattle.layout_theory.specs.Calls.{shape_for}
use Rattle.layout_theory.specs.declared.Shape.{Shape}
use Rattle.layout_theory.proofs.Parameters.{shift_one, bounds}
use Rattle.parameters.proofs.Code.shape.Goals as goal
use Rattle.parameters.proofs.Code.shape.Goals.{Then-admitted}

-- past the test
passed : (c : Then-admitted) → let t = c.args.self.t in let r = c.args.self.r in (t ≤ longest) × (r ≤ t) × (t ≤ 2 * r) × (t < 2 ^ t) × (0 < 2 ^ r)
passed c = bounds _ _ _ c.admitted.ensures c.if-admitted.true

-- the two shifts lose nothing
places : (c : Then-admitted) → let t = c.args.self.t in 1 * 2 ^ t % 4294967296 ≡ 2 ^ t
places c = shift_one _ 32 (omega (arith, passed c))

binary : (c : Then-admitted) → let r = c.args.self.r in 1 * 2 ^ r % 4294967296 ≡ 2 ^ r
binary c = shift_one _ 32 (omega (arith, passed c))

pub overflow_shl-n : goal.overflow_shl-n
overflow_shl-n c = omega (arith, passed c)

pub overflow_sub-n : goal.overflow_sub-n
overflow_sub-n c = omega (arith, places c, passed c)

pub overflow_mul-result : goal.overflow_mul-result
overflow_mul-result c = omega (arith, passed c)

pub overflow_sub-result : goal.overflow_sub-result
overflow_sub-result c = omega (arith, passed c)

pub overflow_sub-result-then-admitted : goal.overflow_sub-result-then-admitted
overflow_sub-result-then-admitted c = omega (arith, passed c)

pub overflow_shl-result : goal.overflow_shl-result
overflow_shl-result c = omega (arith, passed c)

pub overflow_sub-result-then-admitted-2 : goal.overflow_sub-result-then-admitted-2
overflow_sub-result-then-admitted-2 c = omega (arith, binary c, passed c)

pub overflow_sub-result-then-admitted-3 : goal.overflow_sub-result-then-admitted-3
overflow_sub-result-then-admitted-3 c = omega (arith, places c, passed c)

-- the shape, by its two powers
abbrev shape : ℕ → ℕ → ℕ → ℕ → Shape
shape t r n k = record { a = 2 * r - t; b = t - r; places = n - 1; binary = k - 1; message = n - 1 - t }

admitted-shape : (t r : ℕ) → admits t r ≡ true → shape t r (2 ^ t) (2 ^ r) ≡ shape_for t r
unfolding shape_for
admitted-shape t r e = rw e

pub returns-then-admitted : goal.returns-then-admitted
returns-then-admitted c =
    let g = c.args.self in
    ap₂ (shape g.t g.r) (places c) (binary c) ∙ admitted-shape g.t g.r (sym c.admitted.ensures ∙ c.if-admitted.true)

pub returns : goal.returns
unfolding shape_for
returns c = rw (sym c.admitted.ensures ∙ c.if-admitted.false)
