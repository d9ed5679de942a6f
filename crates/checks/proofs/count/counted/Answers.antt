-- `checks::count::counted` meets its contract: of a usable record that is not full no count is full, since each is at most their sum. Assumes
-- nothing.
use mathlib.Core.Path.{◌≡◌, refl}
use mathlib.Core.Bool.{Bool, true, false}
use Prim.Native.Nat.{ℕ, ◌+◌, ◌<◌, min}
use native.Mathlib.Omega.{arith}
use mir.Val.{bool_byte}
use Rattle.layout_theory.specs.Choice.{one_if}
use Rattle.coder_theory.specs.State.{full_count}
use Rattle.coder_theory.proofs.Corrections.{counted-by}
use Rattle.checks.proofs.count.counted.Goals as goal

one_more : (n : ℕ) (b : Bool) (k x : ℕ) → n < full_count → k ≡ bool_byte b → x ≡ min (n + k) full_count → x ≡ n + one_if b
one_more n true k x h e f = omega arith
one_more n false k x h e f = omega arith

pub returns-clause-usable : goal.returns-clause-usable
returns-clause-usable c h =
    let g = c.args.«record» in
    let u = h.0.fit.sums in
    let below : g.words < full_count = omega arith in
    rw (one_more _ true 1 _ below refl c.saturating_add.ensures)
    (counted-by _ _ _ h.0 (rw c.code.ensures at c.width-width.ensures) _ _ _
    (one_more _ _ _ _ (omega arith) c.from.ensures c.saturating_add-2.ensures)
    (one_more _ _ _ _ (omega arith) c.from-2.ensures c.saturating_add-3.ensures)
    (one_more _ _ _ _ (omega arith) c.from-3.ensures c.saturating_add-4.ensures))
