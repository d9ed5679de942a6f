-- `layout::descent::count` meets its contract: the shifts are the powers by which the numbers are counted. Assumes nothing.
use Prim.Native.Nat.{ℕ, ◌+◌, ◌*◌, ◌/◌, ◌%◌, ◌^◌, ◌≤◌}
use native.Mathlib.Omega.{arith}
use Rattle.layout_theory.proofs.Parameters.{shift_one}
use Rattle.blocks_theory.proofs.Descents.{Counted, counted}
use Rattle.layout.proofs.descent.count.Goals as goal

shifted : (a b j : ℕ) (h : a + b ≤ 12) → j ≤ b → Counted a b h j (1 * 2 ^ (a + j) % 2 ^ 32) ((1 * 2 ^ (a + 2 * j) % 2 ^ 32 + 1 * 2 ^ (a + j) % 2 ^ 32) / 2)
shifted a b j h l = rw (shift_one (a + 2 * j) 32 (omega arith), shift_one (a + j) 32 (omega arith)) (counted a b h j l)

pub overflow_sub-result : goal.overflow_sub-result
overflow_sub-result c = (shifted c.args.m.a c.args.m.b c.args.j c.requires.0 c.requires.1).less

pub returns-in-Even : goal.returns-in-Even
returns-in-Even c =
    let n = shifted c.args.m.a c.args.m.b c.args.j c.requires.0 c.requires.1 in
    rw c.in-Even.is (n.evens, omega (arith, n.less, n.small))

pub returns-in-Plus : goal.returns-in-Plus
returns-in-Plus c =
    let n = shifted c.args.m.a c.args.m.b c.args.j c.requires.0 c.requires.1 in
    rw c.in-Plus.is (n.pluses, omega (arith, n.small))

pub returns-in-Low : goal.returns-in-Low
returns-in-Low c =
    let n = shifted c.args.m.a c.args.m.b c.args.j c.requires.0 c.requires.1 in
    rw c.in-Low.is (n.lows, n.small)
