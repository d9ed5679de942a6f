-- `group::Moduli::number_of` meets its contract: the loop reads the number off from the last component down. Assumes nothing.
use borrow.Author.Rules.{rules}
use mathlib.Core.Path.{◌≡◌, sym}
use Prim.Native.Nat.{◌+◌, ◌*◌, ◌%◌, ◌-◌, ◌^◌, ◌<◌}
use lib.ListN.{get_or, drop}
use native.Mathlib.Omega.{arith}
use Rattle.group_theory.specs.Group.{one, radix, moduli, number}
use Rattle.group_theory.proofs.Fill.{number-turn, number-none}
use Rattle.group.proofs.Moduli.number_of.Goals as goal
use Rattle.group.proofs.Moduli.number_of.Goals.{After-modulus-m}

-- what a turn makes of the number
turn :
    (c : After-modulus-m) → let m = moduli c.args.self.a c.args.self.b in let i = c.loop-i.i in let x = c.args.x in
    (c.loop-i.n * radix (get_or m (i - 1) one) + get_or x (i - 1) 0 % radix (get_or m (i - 1) one) ≡ number (drop (i - 1) m) (drop (i - 1) x))
    × (number (drop (i - 1) m) (drop (i - 1) x) < 2 ^ 24)
turn c =
    let g = c.args in
    number-turn g.self.a g.self.b g.x _ _ (search rules) c.loop-i-test.true c.loop-i.invariant.0 c.loop-i.invariant.1

pub loop-i-init : goal.loop-i-init
loop-i-init c = (omega arith, sym (number-none _ _ _))

pub overflow_mul-n : goal.overflow_mul-n
overflow_mul-n c =
    let t = turn ((goal.at.overflow_mul-n c).After-modulus-m) in
    rw (c.from.ensures, c.modulus-m.ensures) (omega (arith, t.0, t.1))

pub overflow_add-n : goal.overflow_add-n
overflow_add-n c =
    let t = turn ((goal.at.overflow_add-n c).After-modulus-m) in
    rw (c.from-in-loop-i.ensures, c.from.ensures, c.modulus-m.ensures) (omega (arith, t.0, t.1))

pub loop-i-preserved : goal.loop-i-preserved
loop-i-preserved c =
    let t = turn ((goal.at.loop-i-preserved c).After-modulus-m) in
    (omega arith, rw (c.from-in-loop-i.ensures, c.from.ensures, c.modulus-m.ensures) t.0)
