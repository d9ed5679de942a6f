-- `layout::Parts::second_place` meets its contract: a unit stands in the check, any other z in the message. Assumes nothing.
use Prim.Native.Nat.{◌+◌, ◌-◌, ◌*◌, ◌^◌, ◌<◌, ◌≤◌}
use native.Mathlib.Omega.{arith}
use Rattle.group_theory.specs.Group.{moduli}
use Rattle.blocks_theory.proofs.Locate.{Second, whole-small, pair-unit, pair-other}
use Rattle.layout.proofs.Parts.second_place.Goals as goal
use Rattle.layout.proofs.Parts.second_place.Goals.{In-Err}

-- an element that is no unit
other : (c : In-Err)
    → let s = c.args.self in
    let n = c.in-Err.c in
    (n ≤ c.args.k) × Second (moduli s.m.a s.m.b) c.args.k (s.part + 2 * (c.args.k - n) + 2)
other c =
    let s = c.args.self in
    pair-other s.m.a s.m.b s.part s.message s.located c.args.k _ c.requires c.in-Err.ensures

small : (c : In-Err) → let s = c.args.self in s.part + 2 * (c.args.k - c.in-Err.c) + 2 < 2 ^ 25
small c =
    let s = c.args.self in
    let w = whole-small s.m.a s.m.b s.part s.message s.located in
    omega (arith, (other c).1.1)

pub overflow_sub-result : goal.overflow_sub-result
overflow_sub-result c = (other c).0

pub overflow_mul-result-in-Err : goal.overflow_mul-result-in-Err
overflow_mul-result-in-Err c = omega (arith, small c)

pub overflow_add-result-in-Err : goal.overflow_add-result-in-Err
overflow_add-result-in-Err c = omega (arith, small (goal.at.overflow_add-result-in-Err c).In-Err)

pub overflow_add-result-in-Err-2 : goal.overflow_add-result-in-Err-2
overflow_add-result-in-Err-2 c = omega (arith, small (goal.at.overflow_add-result-in-Err-2 c).In-Err)

pub returns-in-Ok : goal.returns-in-Ok
returns-in-Ok c =
    let s = c.args.self in
    let f = c.in-Ok.ensures in
    pair-unit s.m.a s.m.b s.part s.message s.located c.args.k _ f.0 f.1

pub returns-in-Err : goal.returns-in-Err
returns-in-Err c = (other (goal.at.returns-in-Err c).In-Err).1
