-- `layout::Parts::single_place` meets its contract: zero, a unit, or a single of the message. Assumes nothing.
use native.Mathlib.Omega.{arith}
use Rattle.blocks_theory.proofs.Locate.{single-none, single-unit, single-other}
use Rattle.layout.proofs.Parts.single_place.Goals as goal

pub returns-then-k-eq0 : goal.returns-then-k-eq0
returns-then-k-eq0 c =
    let s = c.args.self in
    single-none s.m.a s.m.b s.part s.message s.located c.args.k c.if-k-eq0.true

pub overflow_sub-result : goal.overflow_sub-result
overflow_sub-result c =
    let s = c.args.self in
    (single-other s.m.a s.m.b s.part s.message s.located c.args.k _ (omega arith) c.requires c.in-Err.ensures).0

pub returns-in-Ok : goal.returns-in-Ok
returns-in-Ok c =
    let s = c.args.self in
    let f = c.in-Ok.ensures in
    single-unit s.m.a s.m.b s.part s.message s.located c.args.k _ f.0 f.1

pub returns-in-Err : goal.returns-in-Err
returns-in-Err c =
    let s = c.args.self in
    let f = single-other s.m.a s.m.b s.part s.message s.located c.args.k _ (omega arith) c.requires c.in-Err.ensures in
    (f.1, f.2)
