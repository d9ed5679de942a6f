-- `two_passes::weights::singles` meets its contract. Assumes nothing.
use borrow.Author.Rules.{rules}
use mathlib.Core.Path.{refl}
use Prim.Native.Nat.{◌+◌, ◌-◌}
use Rattle.loops_theory.proofs.Laying.{SegmentAsks, RestAsks, SinglesRoom, room_for, singling-start, singling-asks, singling-step, singling-end, singling-done}
use Rattle.two_passes.proofs.weights.singles.Goals as goal
use Rattle.two_passes.proofs.weights.singles.Goals.{After-loop, In-loop, Start}

-- how many weights there are of each kind
room_at : (b : Start) → SinglesRoom b.args.a b.args.b b.args.count b.args.part b.args.word.now b.requires.0 (b.args.part + b.args.a + 1) (b.args.count - (b.args.part + b.args.a + 1))
room_at b = room_for b.args.a b.args.b b.args.count b.args.part b.args.word.now b.requires.0 _ _ refl refl

pub overflow_add-e : goal.overflow_add-e
overflow_add-e c = let b = (goal.at.overflow_add-e c).Start in let R = room_at b in search rules

pub overflow_add-e-2 : goal.overflow_add-e-2
overflow_add-e-2 c = let b = (goal.at.overflow_add-e-2 c).Start in let R = room_at b in search rules

pub overflow_sub-start : goal.overflow_sub-start
overflow_sub-start c = let b = (goal.at.overflow_sub-start c).Start in let R = room_at b in search rules

pub bounds-v-start : goal.bounds-v-start
bounds-v-start c = let b = (goal.at.bounds-v-start c).Start in let R = room_at b in search rules

pub loop-init : goal.loop-init
loop-init c =
    let b = (goal.at.loop-init c).Start in
    let R = room_at b in
    let h = c.requires in
    singling-start _ _ _ _ c.args.word.now c.requires.0 _ c.args.v.now _ c.requires.1 R.space refl

-- what the next segment asks, and what the bytes after the last one ask
segment : (l : In-loop)
    → let b = (goal.at.In-loop l).Start in let s = l.loop in
    SegmentAsks b.args.word.now s.v (b.args.count - (b.args.part + b.args.a + 1)) s.n s.at
segment l =
    let b = (goal.at.In-loop l).Start in
    singling-asks _ _ _ _ b.args.word.now b.requires.0 _ _ (room_at b) _ _ _ _ _ l.loop.invariant l.loop-test.true

rest : (l : After-loop)
    → let b = (goal.at.After-loop l).Start in let s = l.loop in let e = b.args.part + b.args.a + 1 in
    RestAsks b.args.word.now s.v (b.args.count - e) e s.n s.at
rest l =
    let b = (goal.at.After-loop l).Start in
    singling-end _ _ _ _ b.args.word.now b.requires.0 _ _ (room_at b) _ _ _ _ _ l.loop.invariant l.loop-test.false

pub overflow_add-start : goal.overflow_add-start
overflow_add-start c = let l = (goal.at.overflow_add-start c).In-loop in let R = room_at ((goal.at.overflow_add-start c).Start) in let S = segment l in let i = c.loop.invariant in search rules

pub overflow_sub-n : goal.overflow_sub-n
overflow_sub-n c = let l = (goal.at.overflow_sub-n c).In-loop in let R = room_at ((goal.at.overflow_sub-n c).Start) in let S = segment l in let i = c.loop.invariant in search rules

pub single_segment-requires : goal.single_segment-requires
single_segment-requires c = let l = (goal.at.single_segment-requires c).In-loop in let R = room_at ((goal.at.single_segment-requires c).Start) in let S = segment l in let i = c.loop.invariant in search rules

pub overflow_sub-at : goal.overflow_sub-at
overflow_sub-at c = let l = (goal.at.overflow_sub-at c).In-loop in let R = room_at ((goal.at.overflow_sub-at c).Start) in let S = segment l in let i = c.loop.invariant in search rules

pub overflow_add-at : goal.overflow_add-at
overflow_add-at c = let l = (goal.at.overflow_add-at c).In-loop in let R = room_at ((goal.at.overflow_add-at c).Start) in let S = segment l in let i = c.loop.invariant in search rules

pub overflow_mul-n : goal.overflow_mul-n
overflow_mul-n c = let l = (goal.at.overflow_mul-n c).In-loop in let R = room_at ((goal.at.overflow_mul-n c).Start) in let S = segment l in let i = c.loop.invariant in search rules

pub loop-preserved : goal.loop-preserved
loop-preserved c =
    let b = (goal.at.loop-preserved c).Start in
    singling-step _ _ _ _ b.args.word.now b.requires.0 _ _ (room_at b) _ _ _ _ _ c.loop.invariant c.loop-test.true _ (search rules) c.single_segment.ensures

pub overflow_add-start-2 : goal.overflow_add-start-2
overflow_add-start-2 c = let l = (goal.at.overflow_add-start-2 c).After-loop in let R = room_at ((goal.at.overflow_add-start-2 c).Start) in let S = rest l in let i = c.loop.invariant in search rules

pub overflow_sub-e : goal.overflow_sub-e
overflow_sub-e c = let l = (goal.at.overflow_sub-e c).After-loop in let R = room_at ((goal.at.overflow_sub-e c).Start) in let S = rest l in let i = c.loop.invariant in search rules

pub bytes-requires : goal.bytes-requires
bytes-requires c = let l = (goal.at.bytes-requires c).After-loop in let R = room_at ((goal.at.bytes-requires c).Start) in let S = rest l in let i = c.loop.invariant in search rules

pub returns : goal.returns
returns c =
    let b = (goal.at.returns c).Start in
    singling-done _ _ _ _ b.args.word.now b.requires.0 _ _ (room_at b) _ _ _ _ _ _ refl c.loop.invariant c.loop-test.false _ c.bytes.ensures
