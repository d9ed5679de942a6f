-- `two_passes::weights::pairs` meets its contract. Assumes nothing.
use borrow.Author.Rules.{rules}
use native.Mathlib.Omega.{arith}
use Rattle.layout_theory.proofs.Parameters.{shift_one}
use Rattle.loops_theory.proofs.Laying.{Segment, pairing-start, pairing-asks, pairing_step, pairing-done}
use Rattle.two_passes.proofs.Segments.{pairs-held}
use Rattle.two_passes.proofs.weights.pairs.Goals as goal
use Rattle.two_passes.proofs.weights.pairs.Goals.{In-loop}

pub loop-init : goal.loop-init
loop-init c =
    let w = c.requires.0 in
    let h = w.few in
    pairing-start _ _ _ _ c.args.word.now w _ _ (shift_one c.args.a 64 (omega arith)) (pairs-held _ _ _ _ c.args.word.now w _ c.requires.1)

-- what the next segment asks
segment : (l : In-loop)
    → let v = l.loop in
    Segment l.args.a l.args.b l.args.count l.args.part l.args.word.now l.requires.0 v.p v.e v.at v.counter
segment l =
    pairing-asks _ _ _ _ l.args.word.now l.requires.0 _ _ _ _ _ _ l.loop.invariant l.loop-test.true

pub overflow_mul-n : goal.overflow_mul-n
overflow_mul-n c = let S = segment c in let i = c.loop.invariant in search rules

pub overflow_add-n : goal.overflow_add-n
overflow_add-n c = let S = segment c in let i = c.loop.invariant in search rules

pub overflow_sub-n : goal.overflow_sub-n
overflow_sub-n c = let S = segment c in let i = c.loop.invariant in search rules

pub pair_segment-requires : goal.pair_segment-requires
pair_segment-requires c = let l = (goal.at.pair_segment-requires c).In-loop in let S = segment l in let i = c.loop.invariant in search rules

pub overflow_mul-at : goal.overflow_mul-at
overflow_mul-at c = let l = (goal.at.overflow_mul-at c).In-loop in let S = segment l in let i = c.loop.invariant in search rules

pub overflow_add-at : goal.overflow_add-at
overflow_add-at c = let l = (goal.at.overflow_add-at c).In-loop in let S = segment l in let i = c.loop.invariant in search rules

pub overflow_mul-p : goal.overflow_mul-p
overflow_mul-p c = let l = (goal.at.overflow_mul-p c).In-loop in let S = segment l in let i = c.loop.invariant in search rules

pub overflow_add-p : goal.overflow_add-p
overflow_add-p c = let l = (goal.at.overflow_add-p c).In-loop in let S = segment l in let i = c.loop.invariant in search rules

pub overflow_mul-e : goal.overflow_mul-e
overflow_mul-e c = let l = (goal.at.overflow_mul-e c).In-loop in let S = segment l in let i = c.loop.invariant in search rules

pub loop-preserved : goal.loop-preserved
loop-preserved c =
    pairing_step _ _ _ _ c.args.word.now c.requires.0 _ _ _ _ _ _ c.loop.invariant c.loop-test.true _ (search rules) c.pair_segment.ensures

pub returns : goal.returns
returns c = pairing-done _ _ _ _ c.args.word.now c.requires.0 _ _ _ _ _ _ c.loop.invariant c.loop-test.false
