-- `coding::weights::Message::pairs` meets its contract. Assumes nothing.
use Rattle.std.proofs.Common.{◌≡◌, ◌+◌, ◌-◌, ◌*◌, ◌%◌, ◌≤◌, true, length, refl, subst, sym, ◌∙◌, arith, rules, take_all}
use Rattle.layout_theory.proofs.Parameters.{shift_one}
use Rattle.folds_theory.specs.Folds.{room}
use Rattle.shortened_theory.specs.Code.{fill}
use Rattle.shortened_theory.proofs.Filling.{length-fill}
use Rattle.loops_theory.specs.Passing.{BitsIn}
use Rattle.loops_theory.proofs.Laying.{Segment, pairing-start, pairing-asks, pairing-done}
use Rattle.loops_theory.proofs.Passing.{bits-join, pairs_end}
use Rattle.loops_theory.proofs.Singles.{part-room, in-all, length-segment, pairing-next, pairing-said}
use Rattle.coding.proofs.weights.Message.pairs.Goals as goal
use Rattle.coding.proofs.weights.Message.pairs.Goals.{In-loop}

pub loop-init : goal.loop-init
loop-init c =
    let h = c.requires in
    let few = c.args.self.now.whole.few in
    (pairing-start _ _ _ _ _ c.args.self.now.whole _ _ (shift_one c.args.self.now.m.a 64 (omega arith)) (record { enough = omega arith; most = h.1 }), λ i k l. absurd (omega arith))

-- what the next segment asks, how long the filled word is, and where its pairs begin
known : (l : In-loop)
    → let g = l.args.self.now in let d = g.filled.d in let w = fill d g.filled.word.now in let v = l.loop in
    Segment g.m.a g.m.b g.count g.part w g.whole v.p v.e v.at v.counter × (length w ≡ d + length g.filled.word.now) × ((d - v.at) % 2 ≡ 0) × (2 * (4 * v.p + v.e) ≤ length v.v)
known l =
    let g = l.args.self.now in
    let i = l.loop.invariant.0 in (
      pairing-asks _ _ _ _ _ g.whole _ _ _ _ _ _ i l.loop-test.true,
      length-fill g.filled.d g.filled.word.now,
      (let z = i.place in let k = i.rises in let e = g.ends in omega arith),
      in-all _ _ _ _ _ g.whole _ _ _ _ _ _ i l.loop-test.true,
    )

pub overflow_mul-q : goal.overflow_mul-q
overflow_mul-q c = let k = known (goal.at.overflow_mul-q c).In-loop in search rules

pub overflow_add-q : goal.overflow_add-q
overflow_add-q c = let k = known (goal.at.overflow_add-q c).In-loop in search rules

pub overflow_mul-p : goal.overflow_mul-p
overflow_mul-p c = let k = known (goal.at.overflow_mul-p c).In-loop in search rules

pub overflow_mul-q-in-loop : goal.overflow_mul-q-in-loop
overflow_mul-q-in-loop c = let k = known (goal.at.overflow_mul-q-in-loop c).In-loop in search rules

pub slice_bounds-pair_segment-end : goal.slice_bounds-pair_segment-end
slice_bounds-pair_segment-end c = let k = known (goal.at.slice_bounds-pair_segment-end c).In-loop in search rules

pub pair_segment-requires : goal.pair_segment-requires
pair_segment-requires c =
    let k = known (goal.at.pair_segment-requires c).In-loop in
    let v = c.loop in
    let l = length-segment v.p (4 * v.p + v.e) (3 * v.p + v.e - 1) v.v (omega arith) k.3 in
    let b = k.0.bytes in
    let w = v.invariant.0.wide in
    let m = v.invariant.0.holds.most in
    (omega arith, omega arith, omega arith, omega arith, k.2)

pub overflow_add-at : goal.overflow_add-at
overflow_add-at c =
    let k = known (goal.at.overflow_add-at c).In-loop in
    let v = c.loop in
    let i = v.invariant.0.place in
    let p = part-room _ _ _ _ _ c.args.self.now.whole _ refl in
    let w = v.invariant.0.wide in
    let m = v.invariant.0.holds.most in
    let z : v.at + 2 * (4 * v.p + v.e - v.p - 1) ≤ 2 * room = omega arith in
    search rules

pub loop-preserved : goal.loop-preserved
loop-preserved c =
    let g = c.args.self.now in
    let w = fill g.filled.d g.filled.word.now in
    let L = c.args.self.now.whole in
    let i = c.loop.invariant in
    let h = c.loop-test.true in (
      pairing-next _ _ _ _ w L _ _ _ _ _ _ i.0 h _ c.pair_segment.ensures.laid,
      bits-join w _ _ _ i.1 (pairing-said _ _ _ _ w L _ _ _ _ _ _ i.0 h true (λ k a l. c.if-not-pair_segment.ensures.told k a l)),
    )

pub returns : goal.returns
returns c =
    let g = c.args.self.now in
    let w = fill g.filled.d g.filled.word.now in
    let L = c.args.self.now.whole in
    let i = c.loop.invariant in
    let h = c.requires in
    let l = c.loop.auto.v in
    record {
      told = subst (BitsIn w g.part) (pairs_end _ _ _ _ w L _ _ _ _ _ _ i.0 c.loop-test.false) i.1;
      laid = λ t. sym (take_all _ _ (omega arith)) ∙ pairing-done _ _ _ _ w L _ _ _ _ _ _ i.0 c.loop-test.false;
    }
