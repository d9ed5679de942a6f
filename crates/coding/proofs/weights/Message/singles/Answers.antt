-- `coding::weights::Message::singles` meets its contract. Assumes nothing.
use Rattle.std.proofs.Common.{◌≡◌, ℕ, ◌+◌, ◌-◌, ◌≤◌, length, take, drop, ◌*◌, ◌∙◌, refl, arith, rules, length-take-le, length-drop}
use Rattle.shortened_theory.specs.Code.{fill}
use Rattle.shortened_theory.proofs.Filling.{length-fill}
use Rattle.loops_theory.specs.Passing.{BitsIn}
use Rattle.loops_theory.proofs.Passing.{length-rest, singles-told}
use Rattle.loops_theory.proofs.Singles.{SingleAsks, singled-start, singled-asks, singled-end, singled-step, singled-done}
use Rattle.coding.proofs.weights.Message.singles.Goals as goal
use Rattle.coding.proofs.weights.Message.singles.Goals.{In-loop, After-loop}

pub loop-init : goal.loop-init
loop-init c = singled-start _ _ _ _ _ c.args.self.now.whole _ refl _ c.requires.0

-- what the next segment asks, and how long the filled word is
known : (l : In-loop)
    → let g = l.args.self.now in let d = g.filled.d in let w = fill d g.filled.word.now in let v = l.loop in
    SingleAsks w (g.part + g.m.a + 1) v.n v.at × (length w ≡ d + length g.filled.word.now) × (length v.v ≡ g.part + g.m.a + 1)
known l =
    let g = l.args.self.now in
    let i = l.loop.invariant in (
      singled-asks _ _ _ _ _ g.whole _ refl _ _ _ _ i l.loop-test.true,
      length-fill g.filled.d g.filled.word.now,
      i.wide,
    )

pub slice_bounds-single_segment-end : goal.slice_bounds-single_segment-end
slice_bounds-single_segment-end c = let k = known (goal.at.slice_bounds-single_segment-end c).In-loop in search rules

pub single_segment-requires : goal.single_segment-requires
single_segment-requires c =
    let k = known (goal.at.single_segment-requires c).In-loop in
    let b = k.0.bytes in
    let s = k.0.some in
    let f = k.0.fits in
    let v = c.loop in
    let r = c.requires.1 in
    let d = length-drop v.n v.v in
    let m : length (take (2 * v.n - v.n) (drop v.n v.v)) ≡ v.n = length-take-le (2 * v.n - v.n) (drop v.n v.v) (omega arith) ∙ omega arith in
    (omega arith, omega arith, omega arith)

pub loop-preserved : goal.loop-preserved
loop-preserved c = singled-step _ _ _ _ _ c.args.self.now.whole _ refl _ _ _ _ _ c.loop.invariant c.loop-test.true c.single_segment.ensures

-- what the bytes after the last segment ask
rest : (l : After-loop)
    → let g = l.args.self.now in let d = g.filled.d in let w = fill d g.filled.word.now in let e = g.part + g.m.a + 1 in let v = l.loop in
    (v.n ≤ e) × (v.at + (e - v.n) ≤ length w) × (length w ≡ d + length g.filled.word.now) × (length v.v ≡ e)
rest l =
    let g = l.args.self.now in
    let i = l.loop.invariant in
    let s = singled-end _ _ _ _ _ g.whole _ refl _ _ _ _ i l.loop-test.false in
    (s.0, s.1, length-fill g.filled.d g.filled.word.now, i.wide)

pub slice_bounds-bytes-count : goal.slice_bounds-bytes-count
slice_bounds-bytes-count c = let k = rest (goal.at.slice_bounds-bytes-count c).After-loop in search rules

pub slice_bounds-bytes-start : goal.slice_bounds-bytes-start
slice_bounds-bytes-start c = let k = rest (goal.at.slice_bounds-bytes-start c).After-loop in search rules

pub bytes-requires : goal.bytes-requires
bytes-requires c =
    let k = rest (goal.at.bytes-requires c).After-loop in
    let v = c.loop in
    let r = c.requires.1 in
    let m = length-rest v.v v.n in
    (omega arith, omega arith)

pub returns : goal.returns
returns c =
    let g = c.args.self.now in
    let L = c.args.self.now.whole in
    let w = fill g.filled.d g.filled.word.now in
    let s = singled-done _ _ _ _ _ L _ refl _ _ _ _ _ c.loop.invariant c.loop-test.false c.bytes.ensures in
    let k : ℕ = c.min.result in
    let m : k ≤ g.seen = search rules in
    let f : BitsIn w 0 k = λ i a l. g.tested i a (omega arith) in
    record {
      told = singles-told _ _ _ _ w L _ s k f _ c.bits.ensures;
      laid = s;
    }
