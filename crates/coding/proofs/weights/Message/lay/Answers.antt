-- `coding::weights::Message::lay` meets its contract. Assumes nothing.
use Rattle.std.proofs.Common.{◌≡◌, ℕ, ◌+◌, ◌-◌, ◌≤◌, length, ◌++◌, take, drop, sym, refl, ◌∙◌, ap, ap₂, arith, rules, length-take-le, length-drop}
use Rattle.folds_theory.specs.Folds.{room}
use Rattle.shortened_theory.specs.Code.{fill}
use borrow.Rule.Slice.PartMut.{put_mid, take_put}
use Rattle.loops_theory.specs.Spread.{message_in}
use Rattle.loops_theory.proofs.Laying.{SinglesRoom, room_for}
use Rattle.loops_theory.proofs.Passing.{tells-pairs}
use Rattle.loops_theory.proofs.Parts.{put_before}
use Rattle.coding.proofs.weights.Message.lay.Goals as goal
use Rattle.coding.proofs.weights.Message.lay.Goals.{Start}

-- how many weights there are of each kind
room_at : (b : Start)
    → let g = b.args.self.now in
    SinglesRoom g.m.a g.m.b g.count g.part (fill g.filled.d g.filled.word.now) g.whole (g.part + g.m.a + 1) (g.count - (g.part + g.m.a + 1))
room_at b = let g = b.args.self.now in room_for g.m.a g.m.b g.count g.part (fill g.filled.d g.filled.word.now) g.whole _ _ refl refl

-- the weights of the singles stand behind those of the pairs, and there is room for both
placed : (b : Start)
    → let g = b.args.self.now in
    let e = g.part + g.m.a + 1 in
    (g.count - e + e ≡ g.count) × (g.count ≤ length b.args.v.now) × (length b.args.v.now ≤ room)
placed b = let R = room_at b in let s = R.fits in let en = b.requires.enough in (R.whole, omega arith, b.requires.most)

pub overflow_sub-start : goal.overflow_sub-start
overflow_sub-start c = let R = room_at (goal.at.overflow_sub-start c).Start in let w = R.whole in let s = R.space in search rules

pub singles-requires : goal.singles-requires
singles-requires c =
    let g = c.args.self.now in
    let v = c.args.v.now in
    let k = placed (goal.at.singles-requires c).Start in
    let start = g.count - (g.part + g.m.a + 1) in
    let d = length-drop start v in
    let l : length (take (g.count - start) (drop start v)) ≡ g.part + g.m.a + 1 = length-take-le (g.count - start) (drop start v) (omega arith) ∙ omega arith in
    (l, omega arith)

pub pairs-requires : goal.pairs-requires
pairs-requires c =
    let g = c.args.self.now in
    let v = c.args.v.now in
    let b = (goal.at.pairs-requires c).Start in
    let p = (room_at b).pairs in
    let k = placed b in
    let start = g.count - (g.part + g.m.a + 1) in
    let n : start ≤ length v = omega arith in
    let l : length (take start (put_mid start (g.count - start) v c.singles.new.v)) ≡ start = ap length (take_put start (g.count - start) v c.singles.new.v n) ∙ length-take-le start v n in
    (l ∙ p, omega arith)

pub returns-then-singles : goal.returns-then-singles
returns-then-singles c =
    let g = c.args.self.now in
    let v = c.args.v.now in
    let W = fill g.filled.d g.filled.word.now in
    let k = placed (goal.at.returns-then-singles c).Start in
    let start = g.count - (g.part + g.m.a + 1) in
    let n : start ≤ length v = omega arith in
    let d = length-drop start v in
    let z : start + (g.count - start) ≡ g.count = omega arith in
    let u = put_mid start (g.count - start) v c.singles.new.v in
    let lp : length c.pairs.new.v ≡ start = c.pairs.auto.v ∙ ap length (take_put start (g.count - start) v c.singles.new.v n) ∙ length-take-le start v n in
    let ls : length c.singles.new.v ≡ g.count - start = c.singles.auto.v ∙ length-take-le (g.count - start) (drop start v) (omega arith) in
    record {
      told = tells-pairs W g.part (message_in g.m.a g.m.b) c.pairs.result (λ i a b. c.if-singles.ensures.told i a b) c.pairs.ensures.told;
      laid = λ e. ap (λ (i : ℕ). take i (c.pairs.new.v ++ drop start u)) (sym z) ∙ put_before start (g.count - start) v c.pairs.new.v c.singles.new.v n lp ls ∙ ap₂ ◌++◌ (c.pairs.ensures.laid e) c.if-singles.ensures.laid;
    }
