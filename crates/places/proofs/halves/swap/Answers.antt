-- `places::halves::swap` meets its contract. The invariant: the inverse is written over the first i bytes. Assumes nothing.
use borrow.Author.Rules.{rules}
use mathlib.Core.Path.{◌≡◌, sym, ap, ◌∙◌}
use Prim.Native.Nat.{◌+◌, ◌-◌, ◌<◌, ◌≤◌}
use native.Mathlib.Omega.{arith}
use Rattle.layout_theory.specs.declared.Shape.{Shape}
use Rattle.layout_theory.proofs.Parameters.{Sizes}
use Rattle.words_theory.proofs.Shapes.{sizes}
use Rattle.loops_theory.specs.Writing.{Cut}
use Rattle.loops_theory.proofs.Writing.{write-none, write_step, write-end}
use Rattle.loops_theory.proofs.Cuts.{length_cut, index_kept, byte_cut}
use Rattle.places.proofs.halves.swap.Goals as goal
use Rattle.places.proofs.halves.swap.Goals.{After-other_index, After-shape-h, In-loop-i}

-- what the shape in hand says of the layout, and that fewer places are left out than there are
cut : (c : After-shape-h) → Cut c.shape-h.result c.args.code.s
cut c = rw c.shape-h.ensures c.requires.cut

fewer : (c : After-shape-h) → c.args.code.s < c.shape-h.result.places
fewer c = let k = cut c in let z : Sizes c.shape-h.result = sizes _ k.code k.some in omega (arith, z.check, k.stays)

pub overflow_sub-i-end : goal.overflow_sub-i-end
overflow_sub-i-end c = let f = fewer (goal.at.overflow_sub-i-end c).After-shape-h in search rules

pub loop-i-init : goal.loop-i-init
loop-i-init c = write-none _ _

-- the old index of a place, and the index that is read
inside : (c : In-loop-i) → c.args.code.s + c.loop-i.i < c.shape-h.result.places
inside c = let f = fewer (goal.at.In-loop-i c).After-shape-h in let h = c.loop-i-test.true in omega arith

kept : (c : After-other_index) → c.args.code.s ≤ c.other_index.result
kept c =
    (index_kept c.shape-h.result c.args.code.s (cut (goal.at.After-other_index c).After-shape-h) c.args.word.now c.loop-i.i c.other_index.result (inside (goal.at.After-other_index c).In-loop-i) c.other_index.ensures.at).0

pub overflow_sub-j : goal.overflow_sub-j
overflow_sub-j c = kept c

pub loop-i-preserved : goal.loop-i-preserved
loop-i-preserved c =
    let l = c.loop-i in
    let w = c.args.word.now in
    let k = cut (goal.at.loop-i-preserved c).After-shape-h in
    let n = length_cut c.shape-h.result c.args.code.s k w in
    let t = c.loop-i-test.true in
    let e = ap (λ (h : Shape). h.places) c.shape-h.ensures in
    write_step _ _ _ _ _ l.invariant (omega arith) (omega (arith, c.requires.room))
    (byte_cut c.shape-h.result c.args.code.s k w l.i c.other_index.result (inside (goal.at.loop-i-preserved c).In-loop-i) c.other_index.ensures.at)

pub returns : goal.returns
returns c =
    let n = length_cut c.shape-h.result c.args.code.s (cut (goal.at.returns c).After-shape-h) c.args.word.now in
    let l = c.loop-i in
    let t = c.loop-i-test.false in
    let e : l.i ≡ c.shape-h.result.places - c.args.code.s = omega (arith, l.invariant.within) in
    rw (← c.shape-h.ensures, ← e) (write-end _ _ _ _ l.invariant (e ∙ sym n))
