-- `two_passes::whole::syndrome` meets its contract: zero, or the message's part and the check's. Assumes nothing.
use mathlib.Core.Path.{ap, ap₂, ◌∙◌}
use Prim.Native.Nat.{◌-◌}
use native.Mathlib.Omega.{arith}
use lib.ListN.{length, drop, length-drop}
use lib.Seq.{length-take-le}
use Rattle.std.proofs.lemmas.Slice.{between_to_end}
use Rattle.group_theory.specs.Group.{moduli, sum}
use Rattle.layout_theory.specs.Layout.{units}
use Rattle.layout_theory.proofs.Parameters.{Known, known, Sizes, sizes-known}
use Rattle.words_theory.specs.Syndrome.{syndrome_over}
use Rattle.loops_theory.proofs.Answers.{syndrome-sum}
use Rattle.two_passes.proofs.Answers.{syndrome-none, syndrome-short, syndrome-long}
use Rattle.two_passes.proofs.whole.syndrome.Goals as goal
use Rattle.two_passes.proofs.whole.syndrome.Goals.{Else-n-eq0, then-n-eq0-via-then-n-eq0, then-n-eq0-via-else-n-eq0+then-word-n}

pub returns-then-n-eq0 : goal.returns-then-n-eq0
returns-then-n-eq0 c =
    c.zero-none.ensures
    ∙ elim c.then-n-eq0.branch [
      | then-n-eq0-via-then-n-eq0 w ↦ syndrome-none _ _ _ _ c.shape-h.ensures w.if-n-eq0.true
      | then-n-eq0-via-else-n-eq0+then-word-n w ↦ syndrome-short _ _ _ _ (known _ _ _ c.shape-h.ensures (let h = w.if-n-eq0.false in omega arith)) w.if-word-n.true
    ]

-- past the tests the parameters are admitted
shaped : (c : Else-n-eq0) → Known c.args.code.t c.args.code.r c.shape-h.result
shaped c = known _ _ _ c.shape-h.ensures (let h = c.if-n-eq0.false in omega arith)

sizes : (c : Else-n-eq0) → Sizes c.shape-h.result
sizes c = sizes-known _ _ _ (shaped c)

pub new-requires : goal.new-requires
new-requires c =
    let q = (goal.at.new-requires c).Else-n-eq0 in
    let z = sizes q in
    let h = c.if-n-eq0.false in
    ((_, _, c.shape-h.ensures), omega arith, omega (arith, z.check))

pub slice_bounds-read-count : goal.slice_bounds-read-count
slice_bounds-read-count c = let z = sizes (goal.at.slice_bounds-read-count c).Else-n-eq0 in omega (arith, z.check)

pub slice_bounds-read-start : goal.slice_bounds-read-start
slice_bounds-read-start c = let z = sizes (goal.at.slice_bounds-read-start c).Else-n-eq0 in omega (arith, z.check)

pub read-y-requires : goal.read-y-requires
read-y-requires c =
    let z = sizes (goal.at.read-y-requires c).Else-n-eq0 in
    let h = c.shape-h.result in
    let w = c.args.word.now in
    (z.room, omega (arith, z.check, length-drop h.message w, length-take-le (length w - h.message) (drop h.message w) (omega (arith, length-drop h.message w))))

pub returns : goal.returns
returns c =
    let k = shaped (goal.at.returns c).Else-n-eq0 in
    let h = c.shape-h.result in
    let w = c.args.word.now in
    let n = c.new.ensures in
    c.add.ensures
    ∙ ap₂ (sum (moduli h.a h.b)) (rw (n.0, n.1, n.2) at c.sum-x.ensures)
    (c.read-y.ensures ∙ ap (syndrome_over (moduli h.a h.b) (units (moduli h.a h.b))) (between_to_end w h.message _ (omega arith)))
    ∙ syndrome-sum _ _ w h k ∙ syndrome-long _ _ _ _ k (omega arith)
