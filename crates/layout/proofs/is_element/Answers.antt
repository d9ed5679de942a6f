-- `layout::is_element` meets its contract: the moduli are 2, then 4, then 1. Assumes nothing.
use borrow.Author.Rules.{rules}
use mathlib.Core.Path.{◌≡◌, sym, ◌∙◌}
use mathlib.Core.Bool.{true≢false, false≢true}
use lib.ListN.{length}
use Rattle.blocks_theory.proofs.Locate.{slices-valid, valid-slices}
use Rattle.layout.proofs.is_element.Goals as goal
use Rattle.layout.proofs.is_element.Goals.{then-all_below, else-all_below}

pub returns-then-all_below-2 : goal.returns-then-all_below-2
returns-then-all_below-2 c =
    let g = c.args in
    let l : length g.x ≡ 12 = search rules in
    let last = c.all_below-then-all_below-2.ensures in
    elim c.if-all_below.branch [
      | then-all_below w ↦ (
        λ e. slices-valid g.m.a g.m.b c.requires g.x l (c.all_below.ensures.0 w.if-all_below.true)
            (w.all_below-then-all_below.ensures.0 (sym w.value-is ∙ c.if-all_below-2.true)) (last.0 e),
        λ v. last.1 (valid-slices g.m.a g.m.b c.requires g.x l v).2,
      )
      | else-all_below w ↦ absurd (false≢true (sym w.if-all_below.false ∙ sym w.value-is ∙ c.if-all_below-2.true))
    ]

pub returns-else-all_below-2 : goal.returns-else-all_below-2
returns-else-all_below-2 c =
    let g = c.args in
    let l : length g.x ≡ 12 = search rules in (
      λ e. absurd (true≢false (sym e ∙ c.if-all_below-2.false)),
      λ v.
          (let s = valid-slices g.m.a g.m.b c.requires g.x l v in
          elim c.if-all_below.branch [
            | then-all_below w ↦ w.value-is ∙ w.all_below-then-all_below.ensures.1 s.1
            | else-all_below w ↦ w.value-is ∙ c.all_below.ensures.1 s.0
          ]),
    )
