-- `coding::weights::Message::summed` meets its contract. Assumes nothing.
use Rattle.std.proofs.Common.{List, ℕ, ◌≤◌, get_or, refl, ap, ap₂, subst, ◌∙◌}
use Rattle.group_theory.specs.Group.{moduli}
use Rattle.group.specs.declared.Moduli.{Moduli}
use Rattle.layout_theory.specs.Layout.{message}
use Rattle.folds_theory.specs.Folds.{weighted_for}
use Rattle.words_theory.specs.Syndrome.{syndrome_over}
use Rattle.shortened_theory.specs.Code.{fill}
use Rattle.loops_theory.proofs.Segments.{weights-sum}
use Rattle.coding.proofs.weights.Message.summed.Goals as goal

pub returns-then-good : goal.returns-then-good
returns-then-good g c =
    let s = c.args.self.now in
    let ms = moduli s.m.a s.m.b in
    let e = ap₂ fill c.cut.ensures.0 c.cut.ensures.1 in (
      λ i h l. subst (λ (w : List ℕ). get_or w i 0 ≤ 1) e (c.if-good.ensures.told i h l),
      c.weighted-sum.ensures
          ∙ ap (λ (m : Moduli). weighted_for g.row.N m.a m.b c.lay-good.new.v) (c.moduli_if.ensures.whole c.if-good.true)
          ∙ weights-sum _ _ _ _ _ _ _ c.requires.1 s.whole.front s.whole.all (c.if-good.ensures.laid refl)
          ∙ ap (syndrome_over ms (message ms)) e,
    )
