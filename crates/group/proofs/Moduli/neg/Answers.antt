-- `group::Moduli::neg` meets its contract. Assumes nothing.
use mathlib.Core.Path.{◌∙◌}
use Rattle.group_theory.specs.Group.{moduli}
use Rattle.group_theory.proofs.Laws.{times-three}
use Rattle.group.proofs.Moduli.neg.Goals as goal

pub returns : goal.returns
returns c =
    let g = c.args in
    c.multiple.ensures ∙ times-three (moduli g.self.a g.self.b) g.x
