-- `two_passes::weights::lay` meets its contract. Assumes nothing.
use mathlib.Core.Path.{ap, ◌∙◌}
use mathlib.Core.Bool.{false}
use mathlib.Core.List.{List, ◌++◌}
use Prim.Native.Nat.{ℕ}
use Rattle.group_theory.specs.Group.{moduli}
use Rattle.blocks_theory.specs.Blocks.{even, level}
use Rattle.loops_theory.specs.Spread.{spread}
use Rattle.two_passes.proofs.weights.lay.Goals as goal

pub returns : goal.returns
returns c =
    let g = c.args in
    c.singles.ensures ∙ ap (λ (u : List ℕ). u ++ spread false (moduli g.a g.b) (even (level g.a g.b g.b)) g.word.now) c.pairs.ensures
