-- `folds::pairs` meets its contract. Assumes nothing.
use Rattle.std.proofs.Common.{rules}
use Rattle.folds_theory.proofs.Wholes.{First, first, pairs-done}
use Rattle.folds.proofs.pairs.Goals as goal
use Rattle.folds.proofs.pairs.Goals.{After-power-e}

-- what is known once n and e are there
known : (c : After-power-e) → First c.args.m.a c.args.m.b c.power-n.result c.power-e.result
known c = let h = c.requires in first _ _ _ _ h.0.few h.1 c.power-n.ensures c.power-e.ensures

pub overflow_sub-n : goal.overflow_sub-n
overflow_sub-n c = let F = known (goal.at.overflow_sub-n c).After-power-e in search rules

pub fold_first-requires : goal.fold_first-requires
fold_first-requires c = let F = known (goal.at.fold_first-requires c).After-power-e in search rules

pub levels-requires : goal.levels-requires
levels-requires c = let F = known (goal.at.levels-requires c).After-power-e in (search rules, search rules, F.count, F.evens)

pub returns : goal.returns
returns c =
    let f = c.fold_first.ensures in
    pairs-done _ _ _ _ (known (goal.at.returns c).After-power-e) _ _ _ _ (search rules) (f.sum, f.left) _ c.zero-x.ensures c.levels.ensures
