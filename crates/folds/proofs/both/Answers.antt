-- `folds::both` meets its contract. Assumes nothing.
use Rattle.std.proofs.Common.{rules, refl}
use Rattle.folds_theory.proofs.Wholes.{Shares, shares, both-sum, singles-only}
use Rattle.folds.proofs.both.Goals as goal
use Rattle.folds.proofs.both.Goals.{After-power-e}

-- what is known once n and e are there
known : (c : After-power-e) → Shares c.args.m.a c.args.m.b c.power-n.result c.power-e.result
known c = shares _ _ _ _ c.requires.few c.power-n.ensures c.power-e.ensures

pub overflow_sub-n : goal.overflow_sub-n
overflow_sub-n c = let S = known (goal.at.overflow_sub-n c).After-power-e in search rules

pub slice_bounds-halves-end : goal.slice_bounds-halves-end
slice_bounds-halves-end c = let S = known (goal.at.slice_bounds-halves-end c).After-power-e in search rules

pub returns-then-m-eq0 : goal.returns-then-m-eq0
returns-then-m-eq0 c =
    singles-only _ _ _ _ (known (goal.at.returns-then-m-eq0 c).After-power-e) c.if-m-eq0.true c.power-n.ensures c.power-e.ensures _ _ _ _ (search rules) c.zero.ensures refl c.halves-x.ensures

pub returns : goal.returns
returns c =
    both-sum _ _ _ _ (known (goal.at.returns c).After-power-e) _ (search rules) _ _ _ _ _ _ _ c.zero.ensures refl c.halves-x.ensures refl c.pairs-y.ensures c.add.ensures
