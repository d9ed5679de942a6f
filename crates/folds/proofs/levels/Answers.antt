-- `folds::levels` meets its contract. Assumes nothing.
use Rattle.std.proofs.Common.{◌*◌, ◌≤◌, length, rules, refl, sym}
use Rattle.std.proofs.Math.Seq.{length-take-le}
use Rattle.folds_theory.proofs.Levelling.{levelling-start, round, levelling-step, levelling-asks, levelling-done}
use Rattle.folds.proofs.levels.Goals as goal
use Rattle.folds.proofs.levels.Goals.{After-loop-j}

-- what is left in the end has its weights
fits : (c : After-loop-j) → 2 * c.loop-j.n ≤ length c.loop-j.v
fits c = (levelling-asks _ _ _ _ _ _ _ _ _ _ c.loop-j.invariant c.loop-j-test.false).2

pub loop-j-init : goal.loop-j-init
loop-j-init c = levelling-start _ _ _ _ _ _ _ c.requires (search rules)

pub overflow_sub-n : goal.overflow_sub-n
overflow_sub-n c = let R = round _ _ _ _ _ _ _ _ _ _ c.loop-j.invariant c.loop-j-test.true in search rules

pub fold-requires : goal.fold-requires
fold-requires c = let R = round _ _ _ _ _ _ _ _ _ _ c.loop-j.invariant c.loop-j-test.true in let i = c.loop-j.invariant in search rules

pub loop-j-preserved : goal.loop-j-preserved
loop-j-preserved c =
    let f = c.fold.ensures in levelling-step _ _ _ _ _ _ _ _ _ _ c.loop-j.invariant c.loop-j-test.true _ _ (f.sum, f.left) (search rules)

pub overflow_mul-n : goal.overflow_mul-n
overflow_mul-n c = let h = fits c in search rules

pub slice_bounds-halves-end : goal.slice_bounds-halves-end
slice_bounds-halves-end c = fits (goal.at.slice_bounds-halves-end c).After-loop-j

pub slice_bounds-halves-end-2 : goal.slice_bounds-halves-end-2
slice_bounds-halves-end-2 c = sym (length-take-le _ _ (fits (goal.at.slice_bounds-halves-end-2 c).After-loop-j))

pub returns : goal.returns
returns c = levelling-done _ _ _ _ _ _ _ _ _ _ c.loop-j.invariant c.loop-j-test.false _ _ refl c.halves.ensures
