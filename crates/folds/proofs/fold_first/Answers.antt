-- `folds::fold_first` meets its contract. Assumes nothing.
use Rattle.folds_theory.proofs.Parts.{first-done}
use Rattle.folds.proofs.fold_first.Goals as goal

pub returns : goal.returns
returns c =
    let z = c.split_at_mut-zero.ensures in
    let g = c.gather_three-c.ensures in
    let d = first-done c.args.p c.args.m _ _ _ _ _ _ z.front z.back (g.sum, g.left) c.total.ensures in
    record { sum = d.0; left = d.1 }
