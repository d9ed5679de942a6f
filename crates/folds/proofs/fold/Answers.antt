-- `folds::fold` meets its contract. Assumes nothing.
use Rattle.folds_theory.proofs.Parts.{fold-done}
use Rattle.folds.proofs.fold.Goals as goal

pub returns : goal.returns
returns c =
    let z = c.split_at_mut-zero.ensures in
    let o = c.split_at_mut-one.ensures in
    let g = c.gather-c.ensures in
    let h = c.gather.ensures in
    let d = fold-done _ _ _ c.requires _ _ _ _ _ _ _ _ z.front z.back o.front o.back (g.sum, g.left) (h.sum, h.left) in
    record { sum = d.0; left = d.1 }
