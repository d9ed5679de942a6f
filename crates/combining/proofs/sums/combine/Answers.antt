-- `combining::sums::combine` meets its contract: the four parts of the layout, as much of them as is left, are written one after the other.
-- Assumes nothing.
use native.Mathlib.Omega.{arith}
use Rattle.combining.proofs.Parts.{two-front, two-mid, four-mid, four-ends}
use Rattle.combining.proofs.sums.combine.Goals as goal

pub returns : goal.returns
returns c =
    let e = c.of-part.ensures in
    let x = c.args.first.now in
    let y = c.args.second.now in
    four-ends _ _ c.requires.cut x y _ _ _ _ e _ _ _ _ _ c.requires.room
    (two-front x y _ _ _ (omega arith) c.singles.auto.out c.singles.ensures)
    (four-mid x y _ _ _ _ e.one_two (omega arith) c.pairs.auto.out e.pairs c.pairs.ensures)
    (two-mid x y _ _ _ _ e.two_three (omega arith) c.singles-2.auto.out c.singles-2.ensures)
    (four-mid x y _ _ _ _ e.three_four (omega arith) c.pairs-2.auto.out e.check_pairs c.pairs-2.ensures)
