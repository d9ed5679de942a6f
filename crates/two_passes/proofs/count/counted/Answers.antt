-- `two_passes::count::counted` meets its contract: each count is at most their sum, which is not full. Assumes nothing.
use Rattle.coder_theory.proofs.Corrections.{counted-by}
use Rattle.two_passes.proofs.count.counted.Goals as goal

pub returns : goal.returns
returns c =
    counted-by _ _ _ c.requires.0 (rw c.code.ensures at c.width-width.ensures) _ _ _ c.add.ensures c.add-2.ensures c.add-3.ensures
