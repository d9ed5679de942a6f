-- `coding::filled::last_pair` meets its contract. Assumes nothing.
use Rattle.loops_theory.proofs.Passing.{highest-two}
use Rattle.loops_theory.proofs.Parts.{two-laid}
use Rattle.coding.proofs.filled.last_pair.Goals as goal

pub returns : goal.returns
returns c =
    record {
      most = highest-two _ _ _ c.max.ensures;
      laid = two-laid _ _ _ c.requires.1 c.requires.0 c.digit.ensures;
    }
