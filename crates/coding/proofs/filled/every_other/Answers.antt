-- `coding::filled::every_other` meets its contract. Assumes nothing.
use Rattle.std.proofs.Common.{◌%◌, arith}
use Rattle.loops_theory.proofs.Laying.{masked}
use Rattle.coding.proofs.filled.every_other.Goals as goal

pub returns : goal.returns
returns c = let i = c.args.i in masked _ (i % 2) (omega arith)
