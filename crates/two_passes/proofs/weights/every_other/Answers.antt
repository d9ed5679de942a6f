-- `two_passes::weights::every_other` meets its contract. Assumes nothing.
use Prim.Native.Nat.{◌%◌}
use native.Mathlib.Omega.{arith}
use Rattle.loops_theory.proofs.Laying.{masked}
use Rattle.two_passes.proofs.weights.every_other.Goals as goal

pub returns : goal.returns
returns c = let i = c.args.i in masked _ (i % 2) (omega arith)
