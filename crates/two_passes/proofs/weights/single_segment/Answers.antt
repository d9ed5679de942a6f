-- `two_passes::weights::single_segment` meets its contract. Assumes nothing.
use mathlib.Core.Path.{refl}
use native.Mathlib.Omega.{arith}
use Rattle.loops_theory.proofs.Laying.{single-done}
use Rattle.two_passes.proofs.weights.single_segment.Goals as goal

pub returns : goal.returns
returns c =
    let h = c.requires in
    single-done _ _ _ c.args.word.now c.args.k c.args.n c.args.at (omega arith) refl c.bytes.ensures
