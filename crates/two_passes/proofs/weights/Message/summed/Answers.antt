-- `two_passes::weights::Message::summed` meets its contract. Assumes nothing.
use mathlib.Core.Path.{◌∙◌}
use Prim.Native.Nat.{ℕ}
use lib.ListN.{length-replicate}
use Rattle.loops_theory.proofs.Segments.{weights-sum}
use Rattle.two_passes.proofs.weights.Message.summed.Goals as goal

pub lay-requires : goal.lay-requires
lay-requires g c = (c.args.self.now.whole, rw (length-replicate {A = ℕ} g.row.N 0) c.requires)

pub returns : goal.returns
returns g c =
    let w = c.args.self.now.whole in
    c.weighted.ensures ∙ weights-sum _ _ _ _ _ _ _ c.requires w.front w.all c.lay.ensures
