-- `coding::weights::Message::sum` meets its contract. Assumes nothing.
use Rattle.std.proofs.Common.{arith}
use Rattle.folds_theory.proofs.Levelling.{holds-within}
use Rattle.coding.proofs.weights.Message.sum.Goals as goal

pub summed-requires : goal.summed-requires
summed-requires g c = let r = c.requires in (r, holds-within 6 _ _ _ (omega arith) (omega arith) (omega arith) (omega arith))

pub summed-requires-then-t-le10 : goal.summed-requires-then-t-le10
summed-requires-then-t-le10 g c = let r = c.requires in (r, holds-within 10 _ _ _ (omega arith) (omega arith) (omega arith) (omega arith))

pub summed-requires-2 : goal.summed-requires-2
summed-requires-2 g c = let r = c.requires in (r, holds-within 12 _ _ _ (omega arith) c.args.self.now.whole.few (omega arith) (omega arith))
