-- `two_passes::weights::Message::sum` meets its contract: each array holds a weight for each element of the codes that it is taken for. Assumes nothing.
use borrow.Author.Rules.{rules}
use Rattle.folds_theory.proofs.Levelling.{holds-within}
use Rattle.two_passes.proofs.weights.Message.sum.Goals as goal

pub summed-requires : goal.summed-requires
summed-requires c = holds-within 6 _ _ _ (search rules) c.if-t-le6.true (search rules) (search rules)

pub summed-requires-then-t-le10 : goal.summed-requires-then-t-le10
summed-requires-then-t-le10 c = holds-within 10 _ _ _ (search rules) c.if-t-le10.true (search rules) (search rules)

pub summed-requires-2 : goal.summed-requires-2
summed-requires-2 c = holds-within 12 _ _ _ (search rules) c.args.self.now.whole.few (search rules) (search rules)
