-- `two_passes::weights::pair_segment` meets its contract. Assumes nothing.
use borrow.Author.Rules.{rules}
use mathlib.Core.Path.{refl}
use native.Mathlib.Omega.{arith}
use Rattle.two_passes.proofs.Segments.{pairs-none, pairs-some}
use Rattle.two_passes.proofs.weights.pair_segment.Goals as goal

pub returns-then-n-eq0 : goal.returns-then-n-eq0
returns-then-n-eq0 c =
    let h = c.requires in
    pairs-none _ _ _ c.args.word.now c.args.p c.args.n c.args.at c.if-n-eq0.true h.1 refl refl

pub returns : goal.returns
returns c =
    let h = c.requires in
    let k = c.if-n-eq0.false in
    pairs-some _ _ _ _ _ c.args.word.now c.args.p c.args.n c.args.at (omega arith) h.1 refl refl (search rules) c.digits.ensures refl
