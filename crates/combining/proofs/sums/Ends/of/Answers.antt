-- `combining::sums::Ends::of` meets its contract. Assumes nothing.
use borrow.Author.Rules.{rules}
use Rattle.layout_theory.proofs.Parameters.{Sizes}
use Rattle.words_theory.proofs.Shapes.{sizes}
use Rattle.loops_theory.specs.Writing.{Cut}
use Rattle.combining.proofs.Parts.{cut-of, ends-are}
use Rattle.combining.proofs.sums.Ends.of.Goals as goal
use Rattle.combining.proofs.sums.Ends.of.Goals.{After-shape-h}

-- what the shape in hand says of the layout
cut : (c : After-shape-h) → Cut c.shape-h.result c.args.code.s
cut c = cut-of _ _ _ c.shape-h.ensures c.requires

numbers : (c : After-shape-h) → Sizes c.shape-h.result
numbers c = sizes c.shape-h.result (cut c).code (cut c).some

pub overflow_sub-h : goal.overflow_sub-h
overflow_sub-h c = let z = numbers (goal.at.overflow_sub-h c).After-shape-h in search rules

pub overflow_add-result : goal.overflow_add-result
overflow_add-result c = let z = numbers (goal.at.overflow_add-result c).After-shape-h in search rules

pub overflow_sub-result : goal.overflow_sub-result
overflow_sub-result c =
    let k = cut (goal.at.overflow_sub-result c).After-shape-h in
    let l = k.stays in
    let z = numbers (goal.at.overflow_sub-result c).After-shape-h in
    search rules

pub returns : goal.returns
returns c = ends-are _ _ _ _ c.shape-h.ensures c.requires c.saturating_sub.ensures
