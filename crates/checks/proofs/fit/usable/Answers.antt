-- `checks::fit::usable` meets its contract: the lengths of the record's shape without the s places that are left out. Assumes nothing.
use mathlib.Core.Path.{◌≡◌, sym, ap}
use Rattle.layout_theory.specs.Calls.{shape_for}
use Rattle.coder_theory.specs.declared.Answer.{Answer}
use Rattle.coder_theory.proofs.Answers.{shape-places, shape-message, shape-still}
use Rattle.coder_theory.proofs.States.{Clear, state-clear}
use Rattle.checks.proofs.fit.usable.Goals as goal
use Rattle.checks.proofs.fit.usable.Goals.{After-shape-shape}

-- past the first step the record is usable, and the shape is that of its code
clear : (c : After-shape-shape) → Clear c.args.«record»
clear c = state-clear _ (sym (ap (λ (a : Answer). a.refusal) c.in_ok-state.ensures))

shape : (c : After-shape-shape) → c.shape-shape.result ≡ shape_for c.args.«record».t c.args.«record».r
shape c = rw c.code.ensures at c.shape-shape.ensures

pub overflow_sub-result : goal.overflow_sub-result
overflow_sub-result c = let q = (goal.at.overflow_sub-result c).After-shape-shape in (shape-still _ (clear q) _ (shape q)).0

pub overflow_sub-result-2 : goal.overflow_sub-result-2
overflow_sub-result-2 c = let q = (goal.at.overflow_sub-result-2 c).After-shape-shape in (shape-still _ (clear q) _ (shape q)).1

pub returns-clause-size : goal.returns-clause-size
returns-clause-size c =
    let q = (goal.at.returns-clause-size c).After-shape-shape in
    (shape-places _ (clear q) _ (shape q), shape-message _ (clear q) _ (shape q))
