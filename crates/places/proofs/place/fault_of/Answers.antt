-- `places::place::fault_of` meets its contract. Assumes nothing.
use borrow.Author.Rules.{rules}
use Rattle.layout_theory.specs.Parameters.{moduli_for}
use Rattle.words_theory.specs.Calls as calls
use Rattle.shortened_theory.specs.Code.{fill}
use Rattle.places.proofs.OtherPlace.{Kept, fault-early, fault-kept-of}
use Rattle.places.proofs.place.fault_of.Goals as goal
use Rattle.places.proofs.place.fault_of.Goals.{After-other_half-k}

pub returns-then-p-s : goal.returns-then-p-s
returns-then-p-s c = fault-early _ _ _ _ c.args.word.now c.requires _ c.negative_place-p.ensures c.if-p-s.true

-- past the first test both halves are kept
kept : (c : After-other_half-k)
    → let g = c.args in
    Kept g.code.s g.word.now c.negative_place-p.result c.other_half-k.result (calls.fault_at (moduli_for g.code.t g.code.r) g.e (fill g.code.s g.word.now))
kept c = fault-kept-of _ _ _ _ c.args.word.now c.requires _ c.negative_place-p.ensures c.if-p-s.false _ c.other_half-k.ensures

pub bounds-word-p : goal.bounds-word-p
bounds-word-p c = (kept (goal.at.bounds-word-p c).After-other_half-k).place

pub overflow_sub-c : goal.overflow_sub-c
overflow_sub-c c = let k = (kept (goal.at.overflow_sub-c c).After-other_half-k).left in search rules

pub overflow_sub-c-2 : goal.overflow_sub-c-2
overflow_sub-c-2 c = let k = (kept (goal.at.overflow_sub-c-2 c).After-other_half-k).left in search rules

pub bounds-word-k : goal.bounds-word-k
bounds-word-k c = (kept (goal.at.bounds-word-k c).After-other_half-k).half

pub returns-then-b-c : goal.returns-then-b-c
returns-then-b-c c = (kept (goal.at.returns-then-b-c c).After-other_half-k).first c.if-b-c.true

pub returns-else-b-c : goal.returns-else-b-c
returns-else-b-c c = (kept (goal.at.returns-else-b-c c).After-other_half-k).second c.if-b-c.false
