-- `listing::read::line` meets its contract: a law for each thing that is found. Assumes nothing.
use mathlib.Core.Path.{◌∙◌}
use Rattle.listing_theory.proofs.Lines.{line-none, line-number, rest-other, rest-space, second-none, second-end, second-more, end-newline}
use Rattle.listing.proofs.read.line.Goals as goal

pub returns-in_err-t : goal.returns-in_err-t
returns-in_err-t c = c.from_residual.ensures ∙ line-none _ c.in_err-t.ensures

pub returns-in_err-s : goal.returns-in_err-s
returns-in_err-s c =
    c.from_residual-in_err-s.ensures ∙ rest-other _ _ c.in_err-s.ensures.cases ∙ line-number _ c.in_ok-t.ensures

pub returns-in_err-r : goal.returns-in_err-r
returns-in_err-r c =
    c.from_residual-in_err-r.ensures
    ∙ second-none _ _ c.in_err-r.ensures
    ∙ rest-space _ _ _ c.in_ok-s.ensures.cases.0 c.in_ok-s.ensures.cases.1
    ∙ line-number _ c.in_ok-t.ensures

pub returns-then-eq : goal.returns-then-eq
returns-then-eq c =
    second-end _ _ c.in_ok-r.ensures (end-newline c.in_ok-r.s.now c.as_slice.ensures c.if-eq.ensures)
    ∙ rest-space _ _ _ c.in_ok-s.ensures.cases.0 c.in_ok-s.ensures.cases.1
    ∙ line-number _ c.in_ok-t.ensures

pub returns-else-eq : goal.returns-else-eq
returns-else-eq c =
    second-more _ _ c.in_ok-r.ensures (end-newline c.in_ok-r.s.now c.as_slice.ensures c.if-eq.ensures)
    ∙ rest-space _ _ _ c.in_ok-s.ensures.cases.0 c.in_ok-s.ensures.cases.1
    ∙ line-number _ c.in_ok-t.ensures
