-- `coder::work::element_of` meets its contract: past the check the place is one of the record's. Assumes nothing.
use borrow.Author.Rules.{rules}
use mathlib.Core.Path.{refl, sym, ap, ◌∙◌}
use mathlib.Core.Logic.{◌≢◌}
use Prim.Native.Nat.{◌≤◌}
use native.Mathlib.Omega.{arith}
use Rattle.coder_theory.specs.State.{Usable, places_in}
use Rattle.coder_theory.specs.declared.Answer.{Answer}
use Rattle.coder_theory.proofs.Answers.{element-inside, shape-element}
use Rattle.coder_theory.proofs.States.{usable-true}
use Rattle.coder_theory.proofs.Outcomes.{layout-accepted}
use Rattle.coder_theory.proofs.Bounds.{old-bound}
use Rattle.coder.proofs.work.element_of.Goals as goal
use Rattle.coder.proofs.work.element_of.Goals.{After-code}

inside : (c : After-code) → let g = c.args in Usable g.«record» × (1 ≤ g.place) × (g.place ≤ places_in g.«record»)
inside c = layout-accepted _ _ (sym (ap (λ (a : Answer). a.refusal) c.in_ok-place.ensures))

pub overflow_add-place : goal.overflow_add-place
overflow_add-place c =
    let h = inside (goal.at.overflow_add-place c).After-code in
    let k = old-bound _ _ h.0 h.2 in
    search rules

pub returns : goal.returns
returns c =
    let g = c.args in
    let h = inside (goal.at.returns c).After-code in
    let f = usable-true _ h.0 in
    let some : g.place ≢ 0 = λ z. omega arith in
    let e = c.number_of.ensures
    ∙ rw (c.moduli.ensures.0, c.moduli.ensures.1) (shape-element g.«record» f _ refl g.place _ some (rw c.code.ensures at c.element_at-e.ensures)) in
    rw e (sym (element-inside g.«record» f g.place some h.2))
