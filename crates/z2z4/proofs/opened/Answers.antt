-- `z2z4::opened` meets its contract: 0 is turned into r = t before opening. Assumes nothing.
use mathlib.Core.Path.{◌≡◌, sym, ap, ◌∙◌}
use Prim.Native.Nat.{ℕ}
use mir.Syntax.{w32}
use mir.ValLaws.{to_z-of_z}
use Rattle.coder_theory.specs.Calls.{opened}
use Rattle.coder_theory.specs.declared.Opened.{Opened}
use Rattle.z2z4_theory.specs.Calls.{signed, opened_for_c}
use Rattle.z2z4_theory.proofs.Opening.{open_told}
use Rattle.z2z4.proofs.opened.Goals as goal
use Rattle.z2z4.proofs.opened.Goals.{After-open-o}

as-told : (c : After-open-o) → c.open-o.result ≡ opened_for_c c.args.t c.args.r
unfolding opened_for_c
as-told c = c.open-o.ensures ∙ ap (λ (k : ℕ). opened c.args.t k 0) c.or_hamming-used.ensures

pub answer-requires-clause-refusal_bound : goal.answer-requires-clause-refusal_bound
answer-requires-clause-refusal_bound c =
    (open_told _ _ (as-told (goal.at.answer-requires-clause-refusal_bound c).After-open-o)).0

pub returns-then-refusal-eq0 : goal.returns-then-refusal-eq0
returns-then-refusal-eq0 c =
    let new : ℕ → Opened = λ n. record { refusal = n; «record» = c.open-o.result.«record» } in
    sym (as-told (goal.at.returns-then-refusal-eq0 c).After-open-o) ∙ ap new c.if-refusal-eq0.true

pub returns-else-refusal-eq0 : goal.returns-else-refusal-eq0
returns-else-refusal-eq0 c =
    let e = ap (λ (o : Opened). o.refusal) (as-told (goal.at.returns-else-refusal-eq0 c).After-open-o) in
    ((λ z. c.if-refusal-eq0.false (e ∙ z)), to_z-of_z w32 _ (record { sfits = c.answer.type_inv }) ∙ c.answer.ensures ∙ ap (λ (x : ℕ). signed x 0) e)
