-- `coder::work::at_fault` meets its contract: the place is told from the word's syndrome. Assumes nothing.
use mathlib.Core.Path.{ap, ◌∙◌}
use mathlib.Core.List.{List}
use Prim.Native.Nat.{ℕ}
use Rattle.shortened_theory.specs.Calls.{fault_at_for}
use Rattle.coder_theory.proofs.Corrections.{fault-from}
use Rattle.coder.proofs.work.at_fault.Goals as goal

pub returns-clause-place : goal.returns-clause-place
returns-clause-place c =
    let w = c.args.word.now in
    let r = c.args.«record» in
    c.fault.ensures ∙ ap (λ (e : List ℕ). fault_at_for r.t r.r r.s e w) c.in_ok-e.ensures.sum ∙ fault-from r.t r.r r.s w
