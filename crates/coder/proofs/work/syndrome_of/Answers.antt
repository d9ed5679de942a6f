-- `coder::work::syndrome_of` meets its contract. Assumes nothing.
use mathlib.Core.Path.{ap, ap₂, refl, ◌∙◌}
use Prim.Native.Nat.{ℕ}
use Rattle.group_theory.specs.Group.{moduli, number}
use Rattle.coder_theory.specs.Calls.{answer_of}
use Rattle.coder_theory.proofs.Outcomes.{word_room, syndrome-accepted}
use Rattle.coder.proofs.work.syndrome_of.Goals as goal

pub returns : goal.returns
returns c =
    let g = c.args in
    let n = c.number_of.ensures ∙ ap₂ (λ (a b : ℕ). number (moduli a b) c.in_ok-syndrome.syndrome) c.moduli.ensures.0 c.moduli.ensures.1 in
    rw n
    (syndrome-accepted g.«record» g.word.now _ (c.in_ok-syndrome.ensures.answer ∙ ap answer_of (word_room g.«record» g.word.now)) refl _ c.in_ok-syndrome.ensures.sum _ refl)
