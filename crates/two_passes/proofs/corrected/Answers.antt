-- `two_passes::corrected` meets its contract: the word with the place at fault flipped, unless a check refuses it. Assumes nothing.
use mathlib.Core.Path.{refl}
use Rattle.std.proofs.lemmas.Result.{err_from_is_err_and}
use Rattle.coder_theory.proofs.Corrections.{correct-refused, correct-stopped, correct-changed}
use Rattle.checks.proofs.Numbers.{refused-number}
use Rattle.two_passes.proofs.corrected.Goals as goal

pub returns-in_err-written : goal.returns-in_err-written
returns-in_err-written c =
    let x = err_from_is_err_and c.from_residual.result c.from_residual.ensures.1 in
    let k = correct-refused _ _ _ _ c.in_err-written.ensures (refused-number _) in
    record { answer = rw (x.1, x.2) k.0; bytes = k.1 }

pub returns-in_err-correction : goal.returns-in_err-correction
returns-in_err-correction c =
    let x = err_from_is_err_and c.from_residual-in_err-correction.result c.from_residual-in_err-correction.ensures.1 in
    let k = correct-stopped _ _ _ _ c.in_ok-written.ensures refl _ (rw c.code.ensures at c.fault-q.ensures) _ c.in_err-correction.ensures (refused-number _) in
    record { answer = rw (x.1, x.2) k.0; bytes = k.1 }

pub returns : goal.returns
returns c =
    let k = correct-changed _ _ _ _ c.in_ok-written.ensures refl _ (rw c.code.ensures at c.fault-q.ensures) _ c.in_ok-correction.ensures refl _ c.saturating_sub-p.ensures _ c.flip.ensures in
    record { answer = k.0; bytes = k.1 }
