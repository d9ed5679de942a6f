-- `coder::work::corrected` meets its contract: the word with the place at fault flipped, unless that is left out. Assumes nothing.
use mathlib.Core.Path.{refl}
use Rattle.std.proofs.lemmas.Result.{err_from_is_err_and}
use Rattle.coder_theory.proofs.Corrections.{correct-stopped, correct-changed}
use Rattle.checks.proofs.Numbers.{refused-number}
use Rattle.coder.proofs.work.corrected.Goals as goal

pub returns-in_err-correction : goal.returns-in_err-correction
returns-in_err-correction c =
    let x = err_from_is_err_and c.from_residual-in_err-correction.result c.from_residual-in_err-correction.ensures.1 in
    let k = correct-stopped _ _ _ _ c.in_ok-q.ensures.answer refl _ c.in_ok-q.ensures.place _ c.in_err-correction.ensures (refused-number _) in
    record { answer = rw (x.1, x.2) k.0; bytes = k.1 }

pub returns : goal.returns
returns c =
    let k = correct-changed _ _ _ _ c.in_ok-q.ensures.answer refl _ c.in_ok-q.ensures.place _ c.in_ok-correction.ensures refl _ c.new_place-p.ensures _ c.flip.ensures in
    record { answer = k.0; bytes = k.1 }
