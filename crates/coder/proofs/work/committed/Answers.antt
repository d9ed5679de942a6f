-- `coder::work::committed` meets its contract: what asking tells, whether the claim is that, and then the flip. Assumes nothing.
use mathlib.Core.Path.{refl, ◌∙◌}
use Rattle.std.proofs.lemmas.Result.{err_from_is_err_and}
use Rattle.coder_theory.proofs.Asking.{commit-refused, commit-stopped, commit-changed}
use Rattle.checks.proofs.Numbers.{refused-number}
use Rattle.coder.proofs.work.committed.Goals as goal

pub returns-in_err-p : goal.returns-in_err-p
returns-in_err-p c =
    let x = err_from_is_err_and c.from_residual.result c.from_residual.ensures.1 in
    let k = commit-refused _ c.args.place _ _ c.in_err-p.ensures (refused-number _) in
    record { answer = rw (x.1, x.2) k.0; bytes = k.1 }

pub returns-in_err-claim : goal.returns-in_err-claim
returns-in_err-claim c =
    let x = err_from_is_err_and c.from_residual-in_err-claim.result c.from_residual-in_err-claim.ensures.1 in
    let k = commit-stopped _ _ _ _ c.in_ok-p.ensures refl _ c.in_err-claim.ensures (refused-number _) in
    record { answer = rw (x.1, x.2) k.0; bytes = k.1 }

pub returns : goal.returns
returns c =
    let k = commit-changed _ _ _ _ c.in_ok-p.ensures refl _ c.in_ok-claim.ensures refl in
    record { answer = k.0; bytes = c.flip_in_place.ensures ∙ k.1 }
