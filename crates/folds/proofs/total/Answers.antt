-- `folds::total` meets its contract. Assumes nothing.
use Rattle.std.proofs.Common.{rules, ◌≡◌, ℕ, ◌+◌, ◌%◌, ◌^◌, ap, ◌∙◌, arith}
use Rattle.std.specs.List.{fold}
use Rattle.folds_theory.proofs.Gathers.{total-fold}
use Rattle.folds.proofs.total.Goals as goal

pub returns : goal.returns
returns c =
    let e : c.fold.result ≡ fold (λ k x. (k + x) % 2 ^ 8) 0 c.args.v.now = search rules in
    ap (λ (k : ℕ). k % 4) e ∙ total-fold 0 c.args.v.now ∙ ap (λ (k : ℕ). k % 4) (omega arith)
