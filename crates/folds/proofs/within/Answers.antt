-- `folds::within` meets its contract. Assumes nothing.
use Rattle.std.proofs.Common.{rules, arith, ◌≤◌, ◌↔◌, IsTrue}
use Rattle.folds_theory.specs.Folds.{room}
use Rattle.folds_theory.proofs.Levelling.{holds-power, holds-room}
use Rattle.folds.proofs.within.Goals as goal

pub returns : goal.returns
returns c =
    let i : IsTrue c.contains.result ↔ ((c.power.result ≤ c.args.n) × (c.args.n ≤ room)) = search rules in
    let e = c.power.ensures in
    (λ t. let h = i.0 t in holds-room _ _ _ (omega arith) h.1, λ h. let k = holds-power _ _ _ h in let m = h.most in i.1 (omega arith, m))
