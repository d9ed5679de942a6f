-- `two_passes::fill::filled` meets its contract. Assumes nothing.
use mathlib.Core.Path.{ap, ◌∙◌}
use native.Mathlib.Omega.{arith}
use Rattle.two_passes.specs.Calls.{fault_for}
use Rattle.two_passes.proofs.Answers.{fault-filled}
use Rattle.two_passes.proofs.Filled.{fewer-blank}
use Rattle.two_passes.proofs.fill.filled.Goals as goal

pub put-requires : goal.put-requires
put-requires g c = let p = c.requires in fewer-blank p.1 (let a = p.0.all in omega arith)

pub returns : goal.returns
returns g c =
    c.fault.ensures ∙ ap (fault_for c.args.code.t c.args.code.r) c.put.ensures ∙ fault-filled _ _ _ _ c.requires.0
