-- `group::Moduli::zero` meets its contract: twelve zeros, whatever the moduli. Assumes nothing.
use mathlib.Core.Path.{sym}
use Rattle.group_theory.proofs.Fill.{zeros-moduli}
use Rattle.group.proofs.Moduli.zero.Goals as goal

pub returns : goal.returns
returns c = sym (zeros-moduli c.args.self.a c.args.self.b)
