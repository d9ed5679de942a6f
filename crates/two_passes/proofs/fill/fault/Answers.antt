-- `two_passes::fill::fault` meets its contract: each array has room for a word of the codes that it is taken for. Assumes nothing.
use native.Mathlib.Omega.{arith}
use Rattle.two_passes.proofs.Filled.{blank}
use Rattle.two_passes.proofs.fill.fault.Goals as goal

pub filled-requires : goal.filled-requires
filled-requires c = (c.requires, blank 6 _ c.if-code-le6.true, omega arith)

pub filled-requires-then-code-le10 : goal.filled-requires-then-code-le10
filled-requires-then-code-le10 c = (c.requires, blank 10 _ c.if-code-le10.true, omega arith)

pub filled-requires-2 : goal.filled-requires-2
filled-requires-2 c = (c.requires, blank 12 _ c.requires.admitted.most, omega arith)
