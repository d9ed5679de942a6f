-- `two_passes::count::add` meets its contract. Assumes nothing.
use native.Mathlib.Omega.{arith}
use Rattle.two_passes.proofs.count.add.Goals as goal

pub returns-then-yes : goal.returns-then-yes
returns-then-yes c = rw c.if-yes.true

pub returns-else-yes : goal.returns-else-yes
returns-else-yes c = rw c.if-yes.false (omega arith)
