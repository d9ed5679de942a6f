-- `two_passes::bytes::bad_place` meets its contract. Assumes nothing.
use mathlib.Core.Path.{sym}
use Rattle.two_passes.proofs.bytes.bad_place.Goals as goal

pub returns-then-highest-le1 : goal.returns-then-highest-le1
returns-then-highest-le1 c = sym (c.highest.ensures c.if-highest-le1.true)
