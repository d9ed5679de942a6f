-- `two_passes::place::half` meets its contract. Assumes nothing.
use borrow.Author.Tests.{eq-eqb, ne_eqb}
use Rattle.two_passes.proofs.place.half.Goals as goal

pub returns-then-b-c : goal.returns-then-b-c
returns-then-b-c c = rw (eq-eqb _ _ c.if-b-c.true)

pub returns-else-b-c : goal.returns-else-b-c
returns-else-b-c c = rw (ne_eqb _ _ c.if-b-c.false)
