-- `coding::all_bits` meets its contract. Assumes nothing.
use Rattle.loops_theory.proofs.Passing.{bits-zero, bad-place}
use Rattle.loops_theory.proofs.ByFilling.{told-none, told-bad}
use Rattle.coding.proofs.all_bits.Goals as goal

pub returns-then-bits : goal.returns-then-bits
returns-then-bits c = told-none _ _ (bits-zero c.args.word.now (λ i h l. c.if-bits.ensures i h l))

pub returns : goal.returns
returns c = told-bad _ _ _ c.first_bad.ensures (bad-place c.args.word.now c.if-bits.ensures)
