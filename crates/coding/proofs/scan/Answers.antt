-- `coding::scan` meets its contract. Assumes nothing.
use Rattle.std.proofs.Common.{sym, ◌∙◌}
use Rattle.loops_theory.proofs.ByFilling.{scan-none}
use Rattle.coding.proofs.scan.Goals as goal

pub returns : goal.returns
returns c = rw c.zero.ensures (scan-none _ _ _ c.args.word.now (sym c.fits_word.ensures ∙ c.if-fits_word.false))
