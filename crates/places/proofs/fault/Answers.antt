-- `places::fault` meets its contract: 0, or the place told from the syndrome. Assumes nothing.
use mathlib.Core.Path.{sym, ◌∙◌}
use Rattle.loops_theory.proofs.ByFilling.{fault-at, fault-at-none, fault-at-zero}
use Rattle.places.proofs.fault.Goals as goal
use Rattle.places.proofs.fault.Goals.{else-not-is_zero-via-then-not-is_zero+else-fits_word, else-not-is_zero-via-else-not-is_zero}

pub returns-then-fits_word : goal.returns-then-fits_word
returns-then-fits_word c = c.fault_of.ensures ∙ fault-at _ _ _ _ c.args.word.now (sym c.fits_word.ensures ∙ c.if-fits_word.true)

pub returns-else-not-is_zero : goal.returns-else-not-is_zero
returns-else-not-is_zero c =
    elim c.else-not-is_zero.branch [
      | else-not-is_zero-via-then-not-is_zero+else-fits_word w ↦ fault-at-none _ _ _ _ c.args.word.now (sym w.fits_word.ensures ∙ w.if-fits_word.false)
      | else-not-is_zero-via-else-not-is_zero w ↦ fault-at-zero _ _ _ _ c.args.word.now (sym c.is_zero.ensures ∙ w.if-not-is_zero.false)
    ]
