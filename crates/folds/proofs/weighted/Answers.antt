-- `folds::weighted` meets its contract. Assumes nothing.
use Rattle.std.proofs.Common.{rules, sym, ◌∙◌}
use Rattle.folds_theory.proofs.Wholes.{with-room, without-room}
use Rattle.folds.proofs.weighted.Goals as goal

pub returns-then-within : goal.returns-then-within
returns-then-within g c = c.both.ensures ∙ sym (with-room _ _ _ _ (c.if-within.ensures.0 (search rules)))

pub returns-else-within : goal.returns-else-within
returns-else-within g c = c.zero.ensures ∙ sym (without-room _ _ _ _ (λ h. let e = c.if-within.ensures.1 h in cc))
