-- `parameters::Code::fits_message` meets its contract. Assumes nothing.
use mathlib.Core.Bool.{true}
use mathlib.Core.Path.{◌≡◌, sym, ◌∙◌}
use Rattle.shortened_theory.specs.Calls.{allowed_for, fits_message}
use Rattle.shortened_theory.proofs.Guards.{still, message-is}
use Rattle.parameters.proofs.Code.fits_message.Goals as goal
use Rattle.parameters.proofs.Code.fits_message.Goals.{Then-allowed}

-- past the test s is allowed
ok : (c : Then-allowed) → allowed_for c.args.self.t c.args.self.r c.args.self.s ≡ true
ok c = sym c.allowed.ensures ∙ c.if-allowed.true

pub overflow_sub-result : goal.overflow_sub-result
overflow_sub-result c = (still _ _ _ (ok ((goal.at.overflow_sub-result c).Then-allowed)) _ c.shape.ensures).1

pub returns-then-allowed : goal.returns-then-allowed
unfolding fits_message
returns-then-allowed c =
    let y = ok ((goal.at.returns-then-allowed c).Then-allowed) in
    rw (y, message-is _ _ _ y _ c.shape.ensures)

pub returns-else-allowed : goal.returns-else-allowed
unfolding fits_message
returns-else-allowed c = rw (sym c.allowed.ensures ∙ c.if-allowed.false) c.if-allowed.false
