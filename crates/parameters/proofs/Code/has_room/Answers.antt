-- `parameters::Code::has_room` meets its contract. Assumes nothing.
use mathlib.Core.Bool.{true}
use mathlib.Core.Path.{◌≡◌, sym, ◌∙◌}
use Rattle.shortened_theory.specs.Calls.{allowed_for}
use Rattle.shortened_theory.proofs.Guards.{still, places-are}
use Rattle.parameters.proofs.Code.has_room.Goals as goal
use Rattle.parameters.proofs.Code.has_room.Goals.{Then-allowed}

-- past the test s is allowed
ok : (c : Then-allowed) → allowed_for c.args.self.t c.args.self.r c.args.self.s ≡ true
ok c = sym c.allowed.ensures ∙ c.if-allowed.true

pub overflow_sub-result : goal.overflow_sub-result
overflow_sub-result c = (still _ _ _ (ok ((goal.at.overflow_sub-result c).Then-allowed)) _ c.shape.ensures).0

pub returns-then-allowed : goal.returns-then-allowed
returns-then-allowed c =
    let y = ok ((goal.at.returns-then-allowed c).Then-allowed) in
    rw (y, places-are _ _ _ y _ c.shape.ensures)

pub returns-else-allowed : goal.returns-else-allowed
returns-else-allowed c = rw (sym c.allowed.ensures ∙ c.if-allowed.false) c.if-allowed.false
