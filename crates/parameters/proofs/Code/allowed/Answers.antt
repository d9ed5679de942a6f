-- `parameters::Code::allowed` meets its contract. Assumes nothing.
use mathlib.Core.Path.{sym, ◌∙◌}
use native.Mathlib.Omega.{arith}
use Rattle.layout_theory.specs.Parameters.{Admitted}
use Rattle.layout_theory.proofs.Parameters.{admits-admitted}
use Rattle.shortened_theory.specs.Calls.{allowed_for}
use Rattle.shortened_theory.proofs.Guards.{shape-known, part_small, shape-allows}
use Rattle.parameters.proofs.Code.allowed.Goals as goal
use Rattle.parameters.proofs.Code.allowed.Goals.{Then-admitted}

-- past the test t and r are admitted
ok : (c : Then-admitted) → Admitted c.args.self.t c.args.self.r
ok c = admits-admitted _ _ (sym c.admitted.ensures ∙ c.if-admitted.true)

pub overflow_cast-a : goal.overflow_cast-a
overflow_cast-a c =
    let a = ok ((goal.at.overflow_cast-a c).Then-admitted) in
    let k = shape-known _ _ 0 a _ c.shape-h.ensures in
    omega (arith, k.a)

pub overflow_sub-part : goal.overflow_sub-part
overflow_sub-part c = part_small _ _ 0 (ok ((goal.at.overflow_sub-part c).Then-admitted)) _ c.shape-h.ensures

pub returns-then-admitted : goal.returns-then-admitted
returns-then-admitted c = shape-allows _ _ _ (ok ((goal.at.returns-then-admitted c).Then-admitted)) _ c.shape-h.ensures _ c.ends.ensures

pub returns : goal.returns
unfolding allowed_for
returns c = rw (sym c.admitted.ensures ∙ c.if-admitted.false)
