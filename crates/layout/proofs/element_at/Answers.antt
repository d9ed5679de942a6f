-- `layout::element_at` meets its contract: the code's parts say it, and where there are none, there is no place. Assumes nothing.
use mathlib.Core.Path.{sym, ap, ◌∙◌}
use mathlib.Core.List.{List}
use Rattle.group_theory.specs.Group.{Modulus}
use Rattle.group_theory.proofs.Fill.{zeros-moduli}
use Rattle.layout_theory.specs.Parameters.{binary_of, quaternary_of}
use Rattle.layout_theory.specs.Layout.{element_at}
use Rattle.layout_theory.specs.Calls.{element_for}
use Rattle.layout.proofs.element_at.Goals as goal

pub returns-in-Some : goal.returns-in-Some
unfolding element_for
returns-in-Some c =
    let f = c.in-Some.ensures in
    rw f.0 (c.element_at.ensures ∙ ap (λ (ms : List Modulus). element_at ms c.args.place) f.1)

pub returns-in-None : goal.returns-in-None
unfolding element_for element_at
returns-in-None c =
    let g = c.args in
    rw c.in-None.ensures (sym (zeros-moduli (binary_of g.code.t g.code.r) (quaternary_of g.code.t g.code.r)))
