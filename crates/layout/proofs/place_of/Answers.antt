-- `layout::place_of` meets its contract: the code's parts say it, and where there are none, there is no place. Assumes nothing.
use mathlib.Core.Path.{ap, ◌∙◌}
use mathlib.Core.List.{List}
use Rattle.group_theory.specs.Group.{Modulus}
use Rattle.layout_theory.specs.Layout.{place_of}
use Rattle.layout_theory.specs.Calls.{place_for}
use Rattle.layout.proofs.place_of.Goals as goal

pub returns-in-Some : goal.returns-in-Some
unfolding place_for
returns-in-Some c =
    let f = c.in-Some.ensures in
    rw f.0 (c.place_of.ensures ∙ ap (λ (ms : List Modulus). place_of ms c.args.e) f.1)

pub returns-in-None : goal.returns-in-None
unfolding place_for
returns-in-None c = rw c.in-None.ensures
