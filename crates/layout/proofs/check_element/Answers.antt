-- `layout::check_element` meets its contract: the place says which component, and which half of a pair. Assumes nothing.
use mathlib.Core.Path.{◌≡◌, sym, ap, ◌∙◌}
use Prim.Native.Nat.{ℕ, suc, ◌+◌, ◌-◌, ◌*◌, ◌/◌}
use native.Mathlib.Omega.{arith}
use lib.ListN.{get_or, get_or-eq_default}
use Rattle.group_theory.specs.Group.{moduli, zeros}
use Rattle.layout_theory.specs.Layout.{units, places}
use Rattle.layout_theory.proofs.Index.{check-two, check-four}
use Rattle.layout_theory.proofs.Sizes.{length-units, shape-moduli}
use Rattle.layout.proofs.check_element.Goals as goal
use Rattle.layout.proofs.check_element.Goals.{then-i-m-eq0, else-i-m-eq0}

pub returns-then-i-m : goal.returns-then-i-m
returns-then-i-m c = c.with_one.ensures ∙ sym (check-two _ _ _ c.if-i-m.true c.requires)

pub returns-then-m-j : goal.returns-then-m-j
returns-then-m-j c =
    let ms = moduli c.args.m.a c.args.m.b in
    let n = shape-moduli c.args.m.a c.args.m.b c.requires in
    let n0 = n.0 in
    let n1 = n.1 in
    c.zero.ensures ∙ sym (get_or-eq_default (places ms (units ms)) (zeros ms) (omega (arith, length-units ms)))

pub returns : goal.returns
returns c =
    let g = c.args in
    let j = (g.i - g.m.a) / 2 in
    let ms = moduli g.m.a g.m.b in
    let unit = check-four g.m.a g.m.b j c.if-m-j.false c.requires in
    c.with_one-2.ensures
    ∙ elim c.if-i-m-eq0.branch [
      | then-i-m-eq0 w ↦
          let e : g.m.a + 2 * j ≡ g.i = omega arith in
          rw w.with_one-is (sym unit.0 ∙ ap (λ (k : ℕ). get_or (places ms (units ms)) k (zeros ms)) e)
      | else-i-m-eq0 w ↦
          let e : g.m.a + suc (2 * j) ≡ g.i = omega arith in
          rw w.with_one-is (sym unit.1 ∙ ap (λ (k : ℕ). get_or (places ms (units ms)) k (zeros ms)) e)
    ]
