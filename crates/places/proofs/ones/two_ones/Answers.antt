-- `places::ones::two_ones` meets its contract. Assumes nothing.
use mathlib.Core.Path.{◌≡◌, sym, ap, ap₂, ◌∙◌}
use mathlib.Core.List.{List}
use Prim.Native.Nat.{ℕ, ◌-◌}
use native.Mathlib.Omega.{arith}
use Rattle.group_theory.specs.Group.{Modulus, moduli, sum}
use Rattle.layout_theory.specs.Parameters.{moduli_for}
use Rattle.layout_theory.proofs.Parameters.{known-for, moduli-known}
use Rattle.loops_theory.proofs.Told.{told-halves, told-apart}
use Rattle.places.proofs.OtherPlace.{Told, told-at}
use Rattle.places.proofs.ones.two_ones.Goals as goal
use Rattle.places.proofs.ones.two_ones.Goals.{After-other_half}

-- the moduli in hand are those of the code, and what the other half of j is
module _ (c : After-other_half) where
  same-moduli : moduli c.shape-h.result.a c.shape-h.result.b ≡ moduli_for c.args.code.t c.args.code.r
  same-moduli =
      let g = c.args in
      moduli-known g.code.t g.code.r c.shape-h.result (known-for g.code.t g.code.r c.shape-h.result c.shape-h.ensures c.requires.admitted)

  told : Told c.args.code.t c.args.code.r c.args.j c.other_half.result
  told = told-at _ _ _ _ c.other_half.ensures c.requires.admitted c.requires.second c.requires.second_most

pub returns-then-other_half-i : goal.returns-then-other_half-i
returns-then-other_half-i c =
    let g = c.args in
    let q = (goal.at.returns-then-other_half-i c).After-other_half in
    c.add.ensures ∙ ap₂ (λ (ms : List Modulus) (e : List ℕ). sum ms e e) (same-moduli q) c.element_at-x.ensures
    ∙ sym (told-halves g.code.t g.code.r g.i g.j c.requires (sym (told q).index ∙ ap (λ (n : ℕ). n - 1) c.if-other_half-i.true))

pub returns-else-other_half-i : goal.returns-else-other_half-i
returns-else-other_half-i c =
    let g = c.args in
    let q = (goal.at.returns-else-other_half-i c).After-other_half in
    let k = told q in
    c.add-else-other_half-i.ensures
    ∙ ap (λ (ms : List Modulus). sum ms c.element_at-x.result c.element_at.result) (same-moduli q)
    ∙ ap₂ (sum (moduli_for g.code.t g.code.r)) c.element_at-x.ensures c.element_at.ensures
    ∙ sym (told-apart g.code.t g.code.r g.i g.j c.requires (λ e. c.if-other_half-i.false (omega (arith, e, k.index, k.some, c.requires.first))))
