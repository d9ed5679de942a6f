-- `places::ones::third_of` meets its contract. Assumes nothing.
use mathlib.Core.Path.{◌≡◌, sym, ap, ◌∙◌}
use mathlib.Core.Logic.{◌⊎◌, inl, inr, ⊎_elim}
use Prim.Native.Nat.{suc, ◌-◌}
use native.Mathlib.Omega.{arith}
use Rattle.layout_theory.specs.Calls.{place_for}
use Rattle.loops_theory.proofs.Told.{two_syndrome, minus_place, told-place, told-third, told-other}
use Rattle.places.proofs.OtherPlace.{told-there}
use Rattle.places.proofs.ones.third_of.Goals as goal
use Rattle.places.proofs.ones.third_of.Goals.{After-other_half-k}

-- p is the place of the syndrome, and k that of the negated syndrome
module _ (c : After-other_half-k) where
  found : c.place_of-p.result ≡ place_for c.args.code.t c.args.code.r (two_syndrome c.args.code.t c.args.code.r c.args.i c.args.j)
  found = c.place_of-p.ensures ∙ ap (place_for c.args.code.t c.args.code.r) c.two_ones-e.ensures

  minus : c.other_half-k.result ≡ minus_place c.args.code.t c.args.code.r c.args.i c.args.j
  minus =
      let g = c.args in
      let h = told-place g.code.t g.code.r g.i g.j c.requires _ found in
      let k = told-there _ _ _ _ c.other_half-k.ensures c.requires.admitted _ c.place_of-p.ensures h.0 in
      let z : c.other_half-k.result ≡ suc (c.other_half-k.result - 1) = let s = k.some in omega arith in
      z ∙ ap suc k.index ∙ h.1

pub returns-then-k-j : goal.returns-then-k-j
returns-then-k-j c =
    let g = c.args in
    let q = (goal.at.returns-then-k-j c).After-other_half-k in
    found q
    ∙ told-other g.code.t g.code.r g.i g.j c.requires
    (⊎_elim {C = (minus_place g.code.t g.code.r g.i g.j ≡ g.i) ⊎ (minus_place g.code.t g.code.r g.i g.j ≡ g.j)} (λ e. inl (sym (minus q) ∙ e)) (λ e. inr (sym (minus q) ∙ e.1)) c.if-k-j.either)

pub returns-else-k-j : goal.returns-else-k-j
returns-else-k-j c =
    let g = c.args in
    let m = minus (goal.at.returns-else-k-j c).After-other_half-k in
    m ∙ told-third g.code.t g.code.r g.i g.j c.requires (λ e. c.if-k-j.false.0 (m ∙ e)) (λ e. c.if-k-j.false.1 (m ∙ e))
