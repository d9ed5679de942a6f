-- `layout::Parts::of` meets its contract: past the test the parameters are admitted. Assumes nothing.
use mathlib.Core.Path.{◌≡◌, refl, sym}
use mathlib.Core.Bool.{Bool, true, false}
use native.Mathlib.Omega.{arith}
use Rattle.layout_theory.specs.Parameters.{admits}
use Rattle.layout_theory.proofs.Parameters.{Known, known, known-for, sizes-known, moduli-known, admits-admitted, admitted-admits, below_power}
use Rattle.layout.proofs.Parts.of.Goals as goal
use Rattle.layout.proofs.Parts.of.Goals.{Else-s-eq0}

past : (c : Else-s-eq0) → Known c.args.code.t c.args.code.r c.shape-s.result
past c = known _ _ _ c.shape-s.ensures (omega arith)

pub returns-then-s-eq0 : goal.returns-then-s-eq0
returns-then-s-eq0 c = go (admits c.args.code.t c.args.code.r) refl
  where
    go : (b : Bool) → admits c.args.code.t c.args.code.r ≡ b → admits c.args.code.t c.args.code.r ≡ false
    go true e =
        let k = known-for _ _ _ c.shape-s.ensures (admits-admitted c.args.code.t c.args.code.r e) in
        let p = below_power c.args.code.t in
        absurd (omega (arith, k.places, k.admitted.least))
    go false e = e

pub overflow_cast-result : goal.overflow_cast-result
overflow_cast-result c = let k = sizes-known _ _ _ (past (goal.at.overflow_cast-result c).Else-s-eq0) in omega arith

pub overflow_sub-result : goal.overflow_sub-result
overflow_sub-result c = let k = sizes-known _ _ _ (past (goal.at.overflow_sub-result c).Else-s-eq0) in omega arith

pub invariant_of-result : goal.invariant_of-result
invariant_of-result c =
    let k = sizes-known _ _ _ (past (goal.at.invariant_of-result c).Else-s-eq0) in
    record { located = record { room = k.room; part = omega arith; front = sym k.front; small = omega arith } }

pub returns : goal.returns
returns c =
    let k = past (goal.at.returns c).Else-s-eq0 in
    (admitted-admits _ _ k.admitted, moduli-known _ _ _ k)
