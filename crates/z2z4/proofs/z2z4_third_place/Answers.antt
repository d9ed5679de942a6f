-- `z2z4::z2z4_third_place` meets its contract: it is `coder::third_place` with a record just opened. Assumes nothing.
use borrow.Author.Rules.{rules}
use mathlib.Core.Path.{◌≡◌, refl, sym, ap, subst, ◌∙◌}
use Prim.Native.Nat.{◌<◌}
use native.Mathlib.Omega.{arith}
use mir.Syntax.{w32}
use Rattle.std.proofs.Common.{to_z, of_z}
use mir.ValLaws.{to_z-of_z}
use Rattle.coder_theory.specs.declared.Answer.{Answer}
use Rattle.coder_theory.proofs.Bounds.{numbers, third-refusal, third-place}
use Rattle.z2z4_theory.specs.Calls.{signed}
use Rattle.z2z4_theory.proofs.Opening.{by-refusal, by-record, third-as-opened}
use Rattle.z2z4.proofs.z2z4_third_place.Goals as goal

pub answer-requires : goal.answer-requires
answer-requires c =
    let e = sym c.third_place-p.ensures in
    let b = subst (λ (x : Answer). x.refusal < numbers) e (third-refusal _ _ _) in
    record {
      refusal_bound = omega arith;
      place_bound =
          λ z.
          let l = third-place _ _ _ (ap (λ (x : Answer). x.refusal) e ∙ z) in
          let p = ap (λ (x : Answer). x.place) e in
          omega arith;
    }

pub returns-in-Ok : goal.returns-in-Ok
returns-in-Ok c =
    let y = third-as-opened c.args.t c.args.r c.args.i c.args.j in
    let o = sym c.in-Ok.ensures in
    to_z-of_z w32 _ (record { sfits = c.answer.type_inv })
    ∙ by-record y.answers o refl (c.answer.ensures ∙ ap (λ (x : Answer). signed x.refusal x.place) c.third_place-p.ensures)

pub returns-in-Err : goal.returns-in-Err
returns-in-Err c =
    let fits : to_z w32 (of_z w32 c.in-Err.refused) ≡ c.in-Err.refused = search rules in
    let y = third-as-opened c.args.t c.args.r c.args.i c.args.j in
    fits ∙ by-refusal y.answers refl c.in-Err.ensures.0 c.in-Err.ensures.1
