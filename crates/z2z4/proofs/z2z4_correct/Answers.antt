-- `z2z4::z2z4_correct` meets its contract: it is `coder::correct` with a record just opened. Assumes nothing.
use borrow.Author.Rules.{rules}
use mathlib.Core.Path.{◌≡◌, refl, sym, ap, subst, ◌∙◌}
use Prim.Native.Nat.{◌<◌}
use native.Mathlib.Omega.{arith}
use mir.Syntax.{w32}
use Rattle.std.proofs.Common.{to_z, of_z}
use mir.ValLaws.{to_z-of_z}
use Rattle.coder_theory.specs.declared.Corrected.{Corrected}
use Rattle.coder_theory.proofs.Bounds.{numbers, correct-refusal, correct-place}
use Rattle.z2z4_theory.specs.Calls.{signed}
use Rattle.z2z4_theory.proofs.Opening.{by-refusal, by-record, corrects-as-opened}
use Rattle.z2z4.proofs.z2z4_correct.Goals as goal

pub answer-requires : goal.answer-requires
answer-requires c =
    let e = sym c.correct-c.ensures.answer in
    let b = subst (λ (x : Corrected). x.refusal < numbers) e (correct-refusal _ _ _) in
    record {
      refusal_bound = omega arith;
      place_bound =
          λ z.
          let l = correct-place _ _ _ (ap (λ (x : Corrected). x.refusal) e ∙ z) in
          let p = ap (λ (x : Corrected). x.place) e in
          omega arith;
    }

pub returns-in-Ok : goal.returns-in-Ok
returns-in-Ok c =
    let y = corrects-as-opened c.args.t c.args.r c.args.word.now c.args.out.now in
    let o = sym c.in-Ok.ensures in
    record {
      answer = to_z-of_z w32 _ (record { sfits = c.answer.type_inv })
          ∙ by-record y.answers o refl (c.answer.ensures ∙ ap (λ (x : Corrected). signed x.refusal x.place) c.correct-c.ensures.answer);
      bytes = by-record y.writes o refl c.correct-c.ensures.bytes;
    }

pub returns-in-Err : goal.returns-in-Err
returns-in-Err c =
    let fits : to_z w32 (of_z w32 c.in-Err.refused) ≡ c.in-Err.refused = search rules in
    let y = corrects-as-opened c.args.t c.args.r c.args.word.now c.args.out.now in
    record {
      answer = fits ∙ by-refusal y.answers refl c.in-Err.ensures.0 c.in-Err.ensures.1;
      bytes = by-refusal y.writes refl c.in-Err.ensures.0 refl;
    }
