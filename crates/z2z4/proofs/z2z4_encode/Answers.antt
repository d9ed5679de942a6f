-- `z2z4::z2z4_encode` meets its contract: it is `coder::encode` with a record just opened. Assumes nothing.
use borrow.Author.Rules.{rules}
use mathlib.Core.Path.{◌≡◌, refl, sym, ap, subst, ◌∙◌}
use Prim.Native.Nat.{◌<◌}
use native.Mathlib.Omega.{arith}
use mir.Syntax.{w32}
use Rattle.std.proofs.Common.{to_z, of_z}
use mir.ValLaws.{to_z-of_z}
use Rattle.coder_theory.specs.declared.Answer.{Answer}
use Rattle.coder_theory.proofs.Bounds.{numbers, encode-refusal}
use Rattle.z2z4_theory.specs.Calls.{signed}
use Rattle.z2z4_theory.proofs.Opening.{by-refusal, by-record, encodes-as-opened}
use Rattle.z2z4.proofs.z2z4_encode.Goals as goal

pub answer-requires-clause-refusal_bound : goal.answer-requires-clause-refusal_bound
answer-requires-clause-refusal_bound c =
    let e = sym c.encode.ensures.answer in
    let b = subst (λ (x : Answer). x.refusal < numbers) e (encode-refusal _ _ _) in
    omega arith

pub returns-in-Ok : goal.returns-in-Ok
returns-in-Ok c =
    let y = encodes-as-opened c.args.t c.args.r c.args.message.now c.args.out.now in
    let o = sym c.in-Ok.ensures in
    record {
      answer = to_z-of_z w32 _ (record { sfits = c.answer.type_inv })
          ∙ by-record y.answers o refl (c.answer.ensures ∙ ap (λ (x : Answer). signed x.refusal 0) c.encode.ensures.answer);
      bytes = by-record y.writes o refl c.encode.ensures.bytes;
    }

pub returns-in-Err : goal.returns-in-Err
returns-in-Err c =
    let fits : to_z w32 (of_z w32 c.in-Err.refused) ≡ c.in-Err.refused = search rules in
    let y = encodes-as-opened c.args.t c.args.r c.args.message.now c.args.out.now in
    record {
      answer = fits ∙ by-refusal y.answers refl c.in-Err.ensures.0 c.in-Err.ensures.1;
      bytes = by-refusal y.writes refl c.in-Err.ensures.0 refl;
    }
