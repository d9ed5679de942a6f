-- `two_passes::bytes::written` meets its contract: what `sizes` answers, with the record's own length, and then what the bytes say. Assumes nothing.
use mathlib.Core.Path.{◌≡◌, refl, sym, ap, ◌∙◌}
use mathlib.Core.List.{List, [], ◌∷◌, ◌++◌}
use native.Mathlib.Omega.{arith}
use Rattle.std.proofs.lemmas.Result.{err_from_is_err_and}
use Rattle.coder_theory.specs.State.{places_in}
use Rattle.coder_theory.specs.Reasons.{Reason, first_reason, wrong_length, short_output, bad_byte}
use Rattle.coder_theory.specs.Calls.{answer_of, state_reasons, write_reasons}
use Rattle.coder_theory.specs.declared.Answer.{Answer}
use Rattle.coder_theory.proofs.Firsts.{NoneApplies, accepted-none, first-before, first_past}
use Rattle.coder_theory.proofs.Outcomes.{right-length}
use Rattle.checks.proofs.Numbers.{refused-number}
use Rattle.two_passes.proofs.Answers.{by_lengths}
use Rattle.two_passes.proofs.bytes.written.Goals as goal
use Rattle.two_passes.proofs.bytes.written.Goals.{After-lengths-size, In_ok-sizes}

-- the reasons before the bytes, with the length that was worked out, and that this is the record's own
abbrev early : After-lengths-size → List Reason
early l =
    let g = l.args in
    let n = l.lengths-size.result.places in
    state_reasons g.«record» ++ (wrong_length n g.word.now ∷ short_output n g.room ∷ [])

own : (l : After-lengths-size)
    → let g = l.args in
    answer_of (first_reason (early l ++ (bad_byte g.word.now ∷ []))) ≡ answer_of (first_reason (write_reasons g.«record» (places_in g.«record») g.word.now g.room))
own l =
    let g = l.args in
    let w = g.word.now in
    ap answer_of (by_lengths g.«record» l.lengths-size.result l.lengths-size.ensures (λ n m. wrong_length n w ∷ short_output n g.room ∷ bad_byte w ∷ []))

pub returns-in_err-sizes : goal.returns-in_err-sizes
returns-in_err-sizes c =
    let l = (goal.at.returns-in_err-sizes c).After-lengths-size in
    let x = err_from_is_err_and c.from_residual.result c.from_residual.ensures.1 in
    let e = ap (λ (a : Answer). a.refusal) c.in_err-sizes.ensures in
    rw (x.1, x.2) (c.in_err-sizes.ensures ∙ sym (ap answer_of (first-before (early l) (bad_byte c.args.word.now ∷ []) (λ z. refused-number _ (e ∙ z)))) ∙ own l)

none : (c : In_ok-sizes) → NoneApplies (early (goal.at.In_ok-sizes c).After-lengths-size)
none c = accepted-none (early (goal.at.In_ok-sizes c).After-lengths-size) refl (sym (ap (λ (a : Answer). a.refusal) c.in_ok-sizes.ensures))

pub byte-requires : goal.byte-requires
byte-requires c =
    let h = right-length c.lengths-size.result.places c.args.word.now (none (goal.at.byte-requires c).In_ok-sizes).1.1.1.0 in
    omega arith

pub returns : goal.returns
returns c =
    let l = (goal.at.returns c).After-lengths-size in
    c.byte.ensures ∙ sym (ap answer_of (first_past (early l) (bad_byte c.args.word.now ∷ []) (none (goal.at.returns c).In_ok-sizes))) ∙ own l
