-- Demand 1 of opening and of the calls on a record, one theorem: `demand1`. Its statement is in specs/Demand1. Assumes nothing.
use mathlib.Core.Path.{◌≡◌, refl, sym, ap, ◌∙◌}
use mathlib.Core.Logic.{◌↔◌}
use mathlib.Core.List.{List, []}
use mathlib.Core.Bool.{Bool, true, false}
use Prim.Native.Nat.{ℕ}
use native.Mathlib.Omega.{arith}
use Rattle.layout_theory.specs.Parameters.{smallest_r}
use Rattle.layout_theory.proofs.Parameters.{admits-admitted, admitted-admits, admitted-given}
use Rattle.layout_theory.proofs.Limits.{defaults}
use Rattle.shortened_theory.proofs.Between.{allows-allowed, allowed-allows, zero-allowed}
use Rattle.coder_theory.specs.State.{Usable}
use Rattle.coder_theory.specs.Reasons.{not_admitted, not_allowed, first_reason}
use Rattle.coder_theory.specs.Calls.{in_force, open_reasons, opened, state_reasons, if_usable, word_length, message_length, codeword_answer, shown}
use Rattle.coder_theory.specs.Demand1.{CodewordIn, RefusalGives, OpensWith, OpensWithZero, Demand1}
use Rattle.coder_theory.specs.declared.Record.{Record}
use Rattle.coder_theory.specs.declared.Opened.{Opened}
use Rattle.coder_theory.proofs.Rows.{done, row, by_first}
use Rattle.coder_theory.proofs.States.{state-clear, true-usable}
use Rattle.coder_theory.proofs.Answers.{opened-yes, element-told, unusable-length}
use Rattle.coder_theory.proofs.Outcomes.{says-yes, shown-no, word-accepted}
use Rattle.coder_theory.proofs.Refusals.{one-applies, allowed-applies, encode-untouched, correct-untouched, combine-untouched, invert-untouched, in-force, opened-fresh, opened-admits, opens_not}
use Rattle.coder_theory.proofs.Told.{syndrome-tells, codeword-tells, encode-tells, correct-tells, ask-tells, commit-tells, combine-tells, invert-tells, third-tells, syndrome-none, codeword-no}
use Rattle.coder_theory.proofs.Asking.{commit-untouched}
use Rattle.coder_theory.proofs.Codewords.{says-codeword, shows-codeword}
use Rattle.coder_theory.proofs.Accepts.{accepts, once_more}
use Rattle.coder_theory.proofs.Refused.{refused}

-- ---- a record that is not usable has no places
no_length : (rec : Record) (n : ℕ) → (Usable rec → ⊥) → if_usable rec n ≡ 0
no_length rec n never =
    unusable-length rec n (first_reason (state_reasons rec)).number refl (λ z. let c = state-clear rec z in never (true-usable rec c.1 c.2))

-- ---- reading
reading : (rec : Record) (w : List ℕ) → (shown rec w ≡ []) ↔ (Usable rec × CodewordIn rec w → ⊥)
reading rec w = ((λ e c. (shows-codeword rec c.0 w).1 c.1 e), go (codeword_answer rec w).yes refl)
  where
    go : (b : Bool) → (codeword_answer rec w).yes ≡ b → (Usable rec × CodewordIn rec w → ⊥) → shown rec w ≡ []
    go true y never =
        let f = (word-accepted rec w (says-yes rec w y).0).0 in
        absurd (never (f, (says-codeword rec f w).0 y))
    go false y never = sym (shown-no rec w (codeword_answer rec w) refl y)

gives : (rec : Record) → RefusalGives rec
unfolding word_length message_length
gives rec =
    record {
      layout = element-told rec;
      syndrome = λ w. (syndrome-tells rec w, syndrome-none rec w);
      codeword = λ w. (codeword-tells rec w, codeword-no rec w);
      encode = λ m out. (encode-tells rec m out, encode-untouched rec m out);
      correct = λ w out h. let k = correct-untouched rec w out h in (correct-tells rec w out h, k.1, k.0);
      ask = ask-tells rec;
      commit = λ p w h. let k = commit-untouched rec p w h in (commit-tells rec p w h, k.1, k.0);
      combine = λ x y out. (combine-tells rec x y out, combine-untouched rec x y out);
      invert = λ w out. (invert-tells rec w out, invert-untouched rec w out);
      third = third-tells rec;
      lengths = λ never. (no_length rec _ never, no_length rec _ never);
      reading = reading rec;
    }

-- ---- opening
opens-with : (t r s : ℕ) → OpensWith t r s
unfolding opened
opens-with t r s =
    let k = in_force t r in
    record {
      default = λ e. ap (in_force t) e;
      given = in-force t r;
      refused = by_first _ (open_reasons t r s) _ refl refl refl (row (not_admitted t k) (λ z. one-applies t k) (row (not_allowed t k s) (λ z. allowed-applies t k s) done));
      accepts = (
        (λ e. let a = opened-admits t r s e in (admits-admitted t k a.0, allows-allowed t k s a.1)),
        λ a. ap (λ (o : Opened). o.refusal) (opened-yes t r s (admitted-admits t k a.0) (allowed-allows t k s a.1)),
      );
      gives = opened-fresh t r s;
      closed = opens_not t r s;
    }

-- opening with r depends on the r in force alone
opened-same : (t r r' s : ℕ) → in_force t r ≡ in_force t r' → opened t r s ≡ opened t r' s
unfolding opened
opened-same t r r' s e = rw e

opens-with-zero : (t s : ℕ) → OpensWithZero t s
opens-with-zero t s =
    record {
      smallest = λ k h.
          let a = h.admitted in
          let b = (defaults t a.least a.most).smallest in
          let x = b.least k a in
          let y = h.least (smallest_r t) b.admitted in
          let e : smallest_r t ≡ k = omega arith in
          opened-same t 0 k s (e ∙ sym (in-force t k (admitted-given t k a)));
      refused = (
        (λ e h. ((opens-with t 0 s).refused.numbers.0.0 e).1 (defaults t h.0 h.1).smallest.admitted),
        λ never. (opens-with t 0 s).refused.numbers.0.1 (tt, λ a. never (a.least, a.most)),
      );
      accepts = (
        (λ e. let a = ((opens-with t 0 0).accepts.0 e).0 in (a.least, a.most)),
        λ h. let a = (defaults t h.0 h.1).smallest.admitted in (opens-with t 0 0).accepts.1 (a, zero-allowed t (smallest_r t) a),
      );
    }

pub demand1 : Demand1
demand1 = record {
  opening = opens-with;
  opening_zero = opens-with-zero;
  refused = refused;
  accepts = accepts;
  gives = gives;
  once_more = once_more;
}
