-- Demand 1 of the calls for C, one theorem: `demand1-for-c`. Its statement is in specs/Demand1. Assumes nothing.
use mathlib.Core.Path.{◌≡◌, refl, sym, ap, subst, ◌∙◌}
use mathlib.Core.Logic.{◌≢◌, ◌↔◌, ◌⊎◌}
use mathlib.Core.List.{List, ◌++◌}
use mathlib.Core.Bool.{true, false, not}
use Prim.Native.Nat.{ℕ, zero, suc, ◌<◌, ◌≤◌}
use lib.ListN.{length, drop}
use lib.IntN.{pos}
use borrow.Author.Tests.{eqb-false, ltb-false, not-false, ne_eqb, le-ltb}
use Rattle.layout_theory.specs.Parameters.{admits, AdmittedOrZero, places_of, message_of}
use Rattle.layout_theory.specs.Calls.{or_hamming}
use Rattle.layout_theory.proofs.Parameters.{admits-admitted, admitted-admits, admitted-zero}
use Rattle.words_theory.specs.Words.{Word}
use Rattle.shortened_theory.proofs.Whole.{new-zero}
use Rattle.coder_theory.specs.State.{places_in, message_in, encoded_in, corrected_in, corrected_place_in, combine_in}
use Rattle.coder_theory.specs.Reasons.{Reason, first_reason, not_admitted, wrong_length, short_output, bad_byte, outside, equal_places}
use Rattle.coder_theory.specs.Calls.{write_input, output_of}
use Rattle.coder_theory.specs.declared.Record.{Record}
use Rattle.coder_theory.proofs.Firsts.{none-accepted, accepted-none}
use Rattle.coder_theory.proofs.Rows.{Rowed, done, row, two, by_first}
use Rattle.coder_theory.proofs.Outcomes.{if-refused, inside-by, word-by}
use Rattle.coder_theory.proofs.Refusals.{one-applies, outside-applies, length-applies, output-applies, byte-applies, equal-applies}
use Rattle.coder_theory.proofs.Accepted.{no-other-length, no-bad, inside}
use Rattle.z2z4_theory.specs.Calls.{signed, code_for, call_reasons, encode_reasons_for_c, encode_answer_for_c, encode_output_for_c, correct_reasons_for_c, correct_answer_for_c, correct_output_for_c}
use Rattle.z2z4_theory.specs.Calls.{combine_reasons_for_c, combine_answer_for_c, combine_output_for_c, third_reasons_for_c, third_answer_for_c}
use Rattle.z2z4_theory.specs.Demand1.{refusal_of, NotAdmitted, OutsideOf, write_rows_for_c, RefusedForC, AcceptsForC, UntouchedForC, Demand1ForC}

-- an answer tells its refusal
tells : (n p : ℕ) → refusal_of (signed n p) ≡ n
tells zero p = refl
tells (suc n) p = refl

-- a call that tells no place answers 0 exactly where it is accepted
answers-zero : (rs : List Reason) {F : Type 0} → (refusal_of (signed (first_reason rs).number 0) ≡ 0) ↔ F → (signed (first_reason rs).number 0 ≡ pos 0) ↔ F
answers-zero rs same = (
  (λ e. same.0 (ap refusal_of e)),
  λ h. ap (λ (k : ℕ). signed k 0) (sym (tells (first_reason rs).number 0) ∙ same.1 h),
)

module _ (t r : ℕ) where
  abbrev code : Record
  code = code_for t r

  -- with s = 0 a word has n places and a message n − t
  all : places_in code ≡ places_of t
  unfolding places_in
  all = new-zero (places_of t)

  message : message_in code ≡ message_of t
  unfolding message_in
  message = new-zero (message_of t)

  -- ---- the rows
  not-admitted : ((not_admitted t (or_hamming t r)).applies ≡ true) ↔ NotAdmitted t r
  not-admitted =
      let a = one-applies t (or_hamming t r) in
      ((λ e h. a.0 e ((admitted-zero t r).1 h)), λ n. a.1 (λ h. n ((admitted-zero t r).0 h)))

  other_length : (n k : ℕ) (w : List ℕ) → n ≡ k → ((wrong_length n w).applies ≡ true) ↔ (length w ≢ k)
  other_length n k w e = subst (λ (k : ℕ). ((wrong_length n w).applies ≡ true) ↔ (length w ≢ k)) e (length-applies n w)

  too_short : (out : List ℕ) → ((short_output (places_in code) (length out)).applies ≡ true) ↔ (length out < places_of t)
  too_short out =
      subst (λ (k : ℕ). ((short_output (places_in code) (length out)).applies ≡ true) ↔ (length out < k)) all (output-applies (places_in code) (length out))

  not-a-place : (p : ℕ) → ((outside code p).applies ≡ true) ↔ OutsideOf t p
  not-a-place p = subst (λ (k : ℕ). ((outside code p).applies ≡ true) ↔ ((p ≡ 0) ⊎ (k < p))) all (outside-applies code p)

  write-rows : (n k : ℕ) (w out : List ℕ) → n ≡ k → Rowed (Unit {0}) (call_reasons t r (write_input code n w (length out))) (write_rows_for_c t r k w out)
  write-rows n k w out e =
      row (not_admitted t (or_hamming t r)) (λ z. not-admitted)
      (row (wrong_length n w) (λ z. other_length n k w e)
      (row (short_output (places_in code) (length out)) (λ z. too_short out) (row (bad_byte w) (λ z. byte-applies w) done)))

  refused : RefusedForC t r
  unfolding encode_answer_for_c correct_answer_for_c combine_answer_for_c third_answer_for_c
  refused =
      record {
        encode = λ m out. by_first _ (encode_reasons_for_c t r m (length out)) _ refl refl (tells _ _) (write-rows (message_in code) (message_of t) m out message);
        correct = λ w out. by_first _ (correct_reasons_for_c t r w (length out)) _ refl refl (tells _ _) (write-rows (places_in code) (places_of t) w out all);
        combine = λ x y out.
            by_first _ (combine_reasons_for_c t r x y (length out)) _ refl refl (tells _ _)
            (row (not_admitted t (or_hamming t r)) (λ z. not-admitted)
            (two (wrong_length (places_in code) x) (wrong_length (places_in code) y) refl (λ z. other_length (places_in code) (places_of t) x all) (λ z. other_length (places_in code) (places_of t) y all)
            (row (short_output (places_in code) (length out)) (λ z. too_short out)
            (two (bad_byte x) (bad_byte y) refl (λ z. byte-applies x) (λ z. byte-applies y) done))));
        third = λ i j.
            by_first _ (third_reasons_for_c t r i j) _ refl refl (tells _ _)
            (row (not_admitted t (or_hamming t r)) (λ z. not-admitted)
            (two (outside code i) (outside code j) refl (λ z. not-a-place i) (λ z. not-a-place j) (row (equal_places i j) (λ z. equal-applies i j) done)));
      }

  -- ---- accepted exactly where
  admitted-by : (not_admitted t (or_hamming t r)).applies ≡ false → AdmittedOrZero t r
  admitted-by e = (admitted-zero t r).0 (admits-admitted t (or_hamming t r) (not-false (admits t (or_hamming t r)) e))

  by-admitted : AdmittedOrZero t r → (not_admitted t (or_hamming t r)).applies ≡ false
  by-admitted h = ap not (admitted-admits t (or_hamming t r) ((admitted-zero t r).1 h))

  room_by : (out : List ℕ) → (short_output (places_in code) (length out)).applies ≡ false → places_of t ≤ length out
  room_by out e = subst (λ (k : ℕ). k ≤ length out) all (ltb-false (length out) (places_in code) e)

  by-room : (out : List ℕ) → places_of t ≤ length out → (short_output (places_in code) (length out)).applies ≡ false
  by-room out l = le-ltb (length out) (places_in code) (subst (λ (k : ℕ). k ≤ length out) (sym all) l)

  word_of : (n k : ℕ) (w : List ℕ) → n ≡ k → (wrong_length n w).applies ≡ false → (bad_byte w).applies ≡ false → Word k w
  word_of n k w e a b = subst (λ (k : ℕ). Word k w) e (word-by n w a b)

  of_word : (n k : ℕ) (w : List ℕ) → n ≡ k → Word k w → Word n w
  of_word n k w e h = subst (λ (k : ℕ). Word k w) (sym e) h

  write-where : (n k : ℕ) (w out : List ℕ) (p : ℕ) → n ≡ k
      → (refusal_of (signed (first_reason (call_reasons t r (write_input code n w (length out)))).number p) ≡ 0)
      ↔ (AdmittedOrZero t r × Word k w × (places_of t ≤ length out))
  write-where n k w out p e = (
    (λ z.
        let h = accepted-none (call_reasons t r (write_input code n w (length out))) refl (sym (tells _ p) ∙ z) in
        (admitted-by h.0, word_of n k w e h.1.0 h.1.1.1.0, room_by out h.1.1.0)),
    λ h.
        let v = of_word n k w e h.1 in
        tells _ p
        ∙ none-accepted (call_reasons t r (write_input code n w (length out))) (by-admitted h.0, (no-other-length n w v, (by-room out h.2, (no-bad n w v, tt)))),
  )

  accepts : AcceptsForC t r
  unfolding encode_answer_for_c correct_answer_for_c combine_answer_for_c third_answer_for_c
  accepts =
      record {
        encode = λ m out. answers-zero (encode_reasons_for_c t r m (length out)) (write-where (message_in code) (message_of t) m out 0 message);
        correct = λ w out. write-where (places_in code) (places_of t) w out (corrected_place_in code w) all;
        combine = λ x y out. answers-zero (combine_reasons_for_c t r x y (length out)) (
          (λ z.
              let h = accepted-none (combine_reasons_for_c t r x y (length out)) refl (sym (tells _ 0) ∙ z) in (
                admitted-by h.0,
                word_of (places_in code) (places_of t) x all h.1.0 h.1.1.1.1.0,
                word_of (places_in code) (places_of t) y all h.1.1.0 h.1.1.1.1.1.0,
                room_by out h.1.1.1.0,
              )),
          λ h.
              let n = places_in code in
              let v = of_word n (places_of t) x all h.1 in
              let w = of_word n (places_of t) y all h.2 in
              tells _ 0
              ∙ none-accepted (combine_reasons_for_c t r x y (length out)) (by-admitted h.0, (no-other-length n x v, (no-other-length n y w, (by-room out h.3, (no-bad n x v, (no-bad n y w, tt)))))),
        );
        third = λ i j. (
          (λ z.
              let h = accepted-none (third_reasons_for_c t r i j) refl (sym (tells _ _) ∙ z) in
              let a = inside-by code i h.1.0 in
              let b = inside-by code j h.1.1.0 in
              (admitted-by h.0, a.0, subst (λ (k : ℕ). i ≤ k) all a.1, b.0, subst (λ (k : ℕ). j ≤ k) all b.1, eqb-false i j h.1.1.1.0)),
          λ h.
              tells _ _
              ∙ none-accepted (third_reasons_for_c t r i j) (
                by-admitted h.0,
                (inside code i h.1 (subst (λ (k : ℕ). i ≤ k) (sym all) h.2), (inside code j h.3 (subst (λ (k : ℕ). j ≤ k) (sym all) h.4), (ne_eqb i j h.5, tt))),
              ),
        );
      }

  -- ---- "a refused call alters no byte"
  kept : (rs : List Reason) (p : ℕ) (new out : List ℕ) → refusal_of (signed (first_reason rs).number p) ≢ 0 → output_of (first_reason rs) code new out ≡ out
  kept rs p new out h = if-refused (first_reason rs).number (new ++ drop (places_in code) out) out (λ z. h (tells (first_reason rs).number p ∙ z))

  untouched : UntouchedForC t r
  unfolding encode_answer_for_c encode_output_for_c correct_answer_for_c correct_output_for_c combine_answer_for_c combine_output_for_c
  untouched = record {
    encode = λ m out. kept (encode_reasons_for_c t r m (length out)) 0 (encoded_in code m) out;
    correct = λ w out. kept (correct_reasons_for_c t r w (length out)) (corrected_place_in code w) (corrected_in code w) out;
    combine = λ x y out. kept (combine_reasons_for_c t r x y (length out)) 0 (combine_in code x y) out;
  }

pub demand1-for-c : Demand1ForC
demand1-for-c = record { refused = refused; accepts = accepts; untouched = untouched }
