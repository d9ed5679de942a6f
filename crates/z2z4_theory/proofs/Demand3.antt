-- Demand 3 of the calls for C, and the third place: each call is the coder's call with a record just opened (Opening), for which demand 3 holds. Assumes nothing.
use mathlib.Core.Path.{◌≡◌, refl, sym, ap, ap₂, ◌∙◌}
use mathlib.Core.List.{List}
use Prim.Native.Nat.{ℕ, ◌-◌}
use native.Mathlib.Omega.{arith}
use lib.ListN.{take}
use lib.IntN.{pos}
use Rattle.layout_theory.specs.Parameters.{Admitted, places_of, message_of, moduli_for}
use Rattle.words_theory.specs.Words.{Word, flip}
use Rattle.shortened_theory.proofs.Whole.{new-zero, three-zero}
use Rattle.coder_theory.specs.State.{fresh, places_in}
use Rattle.coder_theory.specs.Calls.{encode_answer, encode_output, combine_answer, combine_output, correct_answer, correct_output, third_answer}
use Rattle.coder_theory.specs.Demand3.{OwnRecord, NotFull, AtWord}
use Rattle.coder_theory.specs.declared.Answer.{Answer}
use Rattle.coder_theory.proofs.States.{zero-usable}
use Rattle.coder_theory.proofs.Refusals.{fresh-fit}
use Rattle.coder_theory.proofs.Triples.{thirds}
use Rattle.coder_theory.proofs.Demand3.{demand3}
use Rattle.z2z4_theory.specs.Calls.{signed, encode_answer_for_c, correct_answer_for_c, combine_answer_for_c}
use Rattle.z2z4_theory.specs.Demand3.{Room, encoded_for, corrected_for, combined_for, AtWordForC, Demand3ForC, ThirdsForC}
use Rattle.z2z4_theory.proofs.Opening.{with-fresh, encodes-as-opened, corrects-as-opened, combines-as-opened, third-as-opened}

module _ (t r : ℕ) (ok : Admitted t r) where
  -- the record that opening gives, with the output of a call
  abbrev own : Room t → OwnRecord t r 0
  own o = record { given = fresh t r 0; code = record { is_t = refl; is_r = refl; is_s = refl; fit = fresh-fit t r 0 ok }; output = o.output; enough = let l = o.enough in omega arith }

  -- n − 0 is n
  front : {x y : List ℕ} → x ≡ y → take (places_of t) x ≡ take (places_of t - 0) y
  front {x} {y} e = ap₂ (λ (n : ℕ) (v : List ℕ). take n v) (sym (new-zero (places_of t))) e

  module _ (o : Room t) where
    -- what each call does is what the coder's call does with that record
    encode-answers : (m : List ℕ) → (encode_answer (fresh t r 0) m o.output).refusal ≡ 0 → encode_answer_for_c t r m o.output ≡ pos 0
    encode-answers m h = with-fresh t r ok (encodes-as-opened t r m o.output).answers ∙ ap (λ (n : ℕ). signed n 0) h

    encode-writes : (m : List ℕ) → encoded_for t r m o.output ≡ take (places_of t - 0) (encode_output (fresh t r 0) m o.output)
    encode-writes m = front (with-fresh t r ok (encodes-as-opened t r m o.output).writes)

    combine-answers : (x y : List ℕ) → (combine_answer (fresh t r 0) x y o.output).refusal ≡ 0 → combine_answer_for_c t r x y o.output ≡ pos 0
    combine-answers x y h = with-fresh t r ok (combines-as-opened t r x y o.output).answers ∙ ap (λ (n : ℕ). signed n 0) h

    combine-writes : (x y : List ℕ) → combined_for t r x y o.output ≡ take (places_of t - 0) (combine_output (fresh t r 0) x y o.output)
    combine-writes x y = front (with-fresh t r ok (combines-as-opened t r x y o.output).writes)

    correct-answers : (w : List ℕ) → (correct_answer (fresh t r 0) w o.output).refusal ≡ 0
        → correct_answer_for_c t r w o.output ≡ pos (correct_answer (fresh t r 0) w o.output).place
    correct-answers w h =
        with-fresh t r ok (corrects-as-opened t r w o.output).answers
        ∙ ap (λ (n : ℕ). signed n (correct_answer (fresh t r 0) w o.output).place) h

    correct-writes : (w : List ℕ) → corrected_for t r w o.output ≡ take (places_of t - 0) (correct_output (fresh t r 0) w o.output)
    correct-writes w = front (with-fresh t r ok (corrects-as-opened t r w o.output).writes)

  not_full : (o : Room t) → NotFull (own o)
  not_full o z = omega arith

  module _ (w : List ℕ) (h : Word (places_of t) w) where
    at : AtWord t r w
    at = demand3 t r ok w h

    for-c : AtWordForC t r w
    for-c =
        record {
          at = at;
          corrects = λ o.
              let k = at.corrects (own o) (not_full o) in
              (correct-answers o w k.0 ∙ ap pos k.2, correct-writes o w ∙ k.1);
          encodes = λ o.
              let m = take (message_of t) at.c in
              let k = at.encodes (own o) in
              (encode-answers o m k.0, encode-writes o m ∙ k.1);
          choices = λ m m' a a' i j l l' o o'.
              let k = at.choices m m' a a' i j l l' (own o) (own o') in (
                encode-answers o m k.0,
                encode-answers o' m' k.1,
                λ e. k.2 (ap (flip i) (sym (encode-writes o m)) ∙ e ∙ ap (flip j) (encode-writes o' m')),
              );
          carries = λ d cd o₁ o₂ o₃.
              let k = at.carries d cd (own o₁) (own o₂) (own o₃) (not_full o₂) in
              let e = combine-writes o₁ d w in
              let x = take (places_of t - 0) (combine_output (fresh t r 0) d w o₁.output) in (
                combine-answers o₁ d w k.0,
                combine-answers o₃ d at.c k.2,
                ap (λ (v : List ℕ). corrected_for t r v o₂.output) e ∙ correct-writes o₂ x ∙ k.3 ∙ sym (combine-writes o₃ d at.c),
                (
                  (correct_answer (fresh t r 0) x o₂.output).place,
                  ap (λ (v : List ℕ). correct_answer_for_c t r v o₂.output) e ∙ correct-answers o₂ x k.1,
                  k.4,
                ),
              );
        }

pub demand3-for-c : Demand3ForC
demand3-for-c t r ok w h = for-c t r ok w h

-- ---- the third place
pub thirds-for-c : ThirdsForC
unfolding places_in
thirds-for-c t r ok i j a b c d n =
    let y = thirds (fresh t r 0) i j (zero-usable (fresh t r 0) (fresh-fit t r 0 ok) refl) a (omega arith) c (omega arith) n in
    let p = (third_answer (fresh t r 0) i j).place in
    record {
      k = p;
      answers =
          with-fresh t r ok (third-as-opened t r i j).answers
          ∙ ap (λ (n : ℕ). signed n p) (ap (λ (x : Answer). x.refusal) ((y.some p).1 (y.one refl)));
      makes = (three-zero (moduli_for t r) i j p).0 (y.one refl);
      only = λ k z. sym (ap (λ (x : Answer). x.place) ((y.some k).1 ((three-zero (moduli_for t r) i j k).1 z)));
    }
