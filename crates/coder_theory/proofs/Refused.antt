-- Each call on a record is refused by the numbers, in the order, for the reasons of its rows (specs/Demand1): `refused`. Assumes nothing.
use mathlib.Core.Path.{◌≡◌, refl, sym, ap, ◌∙◌}
use mathlib.Core.Logic.{◌≢◌, ◌↔◌, ◌⊎◌, inl, inr}
use mathlib.Core.List.{List, ◌++◌}
use mathlib.Core.Bool.{true, false}
use Prim.Native.Nat.{ℕ}
use native.Mathlib.Omega.{arith}
use lib.ListN.{length}
use Rattle.group_theory.proofs.Signs.{not-true}
use Rattle.shortened_theory.specs.Allowed.{Allowed}
use Rattle.coder_theory.specs.State.{Usable, places_in, message_in, corrected_old_place_in, third_old_place_in, ThirdFallsOut}
use Rattle.coder_theory.specs.Reasons.{Reason, closed, unfit, not_allowed, wrong_length, short_output, bad_byte, outside, equal_places, left_out, not_asked, full}
use Rattle.coder_theory.specs.Calls.{state_reasons, layout_reasons, word_reasons, syndrome_answer, codeword_answer, write_reasons, encode_reasons, encode_answer}
use Rattle.coder_theory.specs.Calls.{ask_reasons, ask_answer, commit_reasons, commit_answer}
use Rattle.coder_theory.specs.Calls.{correct_reasons, correct_answer, combine_reasons, combine_answer, invert_reasons, invert_answer, third_reasons, third_answer}
use Rattle.coder_theory.specs.Demand1.{ThreeIn, word_places, Unfit, Short, NotBits, Outside, NoneNear, state_rows, read_rows, write_rows, IsPlace, IsWord, RefusedIn}
use Rattle.coder_theory.specs.declared.Record.{Record}
use Rattle.coder_theory.specs.declared.Answer.{Answer}
use Rattle.coder_theory.proofs.Rows.{Rowed, done, row, two, by_first}
use Rattle.coder_theory.proofs.States.{true-usable}
use Rattle.coder_theory.proofs.Answers.{element-refusal}
use Rattle.coder_theory.proofs.Outcomes.{inside-by, word-by}
use Rattle.coder_theory.proofs.Refusals.{by-test, closed-applies, unfit-applies, allowed-applies, left-applies, outside-applies, length-applies, output-applies, full-applies, byte-applies, equal-applies, asked-applies}
use Rattle.coder_theory.proofs.Corrections.{left_false}
use Rattle.coder_theory.proofs.Accepts.{has, kept, three}
use Rattle.coder_theory.proofs.Accepted.{third-accepts, third-left}

-- a reason that does not apply
off : {why : Type 0} (x : Reason) → (x.applies ≡ true) ↔ why → (why → ⊥) → x.applies ≡ false
off x same never = not-true x.applies (λ e. never (same.0 e))

-- ---- the state
abbrev Past : Record → Type 0
Past rec = ((Unit {0} × (rec.t ≢ 0)) × (Unfit rec → ⊥)) × ((Allowed rec.t rec.r rec.s → ⊥) → ⊥)

module _ (rec : Record) where
  state : {xs : List Reason} {rows : List (ℕ × Type 0)} → Rowed (Past rec) xs rows → Rowed (Unit {0}) (state_reasons rec ++ xs) (state_rows rec ++ rows)
  state later =
      row (closed rec) (λ z. closed-applies rec)
      (row (unfit rec) (λ z. unfit-applies rec)
      (row (not_allowed rec.t rec.r rec.s) (λ z. allowed-applies rec.t rec.r rec.s) later))

  usable : Past rec → Usable rec
  usable p =
      true-usable rec (off (unfit rec) (unfit-applies rec) p.0.1)
      (off (not_allowed rec.t rec.r rec.s) (allowed-applies rec.t rec.r rec.s) p.1)

  -- ---- a word that is read, and one that is read to be written; with further reasons
  abbrev Read : List ℕ → Type 0
  Read w = (Past rec × (length w ≢ word_places rec → ⊥)) × (NotBits w → ⊥)

  read-rows : (w : List ℕ) {xs : List Reason} {rows : List (ℕ × Type 0)} → Rowed (Read w) xs rows
      → Rowed (Unit {0}) (word_reasons rec w ++ xs) (read_rows rec w ++ rows)
  unfolding places_in
  read-rows w later = state (row (wrong_length (places_in rec) w) (λ z. length-applies (places_in rec) w) (row (bad_byte w) (λ z. byte-applies w) later))

  abbrev Written : ℕ → List ℕ → List ℕ → Type 0
  Written n w out = ((Past rec × (length w ≢ n → ⊥)) × (Short rec out → ⊥)) × (NotBits w → ⊥)

  write-rows : (n : ℕ) (w out : List ℕ) {xs : List Reason} {rows : List (ℕ × Type 0)} → Rowed (Written n w out) xs rows
      → Rowed (Unit {0}) (write_reasons rec n w (length out) ++ xs) (write_rows rec n w out ++ rows)
  unfolding places_in
  write-rows n w out later =
      state
      (row (wrong_length n w) (λ z. length-applies n w)
      (row (short_output (places_in rec) (length out)) (λ z. output-applies (places_in rec) (length out)) (row (bad_byte w) (λ z. byte-applies w) later)))

  -- ---- correction: the place is left out exactly where no codeword is within one place
  module _ (w : List ℕ) (p : Read w) where
    is_word : IsWord rec w
    is_word = word-by (word_places rec) w (off (wrong_length (word_places rec) w) (length-applies (word_places rec) w) p.0.1) (off (bad_byte w) (byte-applies w) p.1)

    left : ((left_out rec.s (corrected_old_place_in rec w)).applies ≡ true) ↔ NoneNear rec w
    left =
        by-test (left_out rec.s (corrected_old_place_in rec w)).applies
        (λ e c. kept rec w (usable p.0.0) is_word c ((left-applies rec.s (corrected_old_place_in rec w)).0 e))
        (λ y never. never (has rec w (usable p.0.0) is_word (left_false rec.s (corrected_old_place_in rec w) y)))

  -- ---- the third place
  module _ (i j : ℕ) (p : (Past rec × ((Outside rec i) ⊎ (Outside rec j) → ⊥)) × (i ≢ j)) where
    inside : (q : ℕ) → (Outside rec q → ⊥) → IsPlace rec q
    unfolding places_in
    inside q never = inside-by rec q (off (outside rec q) (outside-applies rec q) never)

    f : Usable rec
    f = usable p.0.0

    a : IsPlace rec i
    a = inside i (λ o. p.0.1 (inl o))

    b : IsPlace rec j
    b = inside j (λ o. p.0.1 (inr o))

    told : (ThirdFallsOut rec i j → ⊥) → (third_answer rec i j).refusal ≡ 0
    unfolding places_in
    told q = ap (λ (x : Answer). x.refusal) (third-accepts rec i j f a.0 a.1 b.0 b.1 p.1 q)

    stopped : ThirdFallsOut rec i j → (third_answer rec i j).refusal ≡ 11
    unfolding places_in
    stopped q = ap (λ (x : Answer). x.refusal) (third-left rec i j f a.0 a.1 b.0 b.1 p.1 q)

    third-left-out : ((left_out rec.s (third_old_place_in rec i j)).applies ≡ true) ↔ ((k : ℕ) → ThreeIn rec i j k → ⊥)
    third-left-out =
        by-test (left_out rec.s (third_old_place_in rec i j)).applies
        (λ e. (three rec i j f a b p.1).none.0 (stopped ((left-applies rec.s (third_old_place_in rec i j)).0 e)))
        (λ y never. clash (sym (told (left_false rec.s (third_old_place_in rec i j) y)) ∙ (three rec i j f a b p.1).none.1 never))
      where
        clash : ◌≡◌ {A = ℕ} 0 11 → ⊥
        clash z = omega arith

-- ---- the calls
pub refused : (rec : Record) → RefusedIn rec
unfolding places_in message_in syndrome_answer codeword_answer encode_answer correct_answer ask_answer commit_answer combine_answer invert_answer third_answer
refused rec =
    record {
      layout = λ p. by_first _ (layout_reasons rec p) _ refl refl (element-refusal rec p) (state rec (row (outside rec p) (λ z. outside-applies rec p) done));
      syndrome = λ w. by_first _ (word_reasons rec w) _ refl refl refl (read-rows rec w done);
      codeword = λ w. by_first _ (word_reasons rec w) _ refl refl refl (read-rows rec w done);
      encode = λ m out. by_first _ (encode_reasons rec m (length out)) _ refl refl refl (write-rows rec (message_in rec) m out done);
      correct = λ w out.
          by_first _ (correct_reasons rec w (length out)) _ refl refl refl
          (write-rows rec (word_places rec) w out
          (row (left_out rec.s (corrected_old_place_in rec w)) (λ p. left rec w ((p.0.0.0, p.0.0.1), p.1)) (row (full rec) (λ z. full-applies rec) done)));
      ask = λ w. by_first _ (ask_reasons rec w) _ refl refl refl (read-rows rec w (row (left_out rec.s (corrected_old_place_in rec w)) (left rec w) done));
      commit = λ p w.
          by_first _ (commit_reasons rec p w) _ refl refl refl
          (read-rows rec w
          (row (left_out rec.s (corrected_old_place_in rec w)) (left rec w)
          (row (not_asked p (ask_answer rec w).place) (λ z. asked-applies p (ask_answer rec w).place) (row (full rec) (λ z. full-applies rec) done))));
      combine = λ x y out.
          by_first _ (combine_reasons rec x y (length out)) _ refl refl refl
          (state rec
          (two (wrong_length (places_in rec) x) (wrong_length (places_in rec) y) refl (λ z. length-applies (places_in rec) x) (λ z. length-applies (places_in rec) y)
          (row (short_output (places_in rec) (length out)) (λ z. output-applies (places_in rec) (length out))
          (two (bad_byte x) (bad_byte y) refl (λ z. byte-applies x) (λ z. byte-applies y) done))));
      invert = λ w out. by_first _ (invert_reasons rec w (length out)) _ refl refl refl (write-rows rec (word_places rec) w out done);
      third = λ i j.
          by_first _ (third_reasons rec i j) _ refl refl refl
          (state rec
          (two (outside rec i) (outside rec j) refl (λ z. outside-applies rec i) (λ z. outside-applies rec j)
          (row (equal_places i j) (λ z. equal-applies i j)
          (row (left_out rec.s (third_old_place_in rec i j)) (third-left-out rec i j) done))));
    }
