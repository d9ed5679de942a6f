-- Of a usable record: the codeword test says yes exactly of the codewords, and reading shows the message of exactly those.
-- Assumes nothing.
use mathlib.Core.Path.{◌≡◌, refl, sym, ap, subst, ◌∙◌}
use mathlib.Core.Logic.{◌≢◌, ◌↔◌}
use mathlib.Core.List.{List, []}
use mathlib.Core.Bool.{Bool, true, false}
use Prim.Native.Nat.{ℕ, ◌-◌}
use native.Mathlib.Omega.{arith}
use borrow.Author.Tests.{eqb-true, not-false}
use lib.Dec.{eqb}
use lib.ListN.{length}
use Rattle.group_theory.specs.Sign.{all_zero}
use Rattle.group_theory.proofs.Signs.{all_zero-zeros, zeros-all_zero}
use Rattle.words_theory.specs.Words.{Word}
use Rattle.words_theory.specs.Syndrome.{syndrome, length_of}
use Rattle.words_theory.proofs.Reading.{valid-syndrome}
use Rattle.words_theory.proofs.Theorem.{length-code}
use Rattle.shortened_theory.specs.Code.{fill}
use Rattle.shortened_theory.proofs.Filling.{fill-word}
use Rattle.coder_theory.specs.State.{Usable, moduli_in, places_in, is_codeword_in}
use Rattle.coder_theory.specs.Demand1.{CodewordIn}
use Rattle.coder_theory.specs.Reasons.{bad_place}
use Rattle.coder_theory.specs.Calls.{word_reasons, codeword_answer, shown}
use Rattle.coder_theory.specs.declared.Record.{Record}
use Rattle.coder_theory.specs.declared.TestAnswer.{TestAnswer}
use Rattle.coder_theory.proofs.Firsts.{accepted-none}
use Rattle.coder_theory.proofs.States.{filled_in}
use Rattle.words_theory.proofs.Bad.{none-bits}
use Rattle.coder_theory.proofs.Outcomes.{says-yes, shown-no}
use Rattle.coder_theory.proofs.Accepted.{codeword-accepts, reading-accepts}

module _ (rec : Record) (f : Usable rec) (w : List ℕ) where
  -- a filled word of the whole code is of the record's length without the s zeros
  shortened-word : Word (length_of (moduli_in rec)) (fill rec.s w) → Word (places_in rec) w
  unfolding places_in
  shortened-word h = subst (λ (n : ℕ). Word (n - rec.s) w) (length-code rec.t rec.r f.fit.admitted) (fill-word (length_of (moduli_in rec)) rec.s h)

  to : (codeword_answer rec w).yes ≡ true → CodewordIn rec w
  unfolding is_codeword_in
  to e =
      let y = says-yes rec w e in
      let h = accepted-none (word_reasons rec w) refl y.0 in
      let l = eqb-true (length w) (places_in rec) (not-false (eqb (length w) (places_in rec)) h.1.1.1.0) in
      let b = eqb-true (bad_place w) 0 (not-false (eqb (bad_place w) 0) h.1.1.1.1.0) in
      let ms = moduli_in rec in
      record {
        is_word = filled_in rec f (record { places = l; bits = none-bits 0 w b });
        is_zero = all_zero-zeros ms (syndrome ms (fill rec.s w)) (valid-syndrome ms (fill rec.s w)) y.1;
      }

  pub word_of : CodewordIn rec w → Word (places_in rec) w
  word_of c = shortened-word c.is_word

  pub zero_of : CodewordIn rec w → is_codeword_in rec w ≡ true
  unfolding is_codeword_in
  zero_of c = ap all_zero c.is_zero ∙ zeros-all_zero (moduli_in rec)

  -- "A codeword is a word of syndrome zero."
  pub says-codeword : ((codeword_answer rec w).yes ≡ true) ↔ CodewordIn rec w
  says-codeword = (to, λ c. ap (λ (a : TestAnswer). a.yes) (codeword-accepts rec w f (word_of c)) ∙ zero_of c)

  -- an empty part is shown exactly of what is no codeword
  pub shows-codeword : (shown rec w ≢ []) ↔ CodewordIn rec w
  shows-codeword = (go (codeword_answer rec w).yes refl, from)
    where
      go : (b : Bool) → (codeword_answer rec w).yes ≡ b → shown rec w ≢ [] → CodewordIn rec w
      go true y h = to y
      go false y h = absurd (h (sym (shown-no rec w (codeword_answer rec w) refl y)))

      from : CodewordIn rec w → shown rec w ≢ []
      from c z = let l = (reading-accepts rec w f (word_of c) (zero_of c)).1 in omega (arith, ap length z)
