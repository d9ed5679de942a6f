-- What the functions on words answer, by their tests: those of a whole code, and the place at fault of one that may be shortened. Assumes nothing.
use mathlib.Core.Path.{◌≡◌, refl, sym, ap, ap₂, subst, ◌∙◌}
use mathlib.Core.Logic.{◌≢◌}
use mathlib.Core.Bool.{Bool, true, false, and-false}
use mathlib.Core.List.{List, ◌++◌}
use Prim.Native.Nat.{ℕ, zero, suc, ◌<◌, ◌≤◌}
use native.Mathlib.Omega.{arith}
use borrow.Author.Tests.{le-leb, lt-leb}
use lib.ListN.{length}
use Rattle.group_theory.specs.Group.{moduli, zeros}
use Rattle.layout_theory.specs.Choice.{zero_unless}
use Rattle.layout_theory.specs.Parameters.{admits, places_of, moduli_for}
use Rattle.layout_theory.specs.Calls.{shape_for}
use Rattle.layout_theory.specs.declared.Shape.{Shape}
use Rattle.layout_theory.proofs.Parameters.{admits-admitted, admitted-admits, below_power, Known, zeros-for}
use Rattle.words_theory.specs.Syndrome.{syndrome}
use Rattle.words_theory.specs.Calls.{fault}
use Rattle.shortened_theory.specs.Code.{fill}
use Rattle.shortened_theory.specs.Calls.{Fits, fits_word, shortened_fault_for}
use Rattle.shortened_theory.proofs.Filling.{length-fill}
use Rattle.shortened_theory.proofs.Guards.{word_fits}
use Rattle.coder_theory.specs.State.{places_in, message_in}
use Rattle.coder_theory.specs.Reasons.{Reason, first_reason}
use Rattle.coder_theory.specs.Calls.{state_reasons, word_length, message_length}
use Rattle.coder_theory.specs.declared.Record.{Record}
use Rattle.coder_theory.specs.declared.Size.{Size}
use Rattle.coder_theory.proofs.Firsts.{first-before}
use Rattle.coder_theory.proofs.States.{state-clear}
use Rattle.coder_theory.proofs.Answers.{usable-length}
use Rattle.two_passes.specs.Calls.{is_long, syndrome_for, fault_for}

-- ---- the test of t and r and of a word's length
-- a shape with no place is that of parameters that are not admitted
not-admitted : (t r : ℕ) (s : Shape) → s ≡ shape_for t r → s.places ≡ 0 → admits t r ≡ false
unfolding shape_for
not-admitted t r s e z = go (admits t r) refl
  where
    go : (b : Bool) → admits t r ≡ b → admits t r ≡ false
    go true y =
        let n : s.places ≡ places_of t = ap (λ (x : Shape). x.places) e ∙ ap (λ (b : Bool). zero_unless b (places_of t)) y in
        let h = admits-admitted t r y in
        let p = below_power t in
        absurd (omega arith)
    go false y = y

module _ (t r : ℕ) (w : List ℕ) (s : Shape) where
  long-none : s ≡ shape_for t r → s.places ≡ 0 → is_long t r w ≡ false
  long-none e z = rw (not-admitted t r s e z)

  long-short : Known t r s → length w < s.places → is_long t r w ≡ false
  long-short k h =
      rw (lt-leb (places_of t) (length w) (subst (λ (n : ℕ). length w < n) k.places h)) (and-false (admits t r))

  long-whole : Known t r s → s.places ≤ length w → is_long t r w ≡ true
  long-whole k h =
      rw (admitted-admits t r k.admitted, le-leb (places_of t) (length w) (subst (λ (n : ℕ). n ≤ length w) k.places h))

  -- ---- the syndrome
  pub syndrome-none : s ≡ shape_for t r → s.places ≡ 0 → zeros (moduli s.a s.b) ≡ syndrome_for t r w
  unfolding syndrome_for
  syndrome-none e z = rw (long-none e z) (zeros-for s.a s.b _ _)

  pub syndrome-short : Known t r s → length w < s.places → zeros (moduli s.a s.b) ≡ syndrome_for t r w
  unfolding syndrome_for
  syndrome-short k h = rw (long-short k h) (zeros-for s.a s.b _ _)

  pub syndrome-long : Known t r s → s.places ≤ length w → syndrome (moduli_for t r) w ≡ syndrome_for t r w
  unfolding syndrome_for
  syndrome-long k h = rw (long-whole k h)

  -- ---- the place at fault
  pub fault-none : s ≡ shape_for t r → s.places ≡ 0 → 0 ≡ fault_for t r w
  unfolding fault_for
  fault-none e z = rw (long-none e z)

  pub fault-short : Known t r s → length w < s.places → 0 ≡ fault_for t r w
  unfolding fault_for
  fault-short k h = rw (long-short k h)

  pub fault-long : Known t r s → s.places ≤ length w → fault (moduli_for t r) w ≡ fault_for t r w
  unfolding fault_for
  fault-long k h = rw (long-whole k h)

-- ---- the place at fault in a filled word, and in a word of a code that may be shortened
pub fault-filled : (t r s : ℕ) (w : List ℕ) → Fits t r s (places_of t) (length w) → fault_for t r (fill s w) ≡ fault (moduli_for t r) (fill s w)
unfolding fault_for
fault-filled t r s w f =
    let a = f.all in
    let l = length-fill s w in
    rw (admitted-admits t r f.admitted, le-leb (places_of t) (length (fill s w)) (omega arith))

module _ (t r s : ℕ) (w : List ℕ) where
  pub shorter-none : fits_word t r s (length w) ≡ false → 0 ≡ shortened_fault_for t r s w
  unfolding shortened_fault_for
  shorter-none y = rw y

  module _ (y : fits_word t r s (length w) ≡ true) where
    pub shorter-filled : fault (moduli_for t r) (fill s w) ≡ shortened_fault_for t r s w
    unfolding shortened_fault_for
    shorter-filled = rw y

    pub shorter-whole : s ≡ 0 → fault_for t r w ≡ shortened_fault_for t r s w
    shorter-whole e =
        ap (λ (k : ℕ). fault_for t r (fill k w)) (sym e) ∙ fault-filled t r s w (word_fits t r s (length w) y) ∙ shorter-filled

-- ---- the lengths of a record that is not fit are 0, but then a reason before them applies
module _ (rec : Record) (s : Size) (e : (s.places ≡ word_length rec) × (s.message ≡ message_length rec)) where
  pub by_lengths : (rs : ℕ → ℕ → List Reason)
      → first_reason (state_reasons rec ++ rs s.places s.message) ≡ first_reason (state_reasons rec ++ rs (places_in rec) (message_in rec))
  unfolding word_length message_length
  by_lengths rs = go (first_reason (state_reasons rec)).number refl
    where
      go : (n : ℕ) → (first_reason (state_reasons rec)).number ≡ n
          → first_reason (state_reasons rec ++ rs s.places s.message) ≡ first_reason (state_reasons rec ++ rs (places_in rec) (message_in rec))
      go zero z =
          let f = state-clear rec z in
          ap₂ (λ (n m : ℕ). first_reason (state_reasons rec ++ rs n m)) (e.0 ∙ usable-length rec (places_in rec) f) (e.1 ∙ usable-length rec (message_in rec) f)
      go (suc n) z =
          let h : (first_reason (state_reasons rec)).number ≢ 0 = λ y. let c : suc n ≡ 0 = sym z ∙ y in omega arith in
          first-before (state_reasons rec) (rs s.places s.message) h ∙ sym (first-before (state_reasons rec) (rs (places_in rec) (message_in rec)) h)
