-- The width of a place and the third place, as the code tells them. Assumes nothing.
use mathlib.Core.Path.{◌≡◌, refl, sym, ap, ap₂, ◌∙◌}
use mathlib.Core.Logic.{◌≢◌}
use mathlib.Core.Bool.{Bool, true, false, ◌&&◌, not}
use Prim.Native.Nat.{ℕ, ◌+◌, ◌-◌, ◌<◌, ◌≤◌}
use native.Mathlib.Omega.{arith}
use native.Mathlib.Decide.{ℕ_discrete}
use borrow.Author.Tests.{eq-eqb, ne_eqb, le-leb, lt-leb, leb-true}
use lib.Dec.{eqb, leb}
use Rattle.group_theory.proofs.Signs.{both}
use Rattle.layout_theory.specs.Choice.{pick}
use Rattle.layout_theory.specs.Parameters.{places_of, moduli_for}
use Rattle.layout_theory.specs.Layout.{slots}
use Rattle.layout_theory.specs.Calls.{shape_for}
use Rattle.layout_theory.proofs.Parameters.{admitted-admits, known-for}
use Rattle.words_theory.specs.Halves as halves
use Rattle.words_theory.specs.Coding as coding
use Rattle.words_theory.specs.Calls as calls
use Rattle.words_theory.proofs.Widths.{width-nowhere}
use Rattle.shortened_theory.specs.Code.{third_old_place}
use Rattle.shortened_theory.specs.Calls.{allowed_for, shortened_width_for, is_shortened_place, shortened_third_for}
use Rattle.shortened_theory.proofs.Filling.{old-sum}
use Rattle.shortened_theory.proofs.Guards.{allowed-both}

-- ---- width
pub width-none : (t r s p : ℕ) → allowed_for t r s ≡ false → 0 ≡ shortened_width_for t r s p
unfolding shortened_width_for
width-none t r s p y = rw y

module _ (t r s p : ℕ) (y : allowed_for t r s ≡ true) where
  pub width-zero : p ≡ 0 → 0 ≡ shortened_width_for t r s p
  unfolding shortened_width_for
  width-zero e = rw (y, e)

  module _ (n : p ≢ 0) where
    -- the whole code's width of the place that p was
    pub width-old : calls.width_for t r (p + s) ≡ shortened_width_for t r s p
    unfolding shortened_width_for calls.width_for
    width-old = rw (y, admitted-admits t r (allowed-both t r s y).0) (ap (halves.width (slots (moduli_for t r))) (sym (old-sum s p n)))

    pub width-beyond : places_of t - s < p → 0 ≡ shortened_width_for t r s p
    width-beyond h =
        let ok = (allowed-both t r s y).0 in
        let k = known-for t r (shape_for t r) refl ok in
        width-nowhere t r (shape_for t r) refl (p + s)
        (ap (λ (m : ℕ). leb 1 (p + s) && leb (p + s) m) k.places ∙ ap (λ (b : Bool). leb 1 (p + s) && b) (lt-leb (p + s) (places_of t) (omega arith)) ∙ and_no (leb 1 (p + s)))
        ∙ width-old
      where
        and_no : (b : Bool) → (b && false) ≡ false
        and_no true = refl
        and_no false = refl

-- ---- the third place
-- the test of a place by n − s as the code holds it
pub place-by : (t s n p : ℕ) (x b : Bool) → n ≡ places_of t - s → x ≡ (leb 1 p && leb p n) → x ≡ b → is_shortened_place t s p ≡ b
place-by t s n p x b e f g = ap (λ (m : ℕ). leb 1 p && leb p m) (sym e) ∙ sym f ∙ g

pub third-none : (t r s i j : ℕ) → allowed_for t r s ≡ false → 0 ≡ shortened_third_for t r s i j
unfolding shortened_third_for
third-none t r s i j y = rw y

module _ (t r s i j : ℕ) (y : allowed_for t r s ≡ true) where
  pub third-first : is_shortened_place t s i ≡ false → 0 ≡ shortened_third_for t r s i j
  unfolding shortened_third_for
  third-first a = rw (y, a)

  module _ (a : is_shortened_place t s i ≡ true) where
    pub third-second : is_shortened_place t s j ≡ false → 0 ≡ shortened_third_for t r s i j
    unfolding shortened_third_for
    third-second b = rw (y, a, b)

    pub place-sum : (p : ℕ) → is_shortened_place t s p ≡ true → (p ≢ 0) × (p + s ≤ places_of t)
    place-sum p b =
        let q = both (leb 1 p) (leb p (places_of t - s)) b in
        let l = leb-true 1 p q.0 in
        let m = leb-true p (places_of t - s) q.1 in
        let st = (allowed-both t r s y).1.stays in
        ((λ z. omega arith), omega arith)

    place-old : (p : ℕ) → is_shortened_place t s p ≡ true → calls.is_place t (p + s) ≡ true
    place-old p b =
        let k = place-sum p b in
        let l = leb-true 1 p (both (leb 1 p) (leb p (places_of t - s)) b).0 in
        ap₂ ◌&&◌ (le-leb 1 (p + s) (omega arith)) (le-leb (p + s) (places_of t) k.1)

    same_test : eqb (i + s) (j + s) ≡ eqb i j
    same_test = go (ℕ_discrete i j)
      where
        go : Dec (i ≡ j) → eqb (i + s) (j + s) ≡ eqb i j
        go (yes e) = eq-eqb (i + s) (j + s) (omega arith) ∙ sym (eq-eqb i j e)
        go (no n) = ne_eqb (i + s) (j + s) (λ e. n (omega arith)) ∙ sym (ne_eqb i j n)

    pub third-old : is_shortened_place t s j ≡ true → calls.third_for t r (i + s) (j + s) ≡ shortened_third_for t r s i j
    unfolding shortened_third_for calls.third_for third_old_place
    third-old b =
        rw (y, a, b, admitted-admits t r (allowed-both t r s y).0, place-old i a, place-old j b, same_test)
        (ap₂ (λ (x z : ℕ). pick (not (eqb i j)) (coding.third (moduli_for t r) x z) 0) (sym (old-sum s i (place-sum i a).0)) (sym (old-sum s j (place-sum j b).0)))
