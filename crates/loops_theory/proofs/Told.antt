-- The third place as the code tells it, for two places of the code with t and r. Assumes nothing.
use mathlib.Core.Path.{◌≡◌, refl, sym, ap, ap₂, ◌∙◌}
use mathlib.Core.Logic.{◌≢◌, ◌⊎◌, inl, inr}
use mathlib.Core.Bool.{Bool, true, false, ◌&&◌, ◌||◌, not, and-false, true≢false}
use mathlib.Core.List.{List}
use Prim.Native.Nat.{ℕ, zero, suc, ◌-◌, ◌<◌, ◌≤◌}
use native.Mathlib.Omega.{arith}
use borrow.Author.Tests.{le-leb, eqb-true, eqb-false, eq-eqb, ne_eqb}
use lib.Dec.{leb, eqb}
use Rattle.group_theory.specs.Group.{Modulus, Valid, zeros, sum, negative, size}
use Rattle.group_theory.proofs.Laws.{valid-negative}
use Rattle.layout_theory.specs.Parameters.{admits, places_of, moduli_for}
use Rattle.layout_theory.specs.Layout.{slots, element_at, place_of}
use Rattle.layout_theory.specs.Calls.{shape_for, element_for, place_for}
use Rattle.layout_theory.specs.declared.Shape.{Shape}
use Rattle.layout_theory.proofs.Parameters.{admits-admitted, admitted-admits, known-for, known, element-for, place-for}
use Rattle.layout_theory.proofs.Cover.{negative-nonzero}
use Rattle.layout_theory.proofs.Places.{good-slots, place-unique, one_place}
use Rattle.words_theory.specs.Words.{zero_word, flip}
use Rattle.words_theory.specs.Syndrome.{syndrome, length_of}
use Rattle.words_theory.specs.Halves.{other_at}
use Rattle.words_theory.specs.Coding.{third}
use Rattle.words_theory.specs.Calls.{is_place, third_for, TwoPlaces}
use Rattle.words_theory.proofs.Reading.{valid-syndrome}
use Rattle.words_theory.proofs.OtherHalf.{other-negative}
use Rattle.words_theory.proofs.Thirds.{two-not}
use Rattle.words_theory.proofs.TwoOnes.{two-halves, two-apart, third-apart, third-meets}
use Rattle.words_theory.proofs.Theorem.{length-code}
use Rattle.words_theory.proofs.Shapes.{place-there}

-- the syndrome of ones at i and j
abbrev pub two_syndrome : ℕ → ℕ → ℕ → ℕ → List ℕ
two_syndrome t r i j = syndrome (moduli_for t r) (flip j (flip i (zero_word (length_of (moduli_for t r)))))

-- the index of a place
index : (i : ℕ) → suc i - 1 ≡ i
index i = omega arith

module _ (t r i j : ℕ) (h : TwoPlaces t r (suc i) (suc j)) where
  below : (k : ℕ) → suc k ≤ places_of t → k < length_of (moduli_for t r)
  below k l = let n = length-code t r h.admitted in omega arith

  apart : i ≢ j
  apart e = h.apart (ap suc e)

pub told-halves : (t r i j : ℕ) → TwoPlaces t r i j → other_at (slots (moduli_for t r)) (j - 1) ≡ i - 1
    → two_syndrome t r i j ≡ sum (moduli_for t r) (element_for t r i) (element_for t r i)
told-halves t r zero j h e = absurd (omega (arith, h.first))
told-halves t r (suc i) zero h e = absurd (omega (arith, h.second))
told-halves t r (suc i) (suc j) h e =
    two-halves (moduli_for t r) i j (below t r i j h i h.first_most) (below t r i j h j h.second_most) (apart t r i j h)
    (ap (other_at (slots (moduli_for t r))) (sym (index j)) ∙ e ∙ index i)
    ∙ ap (λ (x : List ℕ). sum (moduli_for t r) x x) (sym (element-for t r (suc i) h.admitted))

pub told-apart : (t r i j : ℕ) → TwoPlaces t r i j → other_at (slots (moduli_for t r)) (j - 1) ≢ i - 1
    → two_syndrome t r i j ≡ sum (moduli_for t r) (element_for t r i) (element_for t r j)
told-apart t r zero j h e = absurd (omega (arith, h.first))
told-apart t r (suc i) zero h e = absurd (omega (arith, h.second))
told-apart t r (suc i) (suc j) h e =
    two-apart (moduli_for t r) i j (below t r i j h i h.first_most) (below t r i j h j h.second_most) (apart t r i j h)
    (λ k. e (ap (other_at (slots (moduli_for t r))) (index j) ∙ k ∙ sym (index i)))
    ∙ ap₂ (sum (moduli_for t r)) (sym (element-for t r (suc i) h.admitted)) (sym (element-for t r (suc j) h.admitted))

-- the code's test whether k is i or j
pub either-of : (k i j : ℕ) → (eqb k i || eqb k j) ≡ true → (k ≡ i) ⊎ (k ≡ j)
either-of k i j e = go (eqb k i) refl e
  where
    go : (b : Bool) → eqb k i ≡ b → (b || eqb k j) ≡ true → (k ≡ i) ⊎ (k ≡ j)
    go true t u = inl (eqb-true k i t)
    go false t u = inr (eqb-true k j u)

pub neither-of : (k i j : ℕ) → (eqb k i || eqb k j) ≡ false → (k ≢ i) × (k ≢ j)
neither-of k i j e = go (eqb k i) refl e
  where
    go : (b : Bool) → eqb k i ≡ b → (b || eqb k j) ≡ false → (k ≢ i) × (k ≢ j)
    go true t u = absurd (true≢false u)
    go false t u = (eqb-false k i t, eqb-false k j u)

-- the place of a negative is the other half
place_other : (ms : List Modulus) (e : List ℕ) → Valid ms e → e ≢ zeros ms
    → (0 < place_of ms e) × (suc (other_at (slots ms) (place_of ms e - 1)) ≡ place_of ms (negative ms e))
unfolding element_at
place_other ms e v n = go (one_place ms e v n).0 (one_place ms e v n).1
  where
    go : (p : ℕ) → (0 < p) × (p < size ms) × (element_at ms p ≡ e) → (0 < place_of ms e) × (suc (other_at (slots ms) (place_of ms e - 1)) ≡ place_of ms (negative ms e))
    go zero h = absurd (omega (arith, h.0))
    go (suc i) h =
        let u : place_of ms e ≡ suc i = place-unique ms e (suc i) v n (omega arith) h.2 in
        let k : place_of ms e - 1 ≡ i = omega arith in (
          omega arith,
          ap (λ (m : ℕ). suc (other_at (slots ms) m)) k
              ∙ sym (place-unique ms (negative ms e) (suc (other_at (slots ms) i)) (valid-negative ms e) (negative-nonzero ms e v n) (omega arith)
              (other-negative ms (slots ms) i (good-slots ms) ∙ ap (negative ms) h.2)),
        )

-- where the place of the negated syndrome is none of the two it is the third; else the place of the syndrome is
abbrev pub minus_place : ℕ → ℕ → ℕ → ℕ → ℕ
minus_place t r i j = place_for t r (negative (moduli_for t r) (two_syndrome t r i j))

pub told-place : (t r i j : ℕ) → TwoPlaces t r i j → (p : ℕ) → p ≡ place_for t r (two_syndrome t r i j)
    → (0 < p) × (suc (other_at (slots (moduli_for t r)) (p - 1)) ≡ minus_place t r i j)
told-place t r zero j h p e = absurd (omega (arith, h.first))
told-place t r (suc i) zero h p e = absurd (omega (arith, h.second))
told-place t r (suc i) (suc j) h p e =
    let ms = moduli_for t r in
    let x = two_syndrome t r (suc i) (suc j) in
    let n = two-not ms i j (below t r i j h i h.first_most) (below t r i j h j h.second_most) (apart t r i j h) in
    let o = place_other ms x (valid-syndrome ms (flip (suc j) (flip (suc i) (zero_word (length_of ms))))) n in
    let f : p ≡ place_of ms x = e ∙ place-for t r x h.admitted in
    let q = o.0 in
    (omega arith, ap (λ (m : ℕ). suc (other_at (slots ms) (m - 1))) f ∙ o.1 ∙ sym (place-for t r (negative ms x) h.admitted))

pub told-third : (t r i j : ℕ) → TwoPlaces t r i j → minus_place t r i j ≢ i → minus_place t r i j ≢ j → minus_place t r i j ≡ third (moduli_for t r) i j
told-third t r zero j h a b = absurd (omega (arith, h.first))
told-third t r (suc i) zero h a b = absurd (omega (arith, h.second))
told-third t r (suc i) (suc j) h a b =
    let p = place-for t r (negative (moduli_for t r) (two_syndrome t r (suc i) (suc j))) h.admitted in
    p ∙ sym (third-apart (moduli_for t r) i j (below t r i j h i h.first_most) (below t r i j h j h.second_most) (apart t r i j h) (λ e. a (p ∙ e)) (λ e. b (p ∙ e)))

pub told-other : (t r i j : ℕ) → TwoPlaces t r i j → (minus_place t r i j ≡ i) ⊎ (minus_place t r i j ≡ j)
    → place_for t r (two_syndrome t r i j) ≡ third (moduli_for t r) i j
told-other t r zero j h m = absurd (omega (arith, h.first))
told-other t r (suc i) zero h m = absurd (omega (arith, h.second))
told-other t r (suc i) (suc j) h m =
    place-for t r (two_syndrome t r (suc i) (suc j)) h.admitted
    ∙ sym (third-meets (moduli_for t r) i j (below t r i j h i h.first_most) (below t r i j h j h.second_most) (apart t r i j h) (place m))
  where
    p : minus_place t r (suc i) (suc j) ≡ place_of (moduli_for t r) (negative (moduli_for t r) (two_syndrome t r (suc i) (suc j)))
    p = place-for t r (negative (moduli_for t r) (two_syndrome t r (suc i) (suc j))) h.admitted

    place : (minus_place t r (suc i) (suc j) ≡ suc i) ⊎ (minus_place t r (suc i) (suc j) ≡ suc j)
        → (place_of (moduli_for t r) (negative (moduli_for t r) (two_syndrome t r (suc i) (suc j))) ≡ suc i)
        ⊎ (place_of (moduli_for t r) (negative (moduli_for t r) (two_syndrome t r (suc i) (suc j))) ≡ suc j)
    place (inl e) = inl (sym p ∙ e)
    place (inr e) = inr (sym p ∙ e)

-- ---- for any two numbers
module _ (t r i j : ℕ) (s : Shape) (e : s ≡ shape_for t r) where
  pub two-places : (leb 1 i && leb i s.places) ≡ true → (leb 1 j && leb j s.places) ≡ true → i ≢ j → TwoPlaces t r i j
  two-places p q n =
      let a = place-there s.places i p in
      let b = place-there s.places j q in
      let k = known t r s e (omega (arith, a.0, a.1)) in
      record {
        admitted = k.admitted;
        first = a.0;
        first_most = omega (arith, a.1, k.places);
        second = b.0;
        second_most = omega (arith, b.1, k.places);
        apart = n;
      }

  pub third-two : TwoPlaces t r i j → third_for t r i j ≡ third (moduli_for t r) i j
  unfolding third_for
  third-two h =
      rw (
        admitted-admits t r h.admitted,
        le-leb 1 i h.first,
        le-leb i (places_of t) h.first_most,
        le-leb 1 j h.second,
        le-leb j (places_of t) h.second_most,
        ne_eqb i j h.apart,
      )

  -- the code's test of a place is the definition's where t and r are admitted
  test : (p : ℕ) → admits t r ≡ true → (leb 1 p && leb p s.places) ≡ is_place t p
  test p o = ap (λ (n : ℕ). leb 1 p && leb p n) (known-for t r s e (admits-admitted t r o)).places

  none : (b : Bool) → admits t r ≡ b → (b ≡ true → (is_place t i && (is_place t j && not (eqb i j))) ≡ false) → 0 ≡ third_for t r i j
  unfolding third_for
  none true o f = rw (o, f refl)
  none false o f = rw o

  pub third-first-out : (leb 1 i && leb i s.places) ≡ false → 0 ≡ third_for t r i j
  third-first-out p = none (admits t r) refl (λ o. rw (← test i o, p))

  pub third-second-out : (leb 1 j && leb j s.places) ≡ false → 0 ≡ third_for t r i j
  third-second-out p = none (admits t r) refl (λ o. rw (← test j o, p) (and-false (is_place t i)))

  pub third-equal : i ≡ j → 0 ≡ third_for t r i j
  third-equal p = none (admits t r) refl (λ o. rw (eq-eqb i j p, and-false (is_place t j)) (and-false (is_place t i)))
