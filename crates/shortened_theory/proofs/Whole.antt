-- With s = 0 the shortened code is the code: every definition is that of words_theory. Assumes nothing.
use mathlib.Core.Path.{◌≡◌, refl, sym, ap, ap₂, subst, ◌∙◌}
use mathlib.Core.Logic.{◌↔◌}
use mathlib.Core.List.{List}
use Prim.Native.Nat.{ℕ, zero, suc}
use native.Mathlib.Omega.{arith}
use Rattle.group_theory.specs.Group.{Modulus}
use Rattle.layout_theory.specs.Layout.{slots, element_at}
use Rattle.words_theory.specs.Words.{weight}
use Rattle.words_theory.specs.Words as words
use Rattle.words_theory.specs.Syndrome.{length_of}
use Rattle.words_theory.specs.Syndrome as syndromes
use Rattle.words_theory.specs.Halves as halves
use Rattle.words_theory.specs.Coding.{ones_at}
use Rattle.words_theory.specs.Coding as coding
use Rattle.words_theory.specs.Claims as claims
use Rattle.shortened_theory.specs.Code.{old_place, new_place, LeftOut, shortened_syndrome, shortened_element_at, shortened_encode, shortened_combine, shortened_inverse, shortened_corrected, shortened_corrected_place, corrected_old_place, shortened_third, third_old_place, shortened_width, shortened_other_half, shortened_moved}
use Rattle.shortened_theory.specs.Claims.{WholeOf, Whole, ShortenedThreeAt}

pub old-zero : (p : ℕ) → old_place 0 p ≡ p
old-zero zero = refl
old-zero (suc i) = omega arith

pub new-zero : (q : ℕ) → new_place 0 q ≡ q
new-zero q = omega arith

pub none_left : (q : ℕ) → LeftOut 0 q → ⊥
none_left q h = omega (arith, h.0, h.1)

module _ (ms : List Modulus) where
  pub syndrome-zero : (w : List ℕ) → shortened_syndrome ms 0 w ≡ syndromes.syndrome ms w
  unfolding shortened_syndrome
  syndrome-zero w = refl

  pub element-zero : (p : ℕ) → shortened_element_at ms 0 p ≡ element_at ms p
  unfolding shortened_element_at
  element-zero p = ap (element_at ms) (old-zero p)

  pub encode-zero : (m : List ℕ) → shortened_encode ms 0 m ≡ coding.encode ms m
  unfolding shortened_encode
  encode-zero m = refl

  pub combine-zero : (x y : List ℕ) → shortened_combine ms 0 x y ≡ words.combine (slots ms) x y
  unfolding shortened_combine
  combine-zero x y = refl

  pub inverse-zero : (w : List ℕ) → shortened_inverse ms 0 w ≡ words.inverse (slots ms) w
  unfolding shortened_inverse
  inverse-zero w = refl

  pub corrected-zero : (w : List ℕ) → shortened_corrected ms 0 w ≡ coding.corrected ms w
  unfolding shortened_corrected
  corrected-zero w = refl

  pub place-zero : (w : List ℕ) → shortened_corrected_place ms 0 w ≡ coding.corrected_place ms w
  unfolding shortened_corrected_place corrected_old_place
  place-zero w = new-zero (coding.corrected_place ms w)

  pub third-zero : (i j : ℕ) → shortened_third ms 0 i j ≡ coding.third ms i j
  unfolding shortened_third third_old_place
  third-zero i j = new-zero (coding.third ms (old_place 0 i) (old_place 0 j)) ∙ ap₂ (coding.third ms) (old-zero i) (old-zero j)

  pub width-zero : (p : ℕ) → shortened_width ms 0 p ≡ halves.width (slots ms) p
  width-zero p = ap (halves.width (slots ms)) (old-zero p)

  pub other-zero : (p : ℕ) → shortened_other_half ms 0 p ≡ halves.other_half (slots ms) p
  other-zero p = new-zero (halves.other_half (slots ms) (old_place 0 p)) ∙ ap (halves.other_half (slots ms)) (old-zero p)

  pub moved-zero : (d : List ℕ) (p : ℕ) → shortened_moved ms 0 d p ≡ halves.moved (slots ms) d p
  moved-zero d p = new-zero (halves.moved (slots ms) d (old_place 0 p)) ∙ ap (halves.moved (slots ms) d) (old-zero p)

  whole_of : WholeOf ms
  whole_of =
      record {
        codeword = λ w. ((λ h. h), λ h. h);
        syndrome = syndrome-zero;
        element = element-zero;
        encode = encode-zero;
        combine = combine-zero;
        inverse = inverse-zero;
        corrected = corrected-zero;
        place = place-zero;
        third = third-zero;
        width = width-zero;
        other = other-zero;
        moved = moved-zero;
        left_out = none_left;
      }

  -- three places of a codeword of weight 3
  pub three-zero : (i j k : ℕ) → ShortenedThreeAt ms 0 i j k ↔ claims.ThreeAt ms i j k
  three-zero i j k = (
    (λ x. record {
      least = x.least;
      most = let m = x.most in omega arith;
      codeword = subst (λ (n : ℕ). syndromes.Codeword ms (ones_at n i j k)) (new-zero (length_of ms)) x.codeword;
      weighs = subst (λ (n : ℕ). weight (ones_at n i j k) ≡ 3) (new-zero (length_of ms)) x.weighs;
    }),
    λ x. record {
      least = x.least;
      most = let m = x.most in omega arith;
      codeword = subst (λ (n : ℕ). syndromes.Codeword ms (ones_at n i j k)) (sym (new-zero (length_of ms))) x.codeword;
      weighs = subst (λ (n : ℕ). weight (ones_at n i j k) ≡ 3) (sym (new-zero (length_of ms))) x.weighs;
    },
  )

pub whole : Whole
whole ms = whole_of ms
