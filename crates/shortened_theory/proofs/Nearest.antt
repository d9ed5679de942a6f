-- At most one codeword of the shortened code is within one place of a word: the code is perfect, and a place that is left out cannot be
-- flipped. Here s may end anywhere. Assumes nothing.
use mathlib.Core.Path.{◌≡◌, sym, ap, subst, ◌∙◌}
use mathlib.Core.List.{List}
use Prim.Native.Nat.{ℕ, ◌-◌, ◌≤◌}
use native.Mathlib.Omega.{arith}
use lib.ListN.{drop}
use Rattle.group_theory.specs.Group.{Modulus}
use Rattle.words_theory.specs.Words.{Word, distance, flip}
use Rattle.words_theory.specs.Syndrome.{length_of}
use Rattle.words_theory.specs.Syndrome as syndromes
use Rattle.words_theory.specs.Coding as coding
use Rattle.words_theory.specs.Claims.{PerfectAt}
use Rattle.words_theory.proofs.Distances.{distance-flip, neighbour, perfect}
use Rattle.shortened_theory.specs.Code.{fill, old_place, new_place, LeftOut, ShortenedCodeword, corrected_old_place, shortened_corrected, shortened_corrected_place}
use Rattle.shortened_theory.specs.Claims.{NearestTo}
use Rattle.shortened_theory.proofs.Filling.{dropped, word-fill, fill-word, distance-fill, new-old, old-kept, old-within, old-new, flip-fill}

module _ (ms : List Modulus) (s : ℕ) (l : s ≤ length_of ms) (w : List ℕ) (h : Word (length_of ms - s) w) where
  abbrev n : ℕ
  n = length_of ms

  whole : PerfectAt ms (fill s w)
  whole = perfect ms (fill s w) (word-fill n s l h)

  -- ---- a place that makes a codeword is the code's own, and so not left out
  place-old : (p : ℕ) → p ≤ n - s → ShortenedCodeword ms s (flip p w) → old_place s p ≡ corrected_old_place ms s w
  unfolding corrected_old_place
  place-old p k c = whole.place (old_place s p) (old-within n s p l k) (subst (syndromes.Codeword ms) (flip-fill s p w) c)

  place-new : (p : ℕ) → p ≤ n - s → ShortenedCodeword ms s (flip p w) → p ≡ shortened_corrected_place ms s w
  unfolding shortened_corrected_place
  place-new p k c = sym (new-old s p) ∙ ap (new_place s) (place-old p k c)

  place_kept : (p : ℕ) → p ≤ n - s → ShortenedCodeword ms s (flip p w) → LeftOut s (corrected_old_place ms s w) → ⊥
  place_kept p k c x = old-kept s p (subst (LeftOut s) (sym (place-old p k c)) x)

  -- ---- at most one
  pub only : (c : List ℕ) → ShortenedCodeword ms s c → distance c w ≤ 1 → c ≡ shortened_corrected ms s w
  unfolding shortened_corrected
  only c k d = sym (dropped s c) ∙ ap (drop s) (whole.only (fill s c) k (rw (distance-fill s c w) d))

  -- ---- none where the place is left out
  none : LeftOut s (corrected_old_place ms s w) → (c : List ℕ) → ShortenedCodeword ms s c → distance c w ≤ 1 → ⊥
  none x c k d =
      let v = fill-word n s k.is_word in
      let f = neighbour c w (v.places ∙ sym h.places) v.bits h.bits d in
      let e = h.places in
      place_kept f.0 (omega (arith, f.1)) (subst (ShortenedCodeword ms s) f.2 k) x

  within : shortened_corrected_place ms s w ≤ n - s
  unfolding shortened_corrected_place corrected_old_place
  within = let k = whole.within in omega arith

  module _ (kept : LeftOut s (corrected_old_place ms s w) → ⊥) where
    pub renumbered : old_place s (shortened_corrected_place ms s w) ≡ corrected_old_place ms s w
    unfolding shortened_corrected_place
    renumbered = old-new s (corrected_old_place ms s w) kept

    -- the code's correction of the filled word is a filled word
    fill-flip : fill s (flip (shortened_corrected_place ms s w) w) ≡ coding.corrected ms (fill s w)
    unfolding corrected_old_place
    fill-flip = flip-fill s (shortened_corrected_place ms s w) w ∙ ap (λ (q : ℕ). flip q (fill s w)) renumbered ∙ sym whole.flipped

    pub flipped : shortened_corrected ms s w ≡ flip (shortened_corrected_place ms s w) w
    unfolding shortened_corrected
    flipped = ap (drop s) (sym fill-flip) ∙ dropped s (flip (shortened_corrected_place ms s w) w)

    pub fill-corrected : fill s (shortened_corrected ms s w) ≡ coding.corrected ms (fill s w)
    fill-corrected = ap (fill s) flipped ∙ fill-flip

    pub codeword : ShortenedCodeword ms s (shortened_corrected ms s w)
    codeword = subst (syndromes.Codeword ms) (sym fill-corrected) whole.codeword

    near : distance (shortened_corrected ms s w) w ≤ 1
    near = rw flipped (distance-flip w (shortened_corrected_place ms s w))

  pub nearest : NearestTo ms s w
  nearest =
      record {
        only = only;
        none = none;
        codeword = codeword;
        near = near;
        renumbered = renumbered;
        within = within;
        flipped = flipped;
        place = λ p k c. (place_kept p k c, place-new p k c);
      }
