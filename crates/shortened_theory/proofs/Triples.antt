-- The third place in the shortened code: at most one, and one exactly where the code's own is not left out. Assumes nothing.
use mathlib.Core.Path.{◌≡◌, sym, ap, subst, ◌∙◌}
use mathlib.Core.Logic.{◌≢◌}
use mathlib.Core.List.{List}
use Prim.Native.Nat.{ℕ, zero, suc, ◌-◌, ◌<◌, ◌≤◌}
use native.Mathlib.Omega.{arith}
use Rattle.group_theory.specs.Group.{Modulus}
use Rattle.words_theory.specs.Words.{zero_word, weight, flip}
use Rattle.words_theory.specs.Syndrome.{length_of}
use Rattle.words_theory.specs.Syndrome as syndromes
use Rattle.words_theory.specs.Coding.{ones_at}
use Rattle.words_theory.specs.Coding as coding
use Rattle.words_theory.specs.Claims as claims
use Rattle.words_theory.proofs.Thirds as whole
use Rattle.shortened_theory.specs.Code.{fill, old_place, new_place, LeftOut, third_old_place, shortened_third}
use Rattle.shortened_theory.specs.Claims.{ShortenedThreeAt, ShortenedThirdOf}
use Rattle.shortened_theory.proofs.Filling.{fill-zero, weight-fill, new-old, old-kept, old-within, old-new, flip-fill}

old-some : (s p : ℕ) → 0 < p → 0 < old_place s p
old-some s zero h = absurd (omega arith)
old-some s (suc i) h = omega arith

some-new : (s p : ℕ) → 0 < old_place s p → 0 < p
some-new s zero h = absurd (omega arith)
some-new s (suc i) h = omega arith

within_new : (n s p : ℕ) → old_place s p ≤ n → p ≤ n - s
within_new n s zero h = omega arith
within_new n s (suc i) h = omega arith

module _ (ms : List Modulus) (s : ℕ) (l : s ≤ length_of ms) where
  abbrev n : ℕ
  n = length_of ms

  fill-ones : (i j k : ℕ) → fill s (ones_at (n - s) i j k) ≡ ones_at n (old_place s i) (old_place s j) (old_place s k)
  fill-ones i j k =
      flip-fill s k (flip j (flip i (zero_word (n - s))))
      ∙ ap (flip (old_place s k))
      (flip-fill s j (flip i (zero_word (n - s)))
      ∙ ap (flip (old_place s j)) (flip-fill s i (zero_word (n - s)) ∙ ap (flip (old_place s i)) (fill-zero n s l)))

  weight-ones : (i j k : ℕ) → weight (ones_at (n - s) i j k) ≡ weight (ones_at n (old_place s i) (old_place s j) (old_place s k))
  weight-ones i j k = sym (weight-fill s (ones_at (n - s) i j k)) ∙ ap weight (fill-ones i j k)

  three-old : (i j k : ℕ) → ShortenedThreeAt ms s i j k → claims.ThreeAt ms (old_place s i) (old_place s j) (old_place s k)
  three-old i j k x =
      record {
        least = old-some s k x.least;
        most = old-within n s k l x.most;
        codeword = subst (syndromes.Codeword ms) (fill-ones i j k) x.codeword;
        weighs = sym (weight-ones i j k) ∙ x.weighs;
      }

  three-new : (i j k : ℕ) → claims.ThreeAt ms (old_place s i) (old_place s j) (old_place s k) → ShortenedThreeAt ms s i j k
  three-new i j k x =
      record {
        least = some-new s k x.least;
        most = within_new n s k x.most;
        codeword = subst (syndromes.Codeword ms) (sym (fill-ones i j k)) x.codeword;
        weighs = weight-ones i j k ∙ x.weighs;
      }

  module _ (i j : ℕ) (a : 0 < i) (b : i ≤ n - s) (c : 0 < j) (d : j ≤ n - s) (e : i ≢ j) where
    apart : old_place s i ≢ old_place s j
    apart x = e (sym (new-old s i) ∙ ap (new_place s) x ∙ new-old s j)

    entire : claims.ThirdOf ms (old_place s i) (old_place s j)
    entire = whole.thirds ms (old_place s i) (old_place s j) (old-some s i a) (old-within n s i l b) (old-some s j c) (old-within n s j l d) apart

    makes : (LeftOut s (third_old_place ms s i j) → ⊥) → ShortenedThreeAt ms s i j (shortened_third ms s i j)
    unfolding shortened_third third_old_place
    makes kept =
        three-new i j (shortened_third ms s i j)
        (subst (claims.ThreeAt ms (old_place s i) (old_place s j)) (sym (old-new s (coding.third ms (old_place s i) (old_place s j)) kept)) entire.makes)

    only-old : (k : ℕ) → ShortenedThreeAt ms s i j k → old_place s k ≡ third_old_place ms s i j
    unfolding third_old_place
    only-old k x = entire.only (old_place s k) (three-old i j k x)

    only : (k : ℕ) → ShortenedThreeAt ms s i j k → (LeftOut s (third_old_place ms s i j) → ⊥) × (k ≡ shortened_third ms s i j)
    unfolding shortened_third
    only k x = (
      (λ y. old-kept s k (subst (LeftOut s) (sym (only-old k x)) y)),
      sym (new-old s k) ∙ ap (new_place s) (only-old k x),
    )

    symmetric : shortened_third ms s i j ≡ shortened_third ms s j i
    unfolding shortened_third third_old_place
    symmetric = ap (new_place s) entire.symmetric

    pub thirds : ShortenedThirdOf ms s i j
    thirds = record { makes = makes; only = only; symmetric = symmetric }
