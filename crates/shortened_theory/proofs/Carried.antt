-- Combining with a codeword of the shortened code carries correction along: the place moves within its pair, and a pair is left out whole or
-- not at all. Assumes nothing.
use mathlib.Core.Path.{◌≡◌, sym, ap, subst, ◌∙◌}
use mathlib.Core.Logic.{◌⊎◌, inl, inr}
use mathlib.Core.List.{List}
use Prim.Native.Nat.{ℕ, zero, suc, ◌-◌, ◌<◌, ◌≤◌}
use native.Mathlib.Omega.{arith}
use native.Mathlib.Decide.{dec_lt}
use lib.ListN.{drop}
use Rattle.group_theory.specs.Group.{Modulus}
use Rattle.layout_theory.specs.Layout.{slots}
use Rattle.words_theory.specs.Words.{Word}
use Rattle.words_theory.specs.Words as words
use Rattle.words_theory.specs.Syndrome.{length_of}
use Rattle.words_theory.specs.Halves.{other_at, moved_at}
use Rattle.words_theory.specs.Halves as halves
use Rattle.words_theory.specs.Coding as coding
use Rattle.words_theory.specs.Claims as claims
use Rattle.words_theory.proofs.TwoOnes.{either}
use Rattle.words_theory.proofs.Carrying as whole
use Rattle.shortened_theory.specs.Code.{fill, new_place, LeftOut, ShortenedCodeword, shortened_combine, corrected_old_place, shortened_corrected, shortened_corrected_place, shortened_moved}
use Rattle.shortened_theory.specs.Claims.{EndsBetween, ShortenedCarriedBy}
use Rattle.shortened_theory.proofs.Filling.{word-fill}
use Rattle.shortened_theory.proofs.Cutting.{combines, other-left, other-right}
use Rattle.shortened_theory.proofs.Nearest.{renumbered, fill-corrected}

module _ (ms : List Modulus) (s : ℕ) (c : EndsBetween ms s) where
  -- ---- a place that is left out moves to one that is, and back
  index-left : (d : List ℕ) (i : ℕ) → i < s → moved_at (slots ms) d i < s
  index-left d i h = go (either (slots ms) d i)
    where
      go : (moved_at (slots ms) d i ≡ i) ⊎ (moved_at (slots ms) d i ≡ other_at (slots ms) i) → moved_at (slots ms) d i < s
      go (inl e) = omega arith
      go (inr e) = let k = other-left ms s c i h in omega arith

  index-right : (d : List ℕ) (i : ℕ) → s ≤ i → s ≤ moved_at (slots ms) d i
  index-right d i h = go (either (slots ms) d i)
    where
      go : (moved_at (slots ms) d i ≡ i) ⊎ (moved_at (slots ms) d i ≡ other_at (slots ms) i) → s ≤ moved_at (slots ms) d i
      go (inl e) = omega arith
      go (inr e) = let k = other-right ms s c i h in omega arith

  moved-left : (d : List ℕ) (q : ℕ) → LeftOut s q → LeftOut s (halves.moved (slots ms) d q)
  moved-left d zero h = absurd (omega (arith, h.0))
  moved-left d (suc i) h = let k = index-left d i (omega (arith, h.1)) in (omega arith, omega arith)

  left-moved : (d : List ℕ) (q : ℕ) → LeftOut s (halves.moved (slots ms) d q) → LeftOut s q
  left-moved d zero h = absurd (omega (arith, h.0))
  left-moved d (suc i) h = go (dec_lt i s)
    where
      go : Dec (i < s) → LeftOut s (suc i)
      go (yes k) = (omega arith, k)
      go (no k) = let m = index-right d i (omega arith) in absurd (omega (arith, h.1))

  -- ---- the theorem
  module _ (l : s ≤ length_of ms) (d w : List ℕ) (k : ShortenedCodeword ms s d) (h : Word (length_of ms - s) w) where
    entire : claims.CarriedBy ms (fill s d) (fill s w)
    entire = whole.carried ms (fill s d) (fill s w) k (word-fill (length_of ms) s l h)

    moves : corrected_old_place ms s (shortened_combine ms s d w) ≡ halves.moved (slots ms) (fill s d) (corrected_old_place ms s w)
    unfolding corrected_old_place
    moves = ap (coding.corrected_place ms) (combines ms s c d w) ∙ entire.place

    corrects : (LeftOut s (corrected_old_place ms s w) → ⊥) → shortened_corrected ms s (shortened_combine ms s d w) ≡ shortened_combine ms s d (shortened_corrected ms s w)
    unfolding shortened_corrected shortened_combine
    corrects kept =
        ap (λ (v : List ℕ). drop s (coding.corrected ms v)) (combines ms s c d w)
        ∙ ap (drop s) (entire.corrects ∙ ap (words.combine (slots ms) (fill s d)) (sym (fill-corrected ms s l w h kept)))

    place : (LeftOut s (corrected_old_place ms s w) → ⊥) → shortened_corrected_place ms s (shortened_combine ms s d w) ≡ shortened_moved ms s d (shortened_corrected_place ms s w)
    unfolding shortened_corrected_place
    place kept = ap (new_place s) (moves ∙ ap (halves.moved (slots ms) (fill s d)) (sym (renumbered ms s l w h kept)))

    pub carried : ShortenedCarriedBy ms s d w
    carried =
        record {
          both = (
            (λ x. left-moved (fill s d) (corrected_old_place ms s w) (subst (LeftOut s) moves x)),
            λ x. subst (LeftOut s) (sym moves) (moved-left (fill s d) (corrected_old_place ms s w) x),
          );
          corrects = corrects;
          place = place;
        }
