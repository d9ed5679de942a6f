-- The theorems on words gathered: `word-group` and `pair-halves` for every list of moduli, and `code` for admitted t and r. Assumes nothing.
use mathlib.Core.Path.{◌≡◌, refl, sym, ap, ◌∙◌, subst}
use mathlib.Core.Logic.{◌≢◌}
use mathlib.Core.List.{List}
use Prim.Native.Nat.{ℕ, zero, suc, ◌≤◌, ◌<◌}
use native.Mathlib.Omega.{arith}
use lib.ListN.{length, take}
use Rattle.group_theory.specs.Group.{Modulus, zeros, sum, negative}
use Rattle.group_theory.proofs.Laws.{negative-zeros}
use Rattle.layout_theory.specs.Parameters.{Admitted, places_of, message_of, moduli_for}
use Rattle.layout_theory.specs.Layout.{slots, places, element_at}
use Rattle.layout_theory.proofs.Sizes.{length-places}
use Rattle.layout_theory.proofs.Places.{good-slots, valid-at-place, place-nonzero, place-unique}
use Rattle.layout_theory.proofs.Theorem.{layout}
use Rattle.words_theory.specs.Words.{Word, zero_word, combine, inverse}
use Rattle.words_theory.specs.Syndrome.{syndrome, length_of}
use Rattle.words_theory.specs.Halves.{other_at, other_half}
use Rattle.words_theory.specs.Coding.{encode}
use Rattle.words_theory.specs.Claims.{message_length_of, GroupOf, HalvesOf, CodeOf, Codes}
use Rattle.words_theory.proofs.OtherHalf.{other-other, other-lt, other-negative}
use Rattle.words_theory.proofs.Reading.{word-reads, reads_word}
use Rattle.words_theory.proofs.Adding.{adds-of}
use Rattle.words_theory.proofs.Combining.{combine-reads, inverse-reads, combine-comm, combine-assoc, combine-zero, combine-inverse, syndrome-combine, syndrome-inverse}
use Rattle.words_theory.proofs.Distances.{perfect}
use Rattle.words_theory.proofs.Carrying.{carried}
use Rattle.words_theory.proofs.Encoding.{encodes, encoded}
use Rattle.words_theory.proofs.Thirds.{thirds}
use Rattle.words_theory.proofs.TwoOnes.{one-element}

-- ---- every list of moduli
module _ (ms : List Modulus) where
  length-slots : length (places ms (slots ms)) ≡ length_of ms
  length-slots = let l = length-places ms in omega arith

  adds : (x y : List ℕ) → Word (length_of ms) x → Word (length_of ms) y → syndrome ms (combine (slots ms) x y) ≡ sum ms (syndrome ms x) (syndrome ms y)
  unfolding syndrome
  adds x y h k = syndrome-combine ms (good-slots ms) (word-reads ms h) (word-reads ms k)

  negates : (x : List ℕ) → Word (length_of ms) x → syndrome ms (inverse (slots ms) x) ≡ negative ms (syndrome ms x)
  unfolding syndrome
  negates x h = syndrome-inverse ms (good-slots ms) (word-reads ms h)

  pub word-group : GroupOf ms
  word-group =
      record {
        places = adds-of (slots ms);
        closed = λ x y h k. reads_word ms (combine-reads (word-reads ms h) (word-reads ms k));
        commutes = combine-comm (slots ms);
        associates = combine-assoc (slots ms);
        neutral = λ x h. ap (λ (n : ℕ). combine (slots ms) x (zero_word n)) (sym length-slots) ∙ combine-zero ms (word-reads ms h);
        inverts = λ x h. (reads_word ms (inverse-reads (word-reads ms h)), combine-inverse ms (word-reads ms h) ∙ ap zero_word length-slots);
        adds = adds;
        negates = negates;
        ones = one-element ms;
      }

-- ---- the halves of pairs
module _ (ms : List Modulus) where
  within : (p : ℕ) → p ≤ length_of ms → other_half (slots ms) p ≤ length_of ms
  within zero h = omega arith
  within (suc i) h = let l = length-slots ms in let k = other-lt ms (slots ms) i (omega arith) in omega arith

  twice : (p : ℕ) → other_half (slots ms) (other_half (slots ms) p) ≡ p
  twice zero = refl
  twice (suc i) = ap suc (other-other (slots ms) i)

  negates-half : (p : ℕ) → element_at ms (other_half (slots ms) p) ≡ negative ms (element_at ms p)
  unfolding element_at
  negates-half zero = sym (negative-zeros ms)
  negates-half (suc i) = other-negative ms (slots ms) i (good-slots ms)

  nonzero : (i : ℕ) → i < length (places ms (slots ms)) → element_at ms (suc i) ≢ zeros ms
  unfolding element_at
  nonzero i l = place-nonzero ms i l

  -- an element that is its own negative stands at one place alone
  same_place : (p : ℕ) → p ≤ length_of ms → negative ms (element_at ms p) ≡ element_at ms p → other_half (slots ms) p ≡ p
  same_place zero h e = refl
  same_place (suc i) h e =
      let n : element_at ms (suc i) ≢ zeros ms = nonzero i (let l = length-slots ms in omega arith) in
      let v = valid-at-place ms (suc i) in
      sym (place-unique ms (element_at ms (suc i)) (suc (other_at (slots ms) i)) v n (omega arith) (negates-half (suc i) ∙ e))
      ∙ place-unique ms (element_at ms (suc i)) (suc i) v n (omega arith) refl

  pub pair-halves : HalvesOf ms
  pair-halves =
      record {
        within = within;
        twice = twice;
        negates = negates-half;
        alone = λ p h. ((λ e. sym (negates-half p) ∙ ap (element_at ms) e), same_place p h);
      }

-- ---- admitted t and r
module _ (t r : ℕ) (ok : Admitted t r) where
  pub length-code : length_of (moduli_for t r) ≡ places_of t
  length-code = sym (length-slots (moduli_for t r)) ∙ (layout t r ok).all

  pub length-message-code : message_length_of (moduli_for t r) ≡ message_of t
  length-message-code = (layout t r ok).front

  pub word-code : {w : List ℕ} → Word (places_of t) w → Word (length_of (moduli_for t r)) w
  word-code {w} h = subst (λ (n : ℕ). Word n w) (sym length-code) h

  gathered : CodeOf t r
  gathered =
      let ms = moduli_for t r in
      let n = length-code in
      let m = length-message-code in
      record {
        groups = word-group ms;
        halves = pair-halves ms;
        perfect = λ w h. perfect ms w (word-code h);
        carries = λ d w c h. carried ms d w c (word-code h);
        encodes = λ x h. encodes ms x (subst (λ (k : ℕ). Word k x) (sym m) h);
        encoded = λ c k. subst (λ (l : ℕ). Word l (take l c) × (c ≡ encode ms (take l c))) m (encoded ms c k);
        thirds = λ i j a b c d e. thirds ms i j a (rw n b) c (rw n d) e;
      }

pub code : Codes
code t r ok = gathered t r ok
