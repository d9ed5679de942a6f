-- Words with a single 1 and with two: their syndromes, and the third place told from them, as the code tells it. Assumes nothing.
use mathlib.Core.Path.{◌≡◌, refl, sym, ap, ap₂, ◌∙◌, subst}
use mathlib.Core.Logic.{◌≢◌, ◌⊎◌, inl, inr}
use mathlib.Core.Bool.{Bool, true, false}
use mathlib.Core.List.{List}
use Prim.Native.Nat.{ℕ, zero, suc, ◌-◌, ◌<◌, ◌≤◌}
use native.Mathlib.Omega.{arith}
use native.Mathlib.Decide.{ℕ_discrete}
use lib.Dec.{eqb, eqb_refl}
use lib.ListN.{length, get_or}
use Rattle.group_theory.specs.Group.{Modulus, zeros, sum, negative}
use Rattle.group_theory.proofs.Laws.{valid-negative, zero-sum, negative-negative}
use Rattle.group_theory.proofs.Signs.{T_true}
use Rattle.layout_theory.specs.Choice.{pick}
use Rattle.layout_theory.specs.Layout.{Slot, slots, element_at, place_of}
use Rattle.layout_theory.proofs.Places.{good-slots, valid-at-place, place-unique}
use Rattle.layout_theory.proofs.Cover.{negative-nonzero}
use Rattle.words_theory.specs.Words.{zero_word, flip_at, flip}
use Rattle.words_theory.specs.Syndrome.{syndrome, length_of}
use Rattle.words_theory.specs.Halves.{other_at, moved_at}
use Rattle.words_theory.specs.Coding.{third}
use Rattle.words_theory.specs.Calls.{fault}
use Rattle.words_theory.proofs.Reading.{Reads, valid-syndrome}
use Rattle.words_theory.proofs.Flips.{flip-reads, flipped-here, flipped-there}
use Rattle.words_theory.proofs.Perfect.{length-word, gains, fault-there}
use Rattle.words_theory.proofs.OtherHalf.{other-negative}
use Rattle.words_theory.proofs.Thirds.{zero-at, zero-syndrome, zero_word_lem, two_ones, two-reads, two-not, third-first, third-second, third-fault}

-- ---- where a place moves to, by the two bytes
module _ (sl : List Slot) (w : List ℕ) (i : ℕ) where
  pub stays : get_or w i 0 ≡ get_or w (other_at sl i) 0 → moved_at sl w i ≡ i
  unfolding moved_at
  stays e = rw e (same-pick (get_or w (other_at sl i) 0))
    where
      same-pick : (b : ℕ) → pick (eqb b b) i (other_at sl i) ≡ i
      same-pick b = rw (T_true (eqb b b) (eqb_refl b))

  pub goes : get_or w i 0 ≡ 0 → get_or w (other_at sl i) 0 ≡ 1 → moved_at sl w i ≡ other_at sl i
  unfolding moved_at
  goes e f = rw (e, f)

  pub either : (moved_at sl w i ≡ i) ⊎ (moved_at sl w i ≡ other_at sl i)
  unfolding moved_at
  either = go (eqb (get_or w i 0) (get_or w (other_at sl i) 0))
    where
      go : (b : Bool) → (pick b i (other_at sl i) ≡ i) ⊎ (pick b i (other_at sl i) ≡ other_at sl i)
      go true = inl refl
      go false = inr refl

-- ---- the word with a single 1 at place p has the element of p
pub one-element : (ms : List Modulus) (p : ℕ) → p ≤ length_of ms → syndrome ms (flip p (zero_word (length_of ms))) ≡ element_at ms p
unfolding element_at
one-element ms zero h = zero-syndrome ms
one-element ms (suc i) h =
    let o = zero_word (length_of ms) in
    let l = length-word ms o (zero_word_lem ms) in
    gains ms o (zero_word_lem ms) i (omega arith)
    ∙ ap₂ (λ (s : List ℕ) (k : ℕ). sum ms s (element_at ms (suc k))) (zero-syndrome ms)
    (stays (slots ms) o i (zero-at (length_of ms) i ∙ sym (zero-at (length_of ms) (other_at (slots ms) i))))
    ∙ zero-sum ms (element_at ms (suc i)) (valid-at-place ms (suc i))

-- ---- ones at the places of index i and j
module _ (ms : List Modulus) (i j : ℕ) (hi : i < length_of ms) (hj : j < length_of ms) (n : i ≢ j) where
  abbrev o : List ℕ
  o = zero_word (length_of ms)

  abbrev w₁ : List ℕ
  w₁ = flip_at i o

  abbrev w₂ : List ℕ
  w₂ = two_ones ms i j hi hj n

  r₁ : Reads (slots ms) w₁
  r₁ = flip-reads (zero_word_lem ms) i

  length_o : length o ≡ length_of ms
  length_o = length-word ms o (zero_word_lem ms)

  first_one : get_or w₁ i 0 ≡ 1
  first_one = let l = length_o in flipped-here o i (omega arith) ∙ ap (λ (b : ℕ). 1 - b) (zero-at (length_of ms) i)

  else-none : (k : ℕ) → k ≢ i → get_or w₁ k 0 ≡ 0
  else-none k h = flipped-there o i k (λ e. h (sym e)) ∙ zero-at (length_of ms) k

  -- their syndrome: twice an element where they are the two halves of a pair, and else the sum of two
  two-gains : (k : ℕ) → moved_at (slots ms) w₁ j ≡ k → syndrome ms w₂ ≡ sum ms (element_at ms (suc i)) (element_at ms (suc k))
  two-gains k e =
      let l = length-word ms w₁ r₁ in
      gains ms w₁ r₁ j (omega arith) ∙ ap₂ (λ (s : List ℕ) (m : ℕ). sum ms s (element_at ms (suc m))) (one-element ms (suc i) hi) e

  pub two-halves : other_at (slots ms) j ≡ i → syndrome ms w₂ ≡ sum ms (element_at ms (suc i)) (element_at ms (suc i))
  two-halves e =
      two-gains i (goes (slots ms) w₁ j (else-none j (λ k. n (sym k))) (ap (λ (k : ℕ). get_or w₁ k 0) e ∙ first_one) ∙ e)

  pub two-apart : other_at (slots ms) j ≢ i → syndrome ms w₂ ≡ sum ms (element_at ms (suc i)) (element_at ms (suc j))
  two-apart e = two-gains j (stays (slots ms) w₁ j (else-none j (λ k. n (sym k)) ∙ sym (else-none (other_at (slots ms) j) e)))

  two-one : (k : ℕ) → (k ≡ i) ⊎ (k ≡ j) → get_or w₂ k 0 ≡ 1
  two-one k (inl e) = ap (λ (m : ℕ). get_or w₂ m 0) e ∙ flipped-there w₁ j i (λ f. n (sym f)) ∙ first_one
  two-one k (inr e) =
      let l = length-word ms w₁ r₁ in
      ap (λ (m : ℕ). get_or w₂ m 0) e ∙ flipped-here w₁ j (omega arith) ∙ ap (λ (b : ℕ). 1 - b) (else-none j (λ f. n (sym f)))

  two_none : (k : ℕ) → k ≢ i → k ≢ j → get_or w₂ k 0 ≡ 0
  two_none k a b = flipped-there w₁ j k (λ e. b (sym e)) ∙ else-none k a

  -- ---- the third place: the place of −s, or its other half where that place is one of the two
  abbrev s : List ℕ
  s = syndrome ms w₂

  nonzero : s ≢ zeros ms
  nonzero = two-not ms i j hi hj n

  abbrev Meets : ℕ → Type 0
  Meets p = (p ≡ suc i) ⊎ (p ≡ suc j)

  not-met : Meets (fault ms w₂) → ⊥
  not-met (inl e) = third-first ms i j hi hj n e
  not-met (inr e) = third-second ms i j hi hj n e

  module _ (k : ℕ) (at : element_at ms (suc k) ≡ negative ms s) (told : fault ms w₂ ≡ suc (moved_at (slots ms) w₂ k)) where
    place-minus : place_of ms (negative ms s) ≡ suc k
    place-minus = place-unique ms (negative ms s) (suc k) (valid-negative ms s) (negative-nonzero ms s (valid-syndrome ms w₂) nonzero) (omega arith) at

    place-plus : place_of ms s ≡ suc (other_at (slots ms) k)
    unfolding element_at
    place-plus =
        place-unique ms s (suc (other_at (slots ms) k)) (valid-syndrome ms w₂) nonzero (omega arith)
        (other-negative ms (slots ms) k (good-slots ms) ∙ ap (negative ms) at ∙ negative-negative ms s (valid-syndrome ms w₂))

    -- the other half is none of the two, or the place told would be
    stays-there : (Meets (suc k) → ⊥) → moved_at (slots ms) w₂ k ≡ k
    stays-there h = go (ℕ_discrete x i) (ℕ_discrete x j)
      where
        x : ℕ
        x = other_at (slots ms) k

        here : get_or w₂ k 0 ≡ 0
        here = two_none k (λ e. h (inl (ap suc e))) (λ e. h (inr (ap suc e)))

        moved_to : (x ≡ i) ⊎ (x ≡ j) → moved_at (slots ms) w₂ k ≡ x
        moved_to m = goes (slots ms) w₂ k here (two-one x m)

        go : Dec (x ≡ i) → Dec (x ≡ j) → moved_at (slots ms) w₂ k ≡ k
        go (yes e) d = absurd (not-met (inl (told ∙ ap suc (moved_to (inl e) ∙ e))))
        go (no a) (yes e) = absurd (not-met (inr (told ∙ ap suc (moved_to (inr e) ∙ e))))
        go (no a) (no b) = stays (slots ms) w₂ k (here ∙ sym (two_none x a b))

    leaves : Meets (suc k) → moved_at (slots ms) w₂ k ≡ other_at (slots ms) k
    leaves m = go (either (slots ms) w₂ k)
      where
        go : (moved_at (slots ms) w₂ k ≡ k) ⊎ (moved_at (slots ms) w₂ k ≡ other_at (slots ms) k) → moved_at (slots ms) w₂ k ≡ other_at (slots ms) k
        go (inl e) = absurd (not-met (subst Meets (sym (told ∙ ap suc e)) m))
        go (inr e) = e

  pub third-apart : place_of ms (negative ms s) ≢ suc i → place_of ms (negative ms s) ≢ suc j → third ms (suc i) (suc j) ≡ place_of ms (negative ms s)
  third-apart a b =
      let f = fault-there ms w₂ (two-reads ms i j hi hj n) nonzero in
      let p = place-minus f.0 f.3 f.2 in
      third-fault ms i j hi hj n ∙ f.2 ∙ ap suc (stays-there f.0 f.3 f.2 (refuse p a b)) ∙ sym p
    where
      refuse : {k : ℕ} → place_of ms (negative ms s) ≡ suc k → place_of ms (negative ms s) ≢ suc i → place_of ms (negative ms s) ≢ suc j → Meets (suc k) → ⊥
      refuse p a b (inl e) = a (p ∙ e)
      refuse p a b (inr e) = b (p ∙ e)

  pub third-meets : (place_of ms (negative ms s) ≡ suc i) ⊎ (place_of ms (negative ms s) ≡ suc j) → third ms (suc i) (suc j) ≡ place_of ms s
  third-meets m =
      let f = fault-there ms w₂ (two-reads ms i j hi hj n) nonzero in
      let p = place-minus f.0 f.3 f.2 in
      third-fault ms i j hi hj n ∙ f.2 ∙ ap suc (leaves f.0 f.3 f.2 (met p m)) ∙ sym (place-plus f.0 f.3 f.2)
    where
      met : {k : ℕ} → place_of ms (negative ms s) ≡ suc k → (place_of ms (negative ms s) ≡ suc i) ⊎ (place_of ms (negative ms s) ≡ suc j) → Meets (suc k)
      met p (inl e) = inl (sym p ∙ e)
      met p (inr e) = inr (sym p ∙ e)
