-- Binary places and places of a pair, for every layout: a place is of one of the two kinds, and it is binary exactly where it is its own
-- other half (width-kinds, width-alone, width-paired); parts 1 and 3 of the layout are the binary places
-- (binary-parts). And the width as the code tells it. Assumes nothing.
use mathlib.Core.Path.{◌≡◌, refl, sym, ap, ap₂, ◌∙◌}
use mathlib.Core.Logic.{◌≢◌, ◌⊎◌, inl, inr, ⊎_elim, ◌↔◌}
use mathlib.Core.Bool.{Bool, true, false, ◌&&◌}
use mathlib.Core.List.{List, [], ◌∷◌}
use Prim.Native.Nat.{ℕ, zero, suc, ◌+◌, ◌-◌, ◌*◌, ◌<◌, ◌≤◌}
use native.Mathlib.Nat.{suc_inj, suc-ne-zero}
use native.Mathlib.Decide.{dec_lt}
use native.Mathlib.Omega.{arith}
use borrow.Author.Tests.{eqb-true, eq-eqb}
use lib.Dec.{leb}
use lib.ListN.{length}
use Rattle.group_theory.specs.Group.{Modulus, moduli}
use Rattle.layout_theory.specs.Choice.{pick}
use Rattle.layout_theory.specs.Parameters.{Admitted, admits, places_of, message_of, binary_of, quaternary_of, moduli_for}
use Rattle.layout_theory.specs.Layout.{Slot, single, pair, slots, places}
use Rattle.layout_theory.specs.Calls.{shape_for}
use Rattle.layout_theory.specs.Parts.{Located}
use Rattle.layout_theory.specs.declared.Shape.{Shape}
use Rattle.layout_theory.proofs.Sizes.{length-places}
use Rattle.layout_theory.proofs.Parameters.{admits-admitted, admitted-admits, below_power, known-for, known, moduli-known, length-for}
use Rattle.words_theory.specs.Syndrome.{length_of}
use Rattle.words_theory.specs.Halves.{width_at, width, is_binary, is_paired, other_at, other_half}
use Rattle.words_theory.specs.Calls.{width_for}
use Rattle.words_theory.proofs.OtherHalf.{swapped, other-one, other-two, other-three, other-four}
use Rattle.words_theory.specs.Claims.{BinaryParts}
use Rattle.words_theory.proofs.Theorem.{length-code}
use Rattle.words_theory.proofs.Shapes.{place-there, place-beyond, located}

-- ---- any slots
-- what the width w of an index i and the index x of its other half are together
data Kind : ℕ → ℕ → ℕ → Type 0 where
  alone : {w x i : ℕ} → w ≡ 1 → x ≡ i → Kind w x i
  paired : {w x i : ℕ} → w ≡ 2 → x ≢ i → Kind w x i

later : {w x i : ℕ} → Kind w x i → Kind w (suc x) (suc i)
later (alone k e) = alone k (ap suc e)
later (paired k n) = paired k (λ e. n (suc_inj e))

kind : (ms : List Modulus) (sl : List Slot) (i : ℕ) → i < length (places ms sl) → Kind (width_at sl i) (other_at sl i) i
unfolding width_at other_at places
kind ms [] i h = absurd (omega arith)
kind ms (single e ∷ sl) zero h = alone refl refl
kind ms (single e ∷ sl) (suc i) h = later (kind ms sl i (omega arith))
kind ms (pair z ∷ sl) zero h = paired refl (suc-ne-zero 0)
kind ms (pair z ∷ sl) (suc zero) h = paired refl (λ e. suc-ne-zero 0 (sym e))
kind ms (pair z ∷ sl) (suc (suc i)) h = later (later (kind ms sl i (omega arith)))

one-or-two : {w x i : ℕ} → Kind w x i → (w ≡ 1) ⊎ (w ≡ 2)
one-or-two (alone k e) = inl k
one-or-two (paired k n) = inr k

alone-one : {w x i : ℕ} → Kind w x i → x ≡ i → w ≡ 1
alone-one (alone k e) f = k
alone-one (paired k n) f = absurd (n f)

one-alone : {w x i : ℕ} → Kind w x i → w ≡ 1 → x ≡ i
one-alone (alone k e) f = e
one-alone (paired k n) f = absurd (omega arith)

paired-two : {w x i : ℕ} → Kind w x i → x ≢ i → w ≡ 2
paired-two (alone k e) m = absurd (m e)
paired-two (paired k n) m = k

two-paired : {w x i : ℕ} → Kind w x i → w ≡ 2 → x ≢ i
two-paired (alone k e) f = absurd (omega arith)
two-paired (paired k n) f = n

-- the width told by the other half
module _ (ms : List Modulus) (sl : List Slot) (i : ℕ) (h : i < length (places ms sl)) where
  pub width-single : other_at sl i ≡ i → width_at sl i ≡ 1
  width-single e = alone-one (kind ms sl i h) e

  pub width-pair : other_at sl i ≢ i → width_at sl i ≡ 2
  width-pair n = paired-two (kind ms sl i h) n

width-beyond : (ms : List Modulus) (sl : List Slot) (i : ℕ) → length (places ms sl) ≤ i → width_at sl i ≡ 0
unfolding width_at places
width-beyond ms [] i h = refl
width-beyond ms (single e ∷ sl) zero h = absurd (omega arith)
width-beyond ms (single e ∷ sl) (suc i) h = width-beyond ms sl i (omega arith)
width-beyond ms (pair z ∷ sl) zero h = absurd (omega arith)
width-beyond ms (pair z ∷ sl) (suc zero) h = absurd (omega arith)
width-beyond ms (pair z ∷ sl) (suc (suc i)) h = width-beyond ms sl i (omega arith)

-- ---- the places of a layout
module _ (ms : List Modulus) where
  place-kind : (i : ℕ) → suc i ≤ length_of ms → Kind (width_at (slots ms) i) (other_at (slots ms) i) i
  place-kind i h = let l = length-places ms in kind ms (slots ms) i (omega arith)

  pub width-kinds : (p : ℕ) → 0 < p → p ≤ length_of ms → (width (slots ms) p ≡ 1) ⊎ (width (slots ms) p ≡ 2)
  width-kinds zero l h = absurd (omega arith)
  width-kinds (suc i) l h = one-or-two (place-kind i h)

  -- a binary place is its own other half, and a place of a pair is not
  pub width-alone : (p : ℕ) → 0 < p → p ≤ length_of ms → (is_binary (slots ms) p ≡ true) ↔ (other_half (slots ms) p ≡ p)
  width-alone zero l h = absurd (omega arith)
  width-alone (suc i) l h = (
    (λ t. ap suc (one-alone (place-kind i h) (eqb-true (width_at (slots ms) i) 1 t))),
    λ e. eq-eqb (width_at (slots ms) i) 1 (alone-one (place-kind i h) (suc_inj e)),
  )

  pub width-paired : (p : ℕ) → 0 < p → p ≤ length_of ms → (is_paired (slots ms) p ≡ true) ↔ (other_half (slots ms) p ≢ p)
  width-paired zero l h = absurd (omega arith)
  width-paired (suc i) l h = (
    (λ t e. two-paired (place-kind i h) (eqb-true (width_at (slots ms) i) 2 t) (suc_inj e)),
    λ n. eq-eqb (width_at (slots ms) i) 2 (paired-two (place-kind i h) (λ e. n (ap suc e))),
  )

-- ---- the parts of a layout: parts 1 and 3 are binary places, parts 2 and 4 are pairs
swapped-apart : (n i : ℕ) → n ≤ i → n + swapped (i - n) ≢ i
swapped-apart n i h e = omega arith

-- where the place of index i is its own other half
module _ (a b part front : ℕ) (l : Located a b part front) where
  alone-parts : (i : ℕ) → i < front + a + 2 * b
      → (other_at (slots (moduli a b)) i ≡ i) ↔ ((suc i ≤ part) ⊎ ((front < suc i) × (suc i ≤ front + a)))
  alone-parts i h = go (dec_lt i part) (dec_lt i front) (dec_lt i (front + a))
    where
      go : Dec (i < part) → Dec (i < front) → Dec (i < front + a)
          → (other_at (slots (moduli a b)) i ≡ i) ↔ ((suc i ≤ part) ⊎ ((front < suc i) × (suc i ≤ front + a)))
      go (yes x) y z = ((λ e. inl x), λ w. other-one a b part front l i x)
      go (no x) (yes y) z = (
        (λ e. absurd (swapped-apart part i (omega arith) (sym (other-two a b part front l i (omega arith) y) ∙ e))),
        ⊎_elim (λ w. absurd (x w)) (λ w. absurd (omega (arith, w.0))),
      )
      go (no x) (no y) (yes z) = ((λ e. inr (omega arith, z)), λ w. other-three a b part front l i (omega arith) z)
      go (no x) (no y) (no z) = (
        (λ e. absurd (swapped-apart (front + a) i (omega arith) (sym (other-four a b part front l i (omega arith) h) ∙ e))),
        ⊎_elim (λ w. absurd (x w)) (λ w. absurd (z w.1)),
      )

module _ (t r : ℕ) (h : Admitted t r) where
  located-for : Located (binary_of t r) (quaternary_of t r) (places_of r - binary_of t r) (message_of t)
  located-for =
      let s = shape_for t r in
      let k = known-for t r s refl h in
      let n = below_power t in
      rw (← k.a, ← k.b, ← k.binary, ← k.message) (located s (t, r, refl) (omega (arith, k.places)))

pub binary-parts : BinaryParts
binary-parts t r h zero l m = absurd (omega arith)
binary-parts t r h (suc i) l m =
    let n = length-code t r h in
    let w = width-alone (moduli_for t r) (suc i) l (omega arith) in
    let q = below_power t in
    let b = alone-parts (binary_of t r) (quaternary_of t r) (places_of r - binary_of t r) (message_of t) (located-for t r h) i (sum-for i m) in
    ((λ e. b.0 (omega (arith, w.0 e))), λ x. w.1 (ap suc (b.1 x)))
  where
    sum-for : (i : ℕ) → suc i ≤ places_of t → i < message_of t + binary_of t r + 2 * quaternary_of t r
    sum-for i m = let q = below_power t in omega (arith, h.within, h.twice)

-- ---- the width as the code tells it
module _ (t r : ℕ) (s : Shape) (e : s ≡ shape_for t r) where
  pub width-there : (p : ℕ) → (leb 1 p && leb p s.places) ≡ true → (x : ℕ) → x ≡ width_at (slots (moduli s.a s.b)) (p - 1) → x ≡ width_for t r p
  unfolding width_for
  width-there zero q x f = absurd (omega (arith, (place-there s.places 0 q).0))
  width-there (suc i) q x f =
      let h = place-there s.places (suc i) q in
      let k = known t r s e (omega (arith, h.1)) in
      let n : suc i - 1 ≡ i = omega arith in
      rw (admitted-admits t r k.admitted) (f ∙ ap₂ (λ (ms : List Modulus) (j : ℕ). width_at (slots ms) j) (moduli-known t r s k) n)

  pub width-nowhere : (p : ℕ) → (leb 1 p && leb p s.places) ≡ false → 0 ≡ width_for t r p
  unfolding width_for
  width-nowhere p q = go (admits t r) refl p q
    where
      go : (b : Bool) → admits t r ≡ b → (p : ℕ) → (leb 1 p && leb p s.places) ≡ false → 0 ≡ pick (admits t r) (width (slots (moduli_for t r)) p) 0
      go false y p q = rw y
      go true y zero q = rw y
      go true y (suc i) q =
          let k = known-for t r s e (admits-admitted t r y) in
          let l = length-for t r k.admitted in
          let h = place-beyond s.places (suc i) q (omega arith) in
          rw y (sym (width-beyond (moduli_for t r) (slots (moduli_for t r)) i (omega (arith, k.places))))
