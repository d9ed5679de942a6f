-- The other half of a place as the code tells it, and what is told by it: the place of minus an element, the width, the place at fault and the
-- third place. Assumes nothing.
use mathlib.Core.Path.{◌≡◌, refl, sym, ap, ◌∙◌}
use mathlib.Core.Logic.{◌≢◌}
use mathlib.Core.Bool.{Bool, true, false, ◌&&◌}
use mathlib.Core.List.{List}
use Prim.Native.Nat.{ℕ, zero, suc, ◌+◌, ◌-◌, ◌<◌, ◌≤◌}
use native.Mathlib.Numerals.{add-one}
use native.Mathlib.Omega.{arith}
use native.Mathlib.Decide.{ℕ_discrete}
use borrow.Author.Tests.{le-leb, eq-eqb, ne_eqb}
use lib.Dec.{leb, eqb}
use lib.ListN.{length, get_or}
use Rattle.group_theory.specs.Group.{Modulus, moduli, negative}
use Rattle.group_theory.proofs.Signs.{both}
use Rattle.layout_theory.specs.Choice.{pick, zero_unless}
use Rattle.layout_theory.specs.Parameters.{Admitted, admits, places_of, moduli_for}
use Rattle.layout_theory.specs.Layout.{slots, places, place_of}
use Rattle.layout_theory.specs.Calls.{shape_for, place_for}
use Rattle.layout_theory.specs.declared.Shape.{Shape}
use Rattle.layout_theory.proofs.Parameters.{admits-admitted, admitted-admits, Known, known-for, known, moduli-known, length-for, place-for}
use Rattle.words_theory.specs.Halves.{other_at, other_half, width}
use Rattle.words_theory.specs.Calls.{is_place, width_for, fault_at}
use Rattle.words_theory.proofs.Shapes.{place-there, other-within}
use Rattle.words_theory.proofs.Widths.{width-single, width-pair, width-nowhere}
use Rattle.shortened_theory.specs.Code.{fill}
use Rattle.shortened_theory.specs.Calls.{allowed_for, fits_word}
use Rattle.shortened_theory.proofs.Guards.{allowed-both, word_fits}
use Rattle.loops_theory.specs.Writing.{Cut}
use Rattle.loops_theory.proofs.ByFilling.{word-allowed, cut-for}
use Rattle.loops_theory.proofs.Cuts.{other-old}
use Rattle.loops_theory.proofs.Faults.{other_place, place-within, fault-nothing, fault-gone, fault-kept}
use Rattle.places.specs.OtherHalf.{other_half_for}

place-none : (t r : ℕ) → admits t r ≡ false → (e : List ℕ) → place_for t r e ≡ 0
unfolding place_for
place-none t r y e = rw y refl

-- ---- by the code's test of a place
module _ (t r : ℕ) (s : Shape) (e : s ≡ shape_for t r) (p : ℕ) where
  pub half-there : (leb 1 p && leb p s.places) ≡ true → (i : ℕ) → i ≡ other_at (slots (moduli s.a s.b)) (p - 1) → i + 1 ≡ other_half_for t r p
  unfolding other_half_for
  half-there q i f =
      let h = place-there s.places p q in
      let k = known t r s e (omega (arith, h.0, h.1)) in
      let z : is_place t p ≡ true = ap (λ (n : ℕ). leb 1 p && leb p n) (sym k.places) ∙ q in
      rw (admitted-admits t r k.admitted, z) (half p h.0 (f ∙ ap (λ (ms : List Modulus). other_at (slots ms) (p - 1)) (moduli-known t r s k)))
    where
      half : (p : ℕ) → 0 < p → i ≡ other_at (slots (moduli_for t r)) (p - 1) → i + 1 ≡ other_half (slots (moduli_for t r)) p
      half zero h f = absurd (omega arith)
      half (suc j) h f = let x : suc j - 1 ≡ j = omega arith in add-one i ∙ ap suc (f ∙ ap (other_at (slots (moduli_for t r))) x)

  pub half-nowhere : (leb 1 p && leb p s.places) ≡ false → 0 ≡ other_half_for t r p
  unfolding other_half_for
  half-nowhere q = go (admits t r) refl
    where
      go : (b : Bool) → admits t r ≡ b → 0 ≡ zero_unless (admits t r && is_place t p) (other_half (slots (moduli_for t r)) p)
      go false y = rw y
      go true y =
          let k = known-for t r s e (admits-admitted t r y) in
          rw (y, ap (λ (n : ℕ). leb 1 p && leb p n) (sym k.places) ∙ q)

-- ---- the other half q of a place p of the code
pub record Told (t r p q : ℕ) : Type 0 where
  pub admitted : Admitted t r
  pub place : 0 < p
  pub place_most : p ≤ places_of t
  pub some : 0 < q
  pub most : q ≤ places_of t
  pub half : q ≡ other_half (slots (moduli_for t r)) p
  pub index : q - 1 ≡ other_at (slots (moduli_for t r)) (p - 1)

module _ {t r q : ℕ} (i : ℕ) (k : Told t r (suc i) q) where
  index-of : q - 1 ≡ other_at (slots (moduli_for t r)) i
  index-of = let x : suc i - 1 ≡ i = omega arith in k.index ∙ ap (other_at (slots (moduli_for t r))) x

  inside : i < length (places (moduli_for t r) (slots (moduli_for t r)))
  inside = let l = length-for t r k.admitted in let m = k.place_most in omega arith

module _ (t r p q : ℕ) (f : q ≡ other_half_for t r p) where
  pub told-at : Admitted t r → 0 < p → p ≤ places_of t → Told t r p q
  unfolding other_half_for
  told-at ok h l = go p h l half
    where
      half : q ≡ other_half (slots (moduli_for t r)) p
      half = f ∙ rw (admitted-admits t r ok, le-leb 1 p h, le-leb p (places_of t) l)

      go : (p : ℕ) → 0 < p → p ≤ places_of t → q ≡ other_half (slots (moduli_for t r)) p → Told t r p q
      go zero h l e = absurd (omega arith)
      go (suc i) h l e =
          let s = shape_for t r in
          let k = known-for t r s refl ok in
          let m = moduli-known t r s k in
          let n = other-within s (t, r, refl) (omega (arith, k.places)) i (omega (arith, k.places)) in
          let w = ap (λ (ms : List Modulus). other_at (slots ms) i) m in
          let x : suc i - 1 ≡ i = omega arith in
          record {
            admitted = ok;
            place = h;
            place_most = l;
            some = omega arith;
            most = omega (arith, k.places);
            half = e;
            index = omega (arith, ap (other_at (slots (moduli_for t r))) x);
          }

  -- one that is not 0 is the other half of a place
  pub told-some : q ≢ 0 → Told t r p q
  unfolding other_half_for
  told-some n = go (admits t r && is_place t p) refl
    where
      go : (b : Bool) → (admits t r && is_place t p) ≡ b → Told t r p q
      go false y = absurd (n (f ∙ rw y))
      go true y =
          let x = both (admits t r) (is_place t p) y in
          let h = place-there (places_of t) p x.1 in
          told-at (admits-admitted t r x.0) h.0 h.1

  -- and so is that of the place of an element
  pub told-there : Admitted t r → (e : List ℕ) → p ≡ place_for t r e → 0 < p → Told t r p q
  told-there ok e g h =
      let k = known-for t r (shape_for t r) refl ok in
      let m = place-within t r (shape_for t r) k e p g in
      told-at ok h (omega (arith, k.places))

  -- ---- the width
  pub width-nothing : q ≡ 0 → 0 ≡ width_for t r p
  unfolding other_half_for width_for
  width-nothing z = go (admits t r) refl (is_place t p) refl
    where
      go : (b : Bool) → admits t r ≡ b → (d : Bool) → is_place t p ≡ d → 0 ≡ pick (admits t r) (width (slots (moduli_for t r)) p) 0
      go false y d x = rw y
      go true y true x =
          let h = place-there (places_of t) p x in
          let k = told-at (admits-admitted t r y) h.0 h.1 in
          absurd (omega (arith, k.some))
      go true y false x =
          let k = known-for t r (shape_for t r) refl (admits-admitted t r y) in
          width-nowhere t r (shape_for t r) refl p (ap (λ (n : ℕ). leb 1 p && leb p n) k.places ∙ x)

  -- the width of a place, and whether it is its own other half
  pub width-own : q ≢ 0 → q ≡ p → 1 ≡ width_for t r p
  unfolding width_for
  width-own n e = go p (told-some n) e
    where
      go : (p : ℕ) → Told t r p q → q ≡ p → 1 ≡ pick (admits t r) (width (slots (moduli_for t r)) p) 0
      go zero k e = absurd (omega (arith, k.place))
      go (suc i) k e = rw (admitted-admits t r k.admitted) (sym (width-single (moduli_for t r) _ i (inside i k) (sym (index-of i k) ∙ omega arith)))

  pub width-other : q ≢ 0 → q ≢ p → 2 ≡ width_for t r p
  unfolding width_for
  width-other n m = go p (told-some n) m
    where
      go : (p : ℕ) → Told t r p q → q ≢ p → 2 ≡ pick (admits t r) (width (slots (moduli_for t r)) p) 0
      go zero k m = absurd (omega (arith, k.place))
      go (suc i) k m =
          rw (admitted-admits t r k.admitted)
          (sym (width-pair (moduli_for t r) _ i (inside i k) (λ e. m (let x = index-of i k in let y = k.some in omega (arith, e)))))

  -- ---- the place of minus an element, whose place p is
  pub minus-told : (e : List ℕ) → p ≡ place_for t r e → p ≢ 0 → q ≡ place_for t r (negative (moduli_for t r) e)
  minus-told e g n = go (admits t r) refl
    where
      go : (b : Bool) → admits t r ≡ b → q ≡ place_for t r (negative (moduli_for t r) e)
      go false y = absurd (n (g ∙ place-none t r y e))
      go true y =
          let ms = moduli_for t r in
          let ok = admits-admitted t r y in
          let k = told-there ok e g (omega arith) in
          let w : p ≡ place_of ms e = g ∙ place-for t r e ok in
          k.half ∙ ap (other_half (slots ms)) w ∙ sym (other_place ms e (λ z. n (w ∙ z))) ∙ sym (place-for t r (negative ms e) ok)

-- where the place is asked for with the code's own moduli
pub minus-for : (t r : ℕ) (s : Shape) → s ≡ shape_for t r → (e : List ℕ)
    → place_for t r (negative (moduli s.a s.b) e) ≡ place_for t r (negative (moduli_for t r) e)
minus-for t r s f e = go (admits t r) refl
  where
    go : (b : Bool) → admits t r ≡ b → place_for t r (negative (moduli s.a s.b) e) ≡ place_for t r (negative (moduli_for t r) e)
    go true y = ap (λ (ms : List Modulus). place_for t r (negative ms e)) (moduli-known t r s (known-for t r s f (admits-admitted t r y)))
    go false y = place-none t r y (negative (moduli s.a s.b) e) ∙ sym (place-none t r y (negative (moduli_for t r) e))

-- what the word has at two places p and q past the d that are left out, and which of them is x
pub record Kept (d : ℕ) (w : List ℕ) (p q x : ℕ) : Type 0 where
  pub place : p - d - 1 < length w
  pub left : d < q
  pub half : q - d - 1 < length w
  pub first : get_or w (p - d - 1) 0 ≡ get_or w (q - d - 1) 0 → p ≡ x
  pub second : get_or w (p - d - 1) 0 ≢ get_or w (q - d - 1) 0 → q ≡ x

-- ---- the place at fault: p is the place of minus the syndrome e, and the word fits
module _ (t r d : ℕ) (e w : List ℕ) (y : fits_word t r d (length w) ≡ true) (p : ℕ) (f : p ≡ place_for t r (negative (moduli_for t r) e)) where
  fine : allowed_for t r d ≡ true
  fine = word-allowed t r d (length w) y

  ok : Admitted t r
  ok = (allowed-both t r d fine).0

  abbrev s : Shape
  s = shape_for t r

  k : Known t r s
  k = known-for t r s refl ok

  c : Cut s d
  c = cut-for t r d s refl fine

  same-moduli : moduli s.a s.b ≡ moduli_for t r
  same-moduli = moduli-known t r s k

  g : p ≡ place_for t r (negative (moduli s.a s.b) e)
  g = f ∙ ap (λ (ms : List Modulus). place_for t r (negative ms e)) (sym same-moduli)

  -- it is none, or left out
  pub fault-early : p ≤ d → p ≡ fault_at (moduli_for t r) e (fill d w)
  fault-early h = go (ℕ_discrete p 0)
    where
      go : Dec (p ≡ 0) → p ≡ fault_at (moduli_for t r) e (fill d w)
      go (yes z) = z ∙ fault-nothing t r s k (fill d w) e p g z
      go (no n) = fault-gone t r d s k c w e p g n (omega arith)

  -- or it is kept, and so is its other half q
  module _ (h : d < p) (q : ℕ) (v : q ≡ other_half_for t r p) where
    told : Told t r p q
    told = told-there t r p q v ok _ f (omega arith)

    index : q - 1 ≡ other_at (slots (moduli s.a s.b)) (p - 1)
    index = told.index ∙ ap (λ (ms : List Modulus). other_at (slots ms) (p - 1)) (sym same-moduli)

    both-kept : (d ≤ q - 1) × (q - 1 < s.places)
    both-kept = let m = told.place_most in other-old s d c (p - 1) (q - 1) (omega arith) (omega (arith, k.places)) index

    at : (x : ℕ) → x - 1 - d ≡ x - d - 1
    at x = omega arith

    chosen : (b : Bool) → eqb (get_or w (p - d - 1) 0) (get_or w (q - d - 1) 0) ≡ b → pick b (p - 1) (q - 1) + 1 ≡ fault_at (moduli_for t r) e (fill d w)
    chosen b x =
        fault-kept t r d s k c w e p g (λ z. absurd (omega arith)) (omega arith) (q - 1) _ index both-kept.0
        (rw (at p, at q, x) refl)

    pub fault-kept-of : Kept d w p q (fault_at (moduli_for t r) e (fill d w))
    fault-kept-of =
        let a = (word_fits t r d (length w) y).all in
        let m = told.place_most in
        let n = told.most in
        let o = told.some in
        let b = both-kept.0 in
        let u : p ≡ p - 1 + 1 = omega arith in
        let z : q ≡ q - 1 + 1 = omega arith in
        record {
          place = omega arith;
          left = omega arith;
          half = omega arith;
          first = λ x. u ∙ chosen true (eq-eqb _ _ x);
          second = λ x. z ∙ chosen false (ne_eqb _ _ x);
        }
