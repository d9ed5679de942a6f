-- A code without its first d places, by index: the bytes of a filled word, the other half of a place that is kept, and the inverse.
-- Assumes nothing.
use mathlib.Core.Path.{◌≡◌, sym, ap, ◌∙◌}
use mathlib.Core.List.{List}
use mathlib.Core.Logic.{inl, inr}
use Prim.Native.Nat.{ℕ, ◌+◌, ◌-◌, ◌<◌, ◌≤◌}
use native.Mathlib.Decide.{dec_lt}
use native.Mathlib.Omega.{arith}
use lib.ListN.{length, get_or, length-drop, length-replicate, get_or-replicate, get_or-append}
use lib.Seq.{get_or-drop, get_or-append-add}
use Rattle.group_theory.specs.Group.{Modulus, moduli}
use Rattle.layout_theory.specs.Layout.{slots}
use Rattle.layout_theory.specs.Parts.{Located}
use Rattle.layout_theory.specs.declared.Shape.{Shape}
use Rattle.layout_theory.proofs.Parameters.{Sizes}
use Rattle.words_theory.specs.Words.{zero_word, inverse}
use Rattle.words_theory.specs.Halves.{other_at}
use Rattle.words_theory.proofs.OtherHalf.{inverse-at, length-inverse, swapped, other-one, other-two, other-three, other-four}
use Rattle.words_theory.proofs.Shapes.{sizes, located, length-slots, other-within}
use Rattle.shortened_theory.specs.Allowed.{EndsWhole}
use Rattle.shortened_theory.specs.Code.{fill, shortened_inverse}
use Rattle.loops_theory.specs.Writing.{Cut}

pub get_or-left : (d : ℕ) (w : List ℕ) (i : ℕ) → i < d → get_or (fill d w) i 0 ≡ 0
get_or-left d w i h = get_or-append (zero_word d) w 0 i (let l = length-replicate {A = ℕ} d 0 in omega arith) ∙ get_or-replicate d i 0 0 h

pub get_or-fill : (d : ℕ) (w : List ℕ) (i : ℕ) → get_or (fill d w) (d + i) 0 ≡ get_or w i 0
get_or-fill d w i = ap (λ (k : ℕ). get_or (fill d w) (k + i) 0) (sym (length-replicate d 0)) ∙ get_or-append-add (zero_word d) w i 0

pub get_d_kept : (d : ℕ) (w : List ℕ) (i : ℕ) → d ≤ i → get_or (fill d w) i 0 ≡ get_or w (i - d) 0
get_d_kept d w i h = let e : d + (i - d) ≡ i = omega arith in ap (λ (k : ℕ). get_or (fill d w) k 0) (sym e) ∙ get_or-fill d w (i - d)

-- the other half of a pair that is kept is kept
swapped-kept : (part d i : ℕ) → EndsWhole part d → part ≤ d + i → d ≤ part + swapped (d + i - part)
swapped-kept part d i (inl h) k = omega arith
swapped-kept part d i (inr h) k = let j = h.0 in let y = h.1 in omega arith

-- and that of a pair that is left out is left out
swapped-left : (part d i : ℕ) → EndsWhole part d → part ≤ i → i < d → part + swapped (i - part) < d
swapped-left part d i (inl h) k l = absurd (omega arith)
swapped-left part d i (inr h) k l = let j = h.0 in let y = h.1 in omega arith

module _ (s : Shape) (d : ℕ) (c : Cut s d) where
  abbrev ms : List Modulus
  ms = moduli s.a s.b

  z : Sizes s
  z = sizes s c.code c.some

  other-kept : (i : ℕ) → d + i < s.places → d ≤ other_at (slots ms) (d + i)
  other-kept i h = go (dec_lt (d + i) (s.binary - s.a)) (dec_lt (d + i) s.message) (dec_lt (d + i) (s.message + s.a))
    where
      L : Located s.a s.b (s.binary - s.a) s.message
      L = located s c.code c.some

      go : Dec (d + i < s.binary - s.a) → Dec (d + i < s.message) → Dec (d + i < s.message + s.a) → d ≤ other_at (slots ms) (d + i)
      go (yes l) m n = rw (other-one _ _ _ _ L (d + i) l) (omega arith)
      go (no l) (yes m) n = rw (other-two _ _ _ _ L (d + i) (omega arith) m) (swapped-kept (s.binary - s.a) d i c.ends (omega arith))
      go (no l) (no m) (yes n) = rw (other-three _ _ _ _ L (d + i) (omega arith) n) (omega arith)
      go (no l) (no m) (no n) = let st = c.stays in rw (other-four _ _ _ _ L (d + i) (omega arith) (omega (arith, z.check))) (omega arith)

  -- by the old index
  pub other-old : (i j : ℕ) → d ≤ i → i < s.places → j ≡ other_at (slots ms) i → (d ≤ j) × (j < s.places)
  other-old i j h l e =
      let k : d + (i - d) ≡ i = omega arith in
      (rw (e, ← k) (other-kept (i - d) (omega arith)), rw e (other-within s c.code c.some i l))

  pub other-gone : (i : ℕ) → i < d → other_at (slots ms) i < d
  other-gone i h = go (dec_lt i (s.binary - s.a))
    where
      L : Located s.a s.b (s.binary - s.a) s.message
      L = located s c.code c.some

      go : Dec (i < s.binary - s.a) → other_at (slots ms) i < d
      go (yes l) = rw (other-one _ _ _ _ L i l) h
      go (no l) = let st = c.stays in rw (other-two _ _ _ _ L i (omega arith) (omega arith)) (swapped-left (s.binary - s.a) d i c.ends (omega arith) h)

  module _ (w : List ℕ) where
    pub length_cut : length (shortened_inverse ms d w) ≡ s.places - d
    unfolding shortened_inverse
    length_cut =
        length-drop d (inverse (slots ms) (fill d w))
        ∙ ap (λ (n : ℕ). n - d) (length-inverse ms (slots ms) (fill d w) ∙ length-slots s c.code c.some)

    -- j is what `other_index` answers for the old index of i
    module _ (i j : ℕ) (h : d + i < s.places) (e : j ≡ other_at (slots ms) (d + i)) where
      pub index_kept : (d ≤ j) × (j < s.places)
      index_kept = (rw e (other-kept i h), rw e (other-within s c.code c.some (d + i) h))

      pub byte_cut : get_or w (j - d) 0 ≡ get_or (shortened_inverse ms d w) i 0
      unfolding shortened_inverse
      byte_cut =
          let k = index_kept.0 in
          let f : d + (j - d) ≡ j = omega arith in
          sym (get_or-fill d w (j - d))
          ∙ ap (λ (n : ℕ). get_or (fill d w) n 0) (f ∙ e)
          ∙ sym (inverse-at ms (slots ms) (fill d w) (d + i) (omega (arith, length-slots s c.code c.some)))
          ∙ sym (get_or-drop d (inverse (slots ms) (fill d w)) i 0)
