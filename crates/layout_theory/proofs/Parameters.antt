-- The parameters: the test of the admitted ones is the statement, what is admitted where 0 means r = t, and what a, b, n and k come to. The
-- limit on t enters only as "at most twelve components". Assumes nothing.
use mathlib.Core.Path.{◌≡◌, refl, sym, ap, ap₂, subst, ◌∙◌}
use mathlib.Core.Logic.{◌≢◌, ◌↔◌, inl, inr}
use mathlib.Core.List.{List}
use mathlib.Core.Bool.{Bool, true, false}
use Prim.Native.Nat.{ℕ, zero, suc, ◌+◌, ◌*◌, ◌%◌, ◌^◌, ◌<◌, ◌≤◌}
use native.Mathlib.Nat.{pow-succ', mod-eq_of_lt}
use native.Mathlib.Omega.{arith}
use lib.ListN.{length, get_or-eq_default}
use lib.Pow.{pow_pos, pow_mono, pow-lt}
use borrow.Author.Tests.{leb-true, le-leb}
use Rattle.group_theory.specs.Group.{moduli, zeros, size}
use Rattle.group_theory.proofs.Fill.{zeros-moduli}
use Rattle.group_theory.proofs.Numbers.{size-moduli}
use Rattle.group_theory.proofs.Signs.{both}
use Rattle.layout_theory.specs.Choice.{zero_unless}
use Rattle.layout_theory.specs.Parameters.{longest, Admitted, admits, AdmittedOrZero, places_of, pairs_of, message_of, binary_of, quaternary_of, moduli_for}
use Rattle.layout_theory.specs.Layout.{singles, pairs, slots, places, element_at, place_of}
use Rattle.layout_theory.specs.Calls.{or_hamming, shape_for, element_for, place_for}
use Rattle.layout_theory.specs.declared.Shape.{Shape}
use Rattle.layout_theory.proofs.Sizes.{twos, fours, halves, length-singles, length_pairs, length-places, shape-moduli}

pub admits-admitted : (t r : ℕ) → admits t r ≡ true → Admitted t r
unfolding admits
admits-admitted t r e =
    let a = both _ _ e in
    let b = both _ _ a.1 in
    let c = both _ _ b.1 in
    let d = both _ _ c.1 in
    record {
      least = leb-true _ _ a.0;
      most = leb-true _ _ b.0;
      binary = leb-true _ _ c.0;
      within = leb-true _ _ d.0;
      twice = leb-true _ _ d.1;
    }

pub admitted-admits : (t r : ℕ) → Admitted t r → admits t r ≡ true
unfolding admits
admitted-admits t r h =
    rw (
      le-leb _ _ h.least,
      le-leb _ _ h.most,
      le-leb _ _ h.binary,
      le-leb _ _ h.within,
      le-leb _ _ h.twice,
    )

-- an admitted r is one that is given
pub admitted-given : (t r : ℕ) → Admitted t r → r ≢ 0
admitted-given t r h z = let b = h.binary in omega arith

-- ---- r, or t where r is 0
pub or-given : (t r : ℕ) → r ≢ 0 → or_hamming t r ≡ r
or-given t zero h = absurd (h refl)
or-given t (suc r) h = refl

admitted-or : (t r : ℕ) → Admitted t (or_hamming t r) → AdmittedOrZero t r
admitted-or t zero h = inr (refl, h)
admitted-or t (suc r) h = inl h

or-admitted : (t r : ℕ) → AdmittedOrZero t r → Admitted t (or_hamming t r)
or-admitted t r (inl h) = subst (Admitted t) (sym (or-given t r (admitted-given t r h))) h
or-admitted t r (inr (z, h)) = subst (λ (k : ℕ). Admitted t (or_hamming t k)) (sym z) h

pub admitted-zero : (t r : ℕ) → Admitted t (or_hamming t r) ↔ AdmittedOrZero t r
admitted-zero t r = (admitted-or t r, or-admitted t r)

pub below_power : (t : ℕ) → t < 2 ^ t
below_power zero = omega arith
below_power (suc t) = let i = below_power t in rw pow-succ' (omega arith)

-- 1 shifted by k, in a word of so many bits
pub shift_one : (k bits : ℕ) → k < bits → 1 * 2 ^ k % 2 ^ bits ≡ 2 ^ k
shift_one k bits h =
    let l : 2 ^ k < 2 ^ bits = pow-lt h in
    mod-eq_of_lt (omega (arith, l)) ∙ omega arith

-- what the code needs of parameters that pass, so that nothing overflows
pub bounds : (t r : ℕ) (b : Bool) → b ≡ admits t r → b ≡ true
    → (t ≤ longest) × (r ≤ t) × (t ≤ 2 * r) × (t < 2 ^ t) × (0 < 2 ^ r)
bounds t r b e y =
    let h = admits-admitted t r (sym e ∙ y) in
    (h.most, h.within, h.twice, below_power t, pow_pos r)

-- what admitted parameters come to
module _ (t r : ℕ) (h : Admitted t r) where
  -- a + b = r, and there is room for that many components
  pub components : binary_of t r + quaternary_of t r ≤ 12
  components = omega arith

  -- the group has 2^t elements, of which 2^r are their own negatives
  pub size_for : size (moduli_for t r) ≡ 2 ^ t
  size_for =
      let e : binary_of t r + 2 * quaternary_of t r ≡ t = omega arith in
      size-moduli (binary_of t r) (quaternary_of t r) components ∙ ap (λ (k : ℕ). 2 ^ k) e

  halves-for : halves (moduli_for t r) ≡ 2 ^ r
  halves-for =
      let e : binary_of t r + quaternary_of t r ≡ r = omega arith in
      (shape-moduli (binary_of t r) (quaternary_of t r) components).2 ∙ ap (λ (k : ℕ). 2 ^ k) e

  pub twos-for : twos (moduli_for t r) ≡ binary_of t r
  twos-for = (shape-moduli (binary_of t r) (quaternary_of t r) components).0

  pub fours-for : fours (moduli_for t r) ≡ quaternary_of t r
  fours-for = (shape-moduli (binary_of t r) (quaternary_of t r) components).1

  -- part 1 and the a binary units are the k binary places
  pub singles-for : length (singles (moduli_for t r)) + binary_of t r ≡ places_of r
  singles-for = omega (arith, length-singles (moduli_for t r), halves-for, twos-for)

  -- part 2 and the b pairs of quaternary units are the (n − k)/2 pairs
  pub pairs-for : length (pairs (moduli_for t r)) + quaternary_of t r ≡ pairs_of t r
  pairs-for = omega (arith, length_pairs (moduli_for t r), halves-for, fours-for, size_for, pow_pos r, pow_pos t)

  -- parts 1 and 2 are the message
  pub message-for : length (singles (moduli_for t r)) + 2 * length (pairs (moduli_for t r)) ≡ message_of t
  message-for = omega (arith, length-singles (moduli_for t r), length_pairs (moduli_for t r), twos-for, fours-for, size_for)

-- ---- the shape that the code holds
pub record Known (t r : ℕ) (s : Shape) : Type 0 where
  pub admitted : Admitted t r
  pub a : s.a ≡ binary_of t r
  pub b : s.b ≡ quaternary_of t r
  pub places : s.places ≡ places_of t
  pub binary : s.binary ≡ places_of r
  pub message : s.message ≡ message_of t

-- the shape of admitted parameters
pub known-for : (t r : ℕ) (s : Shape) → s ≡ shape_for t r → Admitted t r → Known t r s
unfolding shape_for
known-for t r s e h = record {
  admitted = h;
  a = field (λ (x : Shape). x.a) ∙ kept-number (binary_of t r);
  b = field (λ (x : Shape). x.b) ∙ kept-number (quaternary_of t r);
  places = field (λ (x : Shape). x.places) ∙ kept-number (places_of t);
  binary = field (λ (x : Shape). x.binary) ∙ kept-number (places_of r);
  message = field (λ (x : Shape). x.message) ∙ kept-number (message_of t);
}
  where
    field : (f : Shape → ℕ) → f s ≡ f (shape_for t r)
    field f = ap f e

    kept-number : (n : ℕ) → zero_unless (admits t r) n ≡ n
    kept-number n = ap (λ (b : Bool). zero_unless b n) (admitted-admits t r h)

-- a shape with a place is that of admitted parameters
pub known : (t r : ℕ) (s : Shape) → s ≡ shape_for t r → 0 < s.places → Known t r s
unfolding shape_for
known t r s e h = go (admits t r) refl
  where
    go : (b : Bool) → admits t r ≡ b → Known t r s
    go true y = known-for t r s e (admits-admitted t r y)
    go false y =
        let z : s.places ≡ 0 = ap (λ (x : Shape). x.places) e ∙ ap (λ (b : Bool). zero_unless b (places_of t)) y in
        absurd (omega arith)

pub moduli-known : (t r : ℕ) (s : Shape) → Known t r s → moduli s.a s.b ≡ moduli_for t r
moduli-known t r s k = ap₂ moduli k.a k.b

-- what its numbers say of the layout at its moduli
pub record Sizes (s : Shape) : Type 0 where
  pub part : length (singles (moduli s.a s.b)) + s.a ≡ s.binary
  pub all : size (moduli s.a s.b) ≡ s.places + 1
  pub front : length (singles (moduli s.a s.b)) + 2 * length (pairs (moduli s.a s.b)) ≡ s.message
  pub room : s.a + s.b ≤ 12
  pub check : s.message + (s.a + 2 * s.b) ≡ s.places
  pub small : s.places < 2 ^ 24

pub sizes-known : (t r : ℕ) (s : Shape) → Known t r s → Sizes s
sizes-known t r s k =
    let h = k.admitted in
    let e = moduli-known t r s k in
    let x = singles-for t r h in
    let y = message-for t r h in
    let z = size_for t r h in
    let n = components t r h in
    let p = below_power t in
    let q : 2 ^ t ≤ 2 ^ 24 = pow_mono {i = t} {j = 24} (omega arith) in
    record {
      part = rw e (omega arith);
      all = rw e (omega arith);
      front = rw e (omega arith);
      room = omega arith;
      check = omega arith;
      small = omega arith;
    }

-- zero is the same twelve bytes whatever the moduli
pub zeros-for : (a b c d : ℕ) → zeros (moduli a b) ≡ zeros (moduli c d)
zeros-for a b c d = zeros-moduli a b ∙ sym (zeros-moduli c d)

-- the layout of admitted parameters
pub element-for : (t r p : ℕ) → Admitted t r → element_for t r p ≡ element_at (moduli_for t r) p
unfolding element_for
element-for t r p h = ap (λ (b : Bool). element_at (moduli_for t r) (zero_unless b p)) (admitted-admits t r h)

-- there is no element at place 0, nor beyond the last place
pub element-none : (t r p : ℕ) → p ≡ 0 → element_for t r p ≡ zeros (moduli_for t r)
unfolding element_for element_at
element-none t r p e = rw e (go (admits t r))
  where
    go : (b : Bool) → element_at (moduli_for t r) (zero_unless b 0) ≡ zeros (moduli_for t r)
    go true = refl
    go false = refl

pub length-for : (t r : ℕ) → Admitted t r → length (places (moduli_for t r) (slots (moduli_for t r))) ≡ places_of t
length-for t r h = omega (arith, length-places (moduli_for t r), size_for t r h)

pub element-beyond : (t r p : ℕ) → (shape_for t r).places < p → element_for t r p ≡ zeros (moduli_for t r)
unfolding shape_for element_for element_at
element-beyond t r p h = go (admits t r) refl p h
  where
    go : (b : Bool) → admits t r ≡ b → (p : ℕ) → zero_unless (admits t r) (places_of t) < p → element_at (moduli_for t r) (zero_unless (admits t r) p) ≡ zeros (moduli_for t r)
    go b y zero k = absurd (omega arith)
    go true y (suc i) k =
        let n = length-for t r (admits-admitted t r y) in
        let j : places_of t < suc i = subst (λ (b : Bool). zero_unless b (places_of t) < suc i) y k in
        ap (λ (b : Bool). element_at (moduli_for t r) (zero_unless b (suc i))) y
        ∙ get_or-eq_default (places (moduli_for t r) (slots (moduli_for t r))) (zeros (moduli_for t r)) (omega arith)
    go false y (suc i) k = ap (λ (b : Bool). element_at (moduli_for t r) (zero_unless b (suc i))) y

-- the place of an element, where the parameters are admitted and where they are not
pub place-for : (t r : ℕ) (e : List ℕ) → Admitted t r → place_for t r e ≡ place_of (moduli_for t r) e
unfolding place_for
place-for t r e h = ap (λ (b : Bool). zero_unless b (place_of (moduli_for t r) e)) (admitted-admits t r h)

pub place-nowhere : (t r : ℕ) (e : List ℕ) (s : Shape) → s ≡ shape_for t r → s.places ≡ 0 → place_for t r e ≡ 0
unfolding shape_for place_for
place-nowhere t r e s k z = go (admits t r) refl
  where
    go : (b : Bool) → admits t r ≡ b → place_for t r e ≡ 0
    go true y =
        let n : s.places ≡ places_of t = ap (λ (x : Shape). x.places) k ∙ ap (λ (b : Bool). zero_unless b (places_of t)) y in
        let h = admits-admitted t r y in
        let p = below_power t in
        absurd (omega arith)
    go false y = ap (λ (b : Bool). zero_unless b (place_of (moduli_for t r) e)) y
