-- The layout of every admitted t and r: document 01's numbers of places, and every element other than zero at exactly one place.
-- Assumes nothing.
use mathlib.Core.Path.{◌≡◌, refl, sym, ap, ◌∙◌}
use mathlib.Core.List.{List, [], ◌∷◌, ◌++◌, map}
use Prim.Native.Nat.{ℕ, suc, ◌+◌, ◌<◌, ◌≤◌}
use native.Mathlib.Omega.{arith}
use lib.ListN.{length}
use lib.Pow.{pow_pos}
use Rattle.group_theory.specs.Group.{Modulus, one, two, four, number, element, size}
use Rattle.group_theory.proofs.Laws.{valid-element}
use Rattle.group_theory.proofs.Numbers.{element-number, number-element, number-zeros}
use Rattle.layout_theory.specs.Parameters.{places_of, moduli_for}
use Rattle.layout_theory.specs.Layout.{Slot, single, pair, singles, pairs, zero_first, units, message, slots, element_at}
use Rattle.layout_theory.specs.Claims.{single_slots, pair_slots, Layouts}
use Rattle.layout_theory.proofs.Sizes.{twos, fours, length-message}
use Rattle.layout_theory.proofs.Places.{good-slots, valid-at-place, one_place}
use Rattle.layout_theory.proofs.Rises.{parts-of}
use Rattle.layout_theory.proofs.Parameters.{size_for, twos-for, fours-for, singles-for, pairs-for, message-for, length-for}

-- ---- counting slots
append-singles : (sl sk : List Slot) → single_slots (sl ++ sk) ≡ single_slots sl + single_slots sk
append-singles [] sk = omega arith
append-singles (single e ∷ sl) sk = let i = append-singles sl sk in omega arith
append-singles (pair z ∷ sl) sk = append-singles sl sk

append-pairs : (sl sk : List Slot) → pair_slots (sl ++ sk) ≡ pair_slots sl + pair_slots sk
append-pairs [] sk = omega arith
append-pairs (single e ∷ sl) sk = append-pairs sl sk
append-pairs (pair z ∷ sl) sk = let i = append-pairs sl sk in omega arith

of-singles : (xs : List (List ℕ)) → (single_slots (map single xs) ≡ length xs) × (pair_slots (map single xs) ≡ 0)
of-singles [] = (refl, refl)
of-singles (x ∷ xs) = let i = of-singles xs in (ap suc i.0, i.1)

of-pairs : (xs : List (List ℕ)) → (single_slots (map pair xs) ≡ 0) × (pair_slots (map pair xs) ≡ length xs)
of-pairs [] = (refl, refl)
of-pairs (x ∷ xs) = let i = of-pairs xs in (i.0, ap suc i.1)

kinds-zero-first : (sl : List Slot) → (single_slots (map zero_first sl) ≡ single_slots sl) × (pair_slots (map zero_first sl) ≡ pair_slots sl)
kinds-zero-first [] = (refl, refl)
kinds-zero-first (single e ∷ sl) = let i = kinds-zero-first sl in (ap suc i.0, i.1)
kinds-zero-first (pair z ∷ sl) = let i = kinds-zero-first sl in (i.0, ap suc i.1)

of-units : (ms : List Modulus) → (single_slots (units ms) ≡ twos ms) × (pair_slots (units ms) ≡ fours ms)
unfolding units
of-units [] = (refl, refl)
of-units (one ∷ ms) = let i = of-units ms in let u = kinds-zero-first (units ms) in (u.0 ∙ i.0, u.1 ∙ i.1)
of-units (two ∷ ms) = let i = of-units ms in let u = kinds-zero-first (units ms) in (ap suc (u.0 ∙ i.0), u.1 ∙ i.1)
of-units (four ∷ ms) = let i = of-units ms in let u = kinds-zero-first (units ms) in (u.0 ∙ i.0, ap suc (u.1 ∙ i.1))

of_slots : (ms : List Modulus)
    → (single_slots (slots ms) ≡ length (singles ms) + twos ms) × (pair_slots (slots ms) ≡ length (pairs ms) + fours ms)
unfolding slots message
of_slots ms =
    let s = map single (singles ms) in
    let q = map pair (pairs ms) in
    let a = append-singles (s ++ q) (units ms) in
    let b = append-singles s q in
    let c = append-pairs (s ++ q) (units ms) in
    let d = append-pairs s q in
    let e = of-singles (singles ms) in
    let f = of-pairs (pairs ms) in
    let g = of-units ms in
    (omega (arith, e.0, f.0, g.0), omega (arith, e.1, f.1, g.1))

pub layout : Layouts
layout t r h =
    let ms = moduli_for t r in
    let o = of_slots ms in
    record {
      all = length-for t r h;
      binary = o.0 ∙ ap (λ (k : ℕ). length (singles ms) + k) (twos-for t r h) ∙ singles-for t r h;
      paired = o.1 ∙ ap (λ (k : ℕ). length (pairs ms) + k) (fours-for t r h) ∙ pairs-for t r h;
      front = length-message ms ∙ message-for t r h;
      parts = parts-of ms;
      good = good-slots ms;
      once = numbers;
    }
  where
    numbers : (x : ℕ) → 0 < x → x ≤ places_of t
        → (p : ℕ)
        × ((0 < p) × (p ≤ places_of t) × (number (moduli_for t r) (element_at (moduli_for t r) p) ≡ x))
        × ((q : ℕ) → 0 < q → number (moduli_for t r) (element_at (moduli_for t r) q) ≡ x → q ≡ p)
    numbers x a b =
        let ms = moduli_for t r in
        let s = size_for t r h in
        let l : x < size ms = omega (arith, pow_pos t) in
        let n = number-element ms x l in
        let f = one_place ms (element ms x) (valid-element ms x) (λ z. clash (sym n ∙ ap (number ms) z ∙ number-zeros ms)) in (
          f.0,
          (f.1.0, omega (arith, f.1.1), ap (number ms) f.1.2 ∙ n),
          (λ q c e. f.2 q c (sym (element-number ms (element_at ms q) (valid-at-place ms q)) ∙ ap (element ms) e)),
        )
      where
        clash : x ≡ 0 → ⊥
        clash z = omega arith
