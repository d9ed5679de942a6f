-- How many places, singles and pairs a layout has, for every list of moduli. Assumes nothing.
use mathlib.Core.Path.{◌≡◌, refl, sym, ap, ap₂, ◌∙◌}
use mathlib.Core.List.{List, [], ◌∷◌, map}
use mathlib.Core.Bool.{Bool, true, false, not}
use Prim.Native.Nat.{ℕ, zero, suc, ◌+◌, ◌-◌, ◌*◌, ◌^◌, ◌≤◌}
use native.Mathlib.Nat.{pow-succ', le_refl}
use native.Mathlib.Omega.{arith}
use lib.ListN.{length, length-map, length-append}
use borrow.Author.Tests.{lt-ltb}
use Rattle.group_theory.specs.Group.{Modulus, one, two, four, moduli_of, moduli, zeros, element, size}
use Rattle.group_theory.specs.Sign.{is_unit, lead}
use Rattle.group_theory.proofs.Numbers.{size-pos, element-zero}
use Rattle.group_theory.proofs.Signs.{lead-zeros, zeros-unit}
use Rattle.layout_theory.specs.Choice.{one_if}
use Rattle.layout_theory.specs.Layout.{from, single, pair, elements, singles, pairs, units, message, slots, places}
use Rattle.layout_theory.specs.Parts.{sign_of}
use Rattle.layout_theory.proofs.Lists.{count, length-keep}
use Rattle.layout_theory.proofs.Cover.{of_sign, singles-signs, places-append, places-singles, unit_places, places-units}
use Rattle.layout_theory.proofs.Sums.{sum_to, below}
use Rattle.layout_theory.proofs.Below.{led, units_led, members, members-units, led-one, led-two, led-four, units-one, units-two, units-four}

-- the components modulo 2, those modulo 4, and the elements that are their own negatives
abbrev pub twos : List Modulus → ℕ
twos [] = 0
twos (one ∷ ms) = twos ms
twos (two ∷ ms) = suc (twos ms)
twos (four ∷ ms) = twos ms

abbrev pub fours : List Modulus → ℕ
fours [] = 0
fours (one ∷ ms) = fours ms
fours (two ∷ ms) = fours ms
fours (four ∷ ms) = suc (fours ms)

abbrev pub halves : List Modulus → ℕ
halves [] = 1
halves (one ∷ ms) = halves ms
halves (two ∷ ms) = 2 * halves ms
halves (four ∷ ms) = 2 * halves ms

-- ---- over all numbers: a bound that is the size has no last digit
size-one : (ms : List Modulus) → size (one ∷ ms) ≡ size ms
unfolding size
size-one ms = omega arith

size-two : (ms : List Modulus) → size (two ∷ ms) ≡ 0 + 2 * size ms
unfolding size
size-two ms = omega arith

size-four : (ms : List Modulus) → size (four ∷ ms) ≡ 0 + 4 * size ms
unfolding size
size-four ms = omega arith

led-evens : (ms : List Modulus) → led false ms (size ms) ≡ halves ms
unfolding size sum_to lead element
led-evens [] = refl
led-evens (one ∷ ms) = ap (led false (one ∷ ms)) (size-one ms) ∙ led-one false ms (size ms) ∙ led-evens ms
led-evens (two ∷ ms) =
    let i = led-evens ms in
    ap (led false (two ∷ ms)) (size-two ms) ∙ led-two false ms 0 (size ms) (omega arith) ∙ omega arith
led-evens (four ∷ ms) =
    let i = led-evens ms in
    ap (led false (four ∷ ms)) (size-four ms) ∙ led-four false ms 0 (size ms) (omega arith) ∙ omega arith

led-plus : (ms : List Modulus) → 2 * led true ms (size ms) + halves ms ≡ size ms
unfolding size sum_to lead element
led-plus [] = refl
led-plus (one ∷ ms) =
    let i = led-plus ms in
    let a = ap (led true (one ∷ ms)) (size-one ms) ∙ led-one true ms (size ms) in
    let b = size-one ms in
    omega arith
led-plus (two ∷ ms) =
    let i = led-plus ms in
    let a = ap (led true (two ∷ ms)) (size-two ms) ∙ led-two true ms 0 (size ms) (omega arith) in
    let b = size-two ms in
    omega arith
led-plus (four ∷ ms) =
    let i = led-plus ms in
    let a = ap (led true (four ∷ ms)) (size-four ms) ∙ led-four true ms 0 (size ms) (omega arith) in
    let b = size-four ms in
    omega arith

-- the units of a sign
abbrev units_of : Bool → List Modulus → ℕ
units_of true ms = fours ms
units_of false ms = twos ms

units-all : (p : Bool) (ms : List Modulus) → units_led p ms (size ms) ≡ units_of p ms
unfolding size sum_to is_unit lead element
units-all true [] = refl
units-all false [] = refl
units-all true (one ∷ ms) = ap (units_led true (one ∷ ms)) (size-one ms) ∙ units-one true ms (size ms) ∙ units-all true ms
units-all false (one ∷ ms) = ap (units_led false (one ∷ ms)) (size-one ms) ∙ units-one false ms (size ms) ∙ units-all false ms
units-all true (two ∷ ms) =
    let i = units-all true ms in
    ap (units_led true (two ∷ ms)) (size-two ms) ∙ units-two true ms 0 (size ms) (omega arith) (le_refl _) ∙ omega arith
units-all false (two ∷ ms) =
    let i = units-all false ms in
    let z = ap one_if (lt-ltb 0 (size ms) (size-pos ms)) in
    ap (units_led false (two ∷ ms)) (size-two ms) ∙ units-two false ms 0 (size ms) (omega arith) (le_refl _) ∙ omega arith
units-all true (four ∷ ms) =
    let i = units-all true ms in
    let z = ap one_if (lt-ltb 0 (size ms) (size-pos ms)) in
    ap (units_led true (four ∷ ms)) (size-four ms) ∙ units-four true ms 0 (size ms) (omega arith) (le_refl _) ∙ omega arith
units-all false (four ∷ ms) =
    let i = units-all false ms in
    ap (units_led false (four ∷ ms)) (size-four ms) ∙ units-four false ms 0 (size ms) (omega arith) (le_refl _) ∙ omega arith

-- ---- a count over a run of numbers
count-run : (q : List ℕ → Bool) (ms : List Modulus) (k a : ℕ)
    → below (λ e. one_if (q e)) ms a + count q (map (element ms) (from a k)) ≡ below (λ e. one_if (q e)) ms (a + k)
unfolding count from sum_to
count-run q ms zero a = let x : a + 0 ≡ a = omega arith in rw x (omega arith)
count-run q ms (suc k) a =
    let i = count-run q ms k (suc a) in
    let x : a + suc k ≡ suc a + k = omega arith in
    rw x (omega arith)

-- zero counts with the singles
members-first : (p : Bool) (ms : List Modulus) → members p ms 1 ≡ one_if (not p)
unfolding sum_to
members-first true ms = rw (element-zero, lead-zeros)
members-first false ms = rw (element-zero, lead-zeros, zeros-unit)

count-elements : (p : Bool) (ms : List Modulus) → one_if (not p) + count (of_sign (sign_of p) ms) (elements ms) ≡ members p ms (size ms)
unfolding elements
count-elements p ms =
    let s = size-pos ms in
    let x : 1 + (size ms - 1) ≡ size ms = omega arith in
    ap (λ (n : ℕ). n + count (of_sign (sign_of p) ms) (map (element ms) (from 1 (size ms - 1)))) (sym (members-first p ms))
    ∙ count-run (of_sign (sign_of p) ms) ms (size ms - 1) 1
    ∙ ap (members p ms) x

-- ---- the parts
pub length-singles : (ms : List Modulus) → length (singles ms) + 1 + twos ms ≡ halves ms
length-singles ms =
    let a = ap length (singles-signs ms) ∙ length-keep (of_sign 0 ms) (elements ms) in
    let b = count-elements false ms in
    let c = members-units false ms (size ms) in
    let d = units-all false ms in
    let e = led-evens ms in
    omega arith

pub length_pairs : (ms : List Modulus) → 2 * (length (pairs ms) + fours ms) + halves ms ≡ size ms
unfolding pairs
length_pairs ms =
    let a = length-keep (of_sign 1 ms) (elements ms) in
    let b = count-elements true ms in
    let c = members-units true ms (size ms) in
    let d = units-all true ms in
    let e = led-plus ms in
    omega arith

pub length-places-pairs : (ms : List Modulus) (xs : List (List ℕ)) → length (places ms (map pair xs)) ≡ 2 * length xs
unfolding places
length-places-pairs ms [] = refl
length-places-pairs ms (x ∷ xs) = let i = length-places-pairs ms xs in omega arith

pub length-units : (ms : List Modulus) → length (places ms (units ms)) ≡ twos ms + 2 * fours ms
unfolding units places
length-units [] = refl
length-units (m ∷ ms) =
    ap length (places-units m ms) ∙ go m (length-units ms) (length-map (places ms (units ms)) (λ (e : List ℕ). 0 ∷ e))
  where
    U : ℕ
    U = length (map (λ (e : List ℕ). 0 ∷ e) (places ms (units ms)))

    go : (m : Modulus) → length (places ms (units ms)) ≡ twos ms + 2 * fours ms → U ≡ length (places ms (units ms))
        → length (unit_places m (zeros ms) (map (λ (e : List ℕ). 0 ∷ e) (places ms (units ms)))) ≡ twos (m ∷ ms) + 2 * fours (m ∷ ms)
    go one i j = omega arith
    go two i j = omega arith
    go four i j = omega arith

pub length-message : (ms : List Modulus) → length (places ms (message ms)) ≡ length (singles ms) + 2 * length (pairs ms)
unfolding message
length-message ms =
    ap length (places-append ms (map single (singles ms)) (map pair (pairs ms)))
    ∙ length-append (places ms (map single (singles ms))) (places ms (map pair (pairs ms)))
    ∙ ap₂ ◌+◌ (ap length (places-singles ms (singles ms))) (length-places-pairs ms (pairs ms))

-- there is a place for every element but zero
pub length-places : (ms : List Modulus) → length (places ms (slots ms)) + 1 ≡ size ms
unfolding slots
length-places ms =
    let a = ap length (places-append ms (message ms) (units ms)) ∙ length-append (places ms (message ms)) (places ms (units ms)) in
    let b = length-message ms in
    let c = length-units ms in
    let d = length-singles ms in
    let e = length_pairs ms in
    omega arith

-- ---- the shape of document 01
shape_of : (n a b : ℕ) → a + b ≤ n
    → (twos (moduli_of n a b) ≡ a) × (fours (moduli_of n a b) ≡ b) × (halves (moduli_of n a b) ≡ 2 ^ (a + b))
shape_of zero a b h =
    let x : a ≡ 0 = omega arith in
    let y : b ≡ 0 = omega arith in
    let z : a + b ≡ 0 = omega arith in
    (sym x, sym y, ap (λ (k : ℕ). 2 ^ k) (sym z))
shape_of (suc n) zero zero h = shape_of n 0 0 (omega arith)
shape_of (suc n) zero (suc b) h =
    let i = shape_of n 0 b (omega arith) in
    let x : 0 + suc b ≡ suc (0 + b) = omega arith in
    (i.0, ap suc i.1, rw (x, pow-succ') (omega (arith, i.2)))
shape_of (suc n) (suc a) b h =
    let i = shape_of n a b (omega arith) in
    let x : suc a + b ≡ suc (a + b) = omega arith in
    (ap suc i.0, i.1, rw (x, pow-succ') (omega (arith, i.2)))

pub shape-moduli : (a b : ℕ) → a + b ≤ 12 → (twos (moduli a b) ≡ a) × (fours (moduli a b) ≡ b) × (halves (moduli a b) ≡ 2 ^ (a + b))
unfolding moduli
shape-moduli a b h = shape_of 12 a b h
