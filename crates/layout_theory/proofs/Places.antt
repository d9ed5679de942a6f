-- The theorems on the layout, for every list of moduli:
--   length-places (in Sizes): there are as many places as elements other than zero;
--   one_place: every element other than zero is the element of exactly one place;
--   good-slots: a single's element is its own negative, and a pair's are −z and z, where z has the sign 1;
--   place-unique, place_none: the place of an element is that one place, and 0 where there is none;
--   place-most: whatever is looked for, no place beyond the last is found.
-- Assumes nothing.
use mathlib.Core.Path.{◌≡◌, refl, sym, ap, subst, ◌∙◌}
use mathlib.Core.Logic.{◌≢◌}
use mathlib.Core.List.{List, [], ◌∷◌, ◌++◌, map}
use mathlib.Core.Bool.{Bool, true, false, not, true≢false}
use Prim.Native.Nat.{ℕ, zero, suc, ◌+◌, ◌≤◌, ◌<◌}
use native.Mathlib.Omega.{arith}
use native.Mathlib.Decide.{dec_lt}
use lib.Dec.{eqb, eqb→eq}
use lib.ListN.{length, get_or, get_or-eq_default}
use Rattle.group_theory.specs.Group.{Modulus, one, two, four, Valid, zeros, size}
use Rattle.group_theory.specs.Sign.{same, is_unit, lead}
use Rattle.group_theory.proofs.Laws.{radix-pos, valid-zeros, valid-negative}
use Rattle.group_theory.proofs.Signs.{true-T, both, not-true, same_refl, same-eq, even-own, negative-zero-first, negative-unit-two}
use Rattle.layout_theory.specs.Choice.{one_if}
use Rattle.layout_theory.specs.Layout.{keep, Slot, single, pair, elements, singles, pairs, zero_first, units, message, slots, places, element_at, place_from, place_of}
use Rattle.layout_theory.specs.Claims.{Good}
use Rattle.layout_theory.proofs.Lists.{count, All, all-kept}
use Rattle.layout_theory.proofs.Cover.{of_sign, valid-elements, singles-signs, cover, cover-zero}
use Rattle.layout_theory.proofs.Sizes.{length-places}

-- ---- the slots
good-append : (ms : List Modulus) (sl sk : List Slot) → Good ms sl → Good ms sk → Good ms (sl ++ sk)
good-append ms [] sk g k = k
good-append ms (single e ∷ sl) sk g k = (g.0, g.1, good-append ms sl sk g.2 k)
good-append ms (pair z ∷ sl) sk g k = (g.0, g.1, good-append ms sl sk g.2 k)

sign_of : (ms : List Modulus) (c : ℕ) (e : List ℕ) → of_sign c ms e ≡ true → lead ms e ≡ c
sign_of ms c e t = eqb→eq (lead ms e) c (true-T (eqb (lead ms e) c) (both (eqb (lead ms e) c) (not (is_unit e)) t).0)

good-singles : (ms : List Modulus) (xs : List (List ℕ)) → All (λ x. Valid ms x × (of_sign 0 ms x ≡ true)) xs → Good ms (map single xs)
good-singles ms [] h = tt
good-singles ms (x ∷ xs) h = (h.0.0, even-own ms x h.0.0 (sign_of ms 0 x h.0.1), good-singles ms xs h.1)

good-pairs : (ms : List Modulus) (xs : List (List ℕ)) → All (λ x. Valid ms x × (of_sign 1 ms x ≡ true)) xs → Good ms (map pair xs)
good-pairs ms [] h = tt
good-pairs ms (x ∷ xs) h = (h.0.0, sign_of ms 1 x h.0.1, good-pairs ms xs h.1)

good-zero-first : (m : Modulus) (ms : List Modulus) (sl : List Slot) → Good ms sl → Good (m ∷ ms) (map zero_first sl)
unfolding lead
good-zero-first m ms [] g = tt
good-zero-first m ms (single e ∷ sl) g =
    ((radix-pos m, g.0), negative-zero-first m ms e ∙ ap {B = List ℕ} (λ (r : List ℕ). 0 ∷ r) g.1, good-zero-first m ms sl g.2)
good-zero-first one ms (pair z ∷ sl) g = ((radix-pos one, g.0), g.1, good-zero-first one ms sl g.2)
good-zero-first two ms (pair z ∷ sl) g = ((radix-pos two, g.0), g.1, good-zero-first two ms sl g.2)
good-zero-first four ms (pair z ∷ sl) g = ((radix-pos four, g.0), g.1, good-zero-first four ms sl g.2)

good-units : (ms : List Modulus) → Good ms (units ms)
unfolding units lead
good-units [] = tt
good-units (one ∷ ms) = good-zero-first one ms (units ms) (good-units ms)
good-units (two ∷ ms) = ((omega arith, valid-zeros ms), negative-unit-two ms, good-zero-first two ms (units ms) (good-units ms))
good-units (four ∷ ms) = ((omega arith, valid-zeros ms), refl, good-zero-first four ms (units ms) (good-units ms))

pub good-slots : (ms : List Modulus) → Good ms (slots ms)
unfolding slots message pairs
good-slots ms =
    good-append ms (map single (singles ms) ++ map pair (pairs ms)) (units ms)
    (good-append ms (map single (singles ms)) (map pair (pairs ms))
    (rw (singles-signs ms) (good-singles ms (keep (of_sign 0 ms) (elements ms)) (all-kept (Valid ms) (of_sign 0 ms) (elements ms) (valid-elements ms))))
    (good-pairs ms (pairs ms) (all-kept (Valid ms) (of_sign 1 ms) (elements ms) (valid-elements ms))))
    (good-units ms)

valid-slots : (ms : List Modulus) (sl : List Slot) → Good ms sl → All (Valid ms) (places ms sl)
unfolding places
valid-slots ms [] g = tt
valid-slots ms (single e ∷ sl) g = (g.0, valid-slots ms sl g.2)
valid-slots ms (pair z ∷ sl) g = (valid-negative ms z, (g.0, valid-slots ms sl g.2))

pub valid-places : (ms : List Modulus) → All (Valid ms) (places ms (slots ms))
valid-places ms = valid-slots ms (slots ms) (good-slots ms)

valid-get_or : (ms : List Modulus) (xs : List (List ℕ)) (i : ℕ) → All (Valid ms) xs → Valid ms (get_or xs i (zeros ms))
valid-get_or ms [] i h = valid-zeros ms
valid-get_or ms (x ∷ xs) zero h = h.0
valid-get_or ms (x ∷ xs) (suc i) h = valid-get_or ms xs i h.1

pub valid-at-place : (ms : List Modulus) (p : ℕ) → Valid ms (element_at ms p)
unfolding element_at
valid-at-place ms zero = valid-zeros ms
valid-at-place ms (suc i) = valid-get_or ms (places ms (slots ms)) i (valid-places ms)

-- ---- searching a list in which an element stands once, or not at all
place_here : (p : ℕ) (e x : List ℕ) (xs : List (List ℕ)) → same e x ≡ true → place_from p e (x ∷ xs) ≡ p
unfolding place_from
place_here p e x xs t = ap (λ (b : Bool). elim b as (λ _. ℕ) [ true ↦ p | false ↦ place_from (suc p) e xs ]) t

place-later : (p : ℕ) (e x : List ℕ) (xs : List (List ℕ)) → same e x ≡ false → place_from p e (x ∷ xs) ≡ place_from (suc p) e xs
unfolding place_from
place-later p e x xs t = ap (λ (b : Bool). elim b as (λ _. ℕ) [ true ↦ p | false ↦ place_from (suc p) e xs ]) t

none-there : (e d : List ℕ) (xs : List (List ℕ)) (i : ℕ) → count (same e) xs ≡ 0 → i < length xs → get_or xs i d ≢ e
unfolding count
none-there e d [] i n l k = absurd (omega arith)
none-there e d (x ∷ xs) zero n l k = let t : one_if (same e x) ≡ 1 = ap (λ (r : List ℕ). one_if (same e r)) k ∙ ap one_if (same_refl e) in omega arith
none-there e d (x ∷ xs) (suc i) n l k = none-there e d xs i (omega arith) (omega arith) k

place-once : (p : ℕ) (e d : List ℕ) (xs : List (List ℕ)) (i : ℕ) → count (same e) xs ≡ 1 → i < length xs → get_or xs i d ≡ e
    → place_from p e xs ≡ p + i
unfolding count
place-once p e d [] i n l k = absurd (omega arith)
place-once p e d (x ∷ xs) zero n l k =
    place_here p e x xs (ap (same e) k ∙ same_refl e) ∙ omega arith
place-once p e d (x ∷ xs) (suc i) n l k = go (place-once (suc p) e d xs i) (same e x) refl
  where
    go : (count (same e) xs ≡ 1 → i < length xs → get_or xs i d ≡ e → place_from (suc p) e xs ≡ suc p + i)
        → (b : Bool) → same e x ≡ b → place_from p e (x ∷ xs) ≡ p + suc i
    go f true t = let h = ap one_if t in absurd (none-there e d xs i (omega arith) (omega arith) k)
    go f false t = let h = ap one_if t in place-later p e x xs t ∙ f (omega arith) (omega arith) k ∙ omega arith

place-never : (p : ℕ) (e : List ℕ) (xs : List (List ℕ)) → count (same e) xs ≡ 0 → place_from p e xs ≡ 0
unfolding count place_from
place-never p e [] n = refl
place-never p e (x ∷ xs) n = go (place-never (suc p) e xs) (same e x) refl
  where
    go : (count (same e) xs ≡ 0 → place_from (suc p) e xs ≡ 0) → (b : Bool) → same e x ≡ b → place_from p e (x ∷ xs) ≡ 0
    go f true t = let h = ap one_if t in absurd (omega arith)
    go f false t = let h = ap one_if t in place-later p e x xs t ∙ f (omega arith)

there : (e d : List ℕ) (xs : List (List ℕ)) → count (same e) xs ≡ 1 → (i : ℕ) × (i < length xs) × (get_or xs i d ≡ e)
unfolding count
there e d [] n = absurd (omega arith)
there e d (x ∷ xs) n = go (there e d xs) (same e x) refl
  where
    go : (count (same e) xs ≡ 1 → (i : ℕ) × (i < length xs) × (get_or xs i d ≡ e)) → (b : Bool) → same e x ≡ b
        → (i : ℕ) × (i < length (x ∷ xs)) × (get_or (x ∷ xs) i d ≡ e)
    go f true t = (0, omega arith, sym (same-eq e x t))
    go f false t =
        let h = ap one_if t in
        let r = f (omega arith) in
        (suc r.0, omega (arith, r.1), r.2)

-- no place has the element zero
pub place-nonzero : (ms : List Modulus) (i : ℕ) → i < length (places ms (slots ms)) → get_or (places ms (slots ms)) i (zeros ms) ≢ zeros ms
place-nonzero ms i l = none-there (zeros ms) (zeros ms) (places ms (slots ms)) i (cover-zero ms) l

-- ---- the place of an element
pub place-unique : (ms : List Modulus) (e : List ℕ) (p : ℕ) → Valid ms e → e ≢ zeros ms → 0 < p → element_at ms p ≡ e → place_of ms e ≡ p
unfolding place_of element_at
place-unique ms e zero v n h k = absurd (omega arith)
place-unique ms e (suc i) v n h k = go (dec_lt i (length (places ms (slots ms))))
  where
    go : Dec (i < length (places ms (slots ms))) → place_of ms e ≡ suc i
    go (yes l) = place-once 1 e (zeros ms) (places ms (slots ms)) i (cover ms e v n) l k ∙ omega arith
    go (no l) = absurd (n (sym k ∙ get_or-eq_default (places ms (slots ms)) (zeros ms) (omega arith)))

not-among : (ms : List Modulus) (e : List ℕ) (xs : List (List ℕ)) → All (Valid ms) xs → (Valid ms e → ⊥) → count (same e) xs ≡ 0
unfolding count
not-among ms e [] h n = refl
not-among ms e (x ∷ xs) h n =
    let i = not-among ms e xs h.1 n in
    let f = ap one_if (not-true (same e x) (λ t. n (subst (Valid ms) (sym (same-eq e x t)) h.0))) in
    omega arith

-- zero, and what is no element, has none
pub place_none : (ms : List Modulus) (e : List ℕ) → (Valid ms e → e ≡ zeros ms) → place_of ms e ≡ 0
unfolding place_of
place_none ms e h = go (same e (zeros ms)) refl
  where
    go : (b : Bool) → same e (zeros ms) ≡ b → place_of ms e ≡ 0
    go true t = place-never 1 e (places ms (slots ms)) (rw (same-eq e (zeros ms) t) (cover-zero ms))
    go false t =
        place-never 1 e (places ms (slots ms))
        (not-among ms e (places ms (slots ms)) (valid-places ms) (λ v. true≢false (sym (same_refl (zeros ms)) ∙ ap (λ (r : List ℕ). same r (zeros ms)) (sym (h v)) ∙ t)))

-- a place that is found has the element
place-from-at : (p : ℕ) (e d : List ℕ) (xs : List (List ℕ)) → place_from p e xs ≢ 0 → (i : ℕ) × (place_from p e xs ≡ p + i) × (get_or xs i d ≡ e)
unfolding place_from
place-from-at p e d [] n = absurd (n refl)
place-from-at p e d (x ∷ xs) n = go (place-from-at (suc p) e d xs) (same e x) refl
  where
    go : (place_from (suc p) e xs ≢ 0 → (i : ℕ) × (place_from (suc p) e xs ≡ suc p + i) × (get_or xs i d ≡ e)) → (b : Bool) → same e x ≡ b
        → (i : ℕ) × (place_from p e (x ∷ xs) ≡ p + i) × (get_or (x ∷ xs) i d ≡ e)
    go f true t = (0, place_here p e x xs t ∙ omega arith, sym (same-eq e x t))
    go f false t =
        let l = place-later p e x xs t in
        let r = f (λ z. n (l ∙ z)) in
        (suc r.0, l ∙ r.1 ∙ omega arith, r.2)

pub place_found : (ms : List Modulus) (e : List ℕ) → place_of ms e ≢ 0 → element_at ms (place_of ms e) ≡ e
unfolding place_of element_at
place_found ms e n =
    let r = place-from-at 1 e (zeros ms) (places ms (slots ms)) n in
    let k : place_of ms e ≡ suc r.0 = r.1 ∙ omega arith in
    ap (element_at ms) k ∙ r.2

-- whatever is looked for, the place found is not beyond the last
place-from-lt : (p : ℕ) (e : List ℕ) (xs : List (List ℕ)) → 0 < p → place_from p e xs < p + length xs
unfolding place_from
place-from-lt p e [] h = omega arith
place-from-lt p e (x ∷ xs) h = go (place-from-lt (suc p) e xs (omega arith)) (same e x) refl
  where
    go : place_from (suc p) e xs < suc p + length xs → (b : Bool) → same e x ≡ b → place_from p e (x ∷ xs) < p + length (x ∷ xs)
    go i true t = rw (place_here p e x xs t) (omega arith)
    go i false t = rw (place-later p e x xs t) (omega arith)

pub place-most : (ms : List Modulus) (e : List ℕ) → place_of ms e ≤ length (places ms (slots ms))
unfolding place_of
place-most ms e = let h = place-from-lt 1 e (places ms (slots ms)) (omega arith) in omega arith

-- every element other than zero is the element of exactly one place
pub one_place : (ms : List Modulus) (e : List ℕ) → Valid ms e → e ≢ zeros ms
    → (p : ℕ)
    × ((0 < p) × (p < size ms) × (element_at ms p ≡ e))
    × ((q : ℕ) → 0 < q → element_at ms q ≡ e → q ≡ p)
unfolding element_at
one_place ms e v n =
    let f = there e (zeros ms) (places ms (slots ms)) (cover ms e v n) in
    let i = f.0 in
    let u : place_of ms e ≡ suc i = place-unique ms e (suc i) v n (omega arith) f.2 in
    (suc i, (omega arith, omega (arith, f.1, length-places ms), f.2), (λ q h k. sym (place-unique ms e q v n h k) ∙ u))
