-- Each element but zero stands at exactly one place of the layout, for every list of moduli. Assumes nothing.
use mathlib.Core.Path.{◌≡◌, refl, sym, ap, ap₂, ◌∙◌}
use mathlib.Core.Logic.{◌⊎◌, inl, inr, ◌≢◌}
use mathlib.Core.List.{List, [], ◌∷◌, ◌++◌, map}
use mathlib.Core.Bool.{Bool, true, false, ◌&&◌, not, true≢false}
use Prim.Native.Nat.{ℕ, zero, suc, ◌+◌, ◌-◌, ◌%◌, ◌<◌, ◌≤◌}
use native.Mathlib.Omega.{arith}
use native.Mathlib.Decide.{ℕ_discrete}
use lib.Dec.{eqb, eqb→eq}
use borrow.Author.Tests.{eq-eqb}
use Rattle.group_theory.specs.Group.{Modulus, one, two, four, radix, Valid, zeros, sum, negative, number, element, size}
use Rattle.group_theory.specs.Sign.{same, all_zero, is_unit, lead}
use Rattle.group_theory.proofs.Laws.{valid-zeros, valid-negative, valid-element, sum-negative, negative-unique, negative-negative, negative-zeros}
use Rattle.group_theory.proofs.Numbers.{element-number, number-element, number_lt, number-zeros, number-pos}
use Rattle.group_theory.proofs.Signs.{true-T, same_refl, same-eq, same-ne, same-neg, agree, Lead, even, plus, minus, lead-cases, lead-zeros, even-own, own-even, lead-negative, all_zero-same, zeros-unit, is_unit3, unit3, unit-sign, negative-zero-first, negative-unit-four}
use Rattle.layout_theory.specs.Choice.{zero_unless, one_if}
use Rattle.layout_theory.specs.Layout.{from, keep, Slot, single, pair, elements, in_singles, singles, in_pairs, pairs, zero_first, units, message, slots, places}
use Rattle.layout_theory.proofs.Lists.{count, count-append, All, all_keep, keep-agree, count-keep}

-- ---- each element but zero is once among the elements
module _ (ms : List Modulus) (s : List ℕ) (h : Valid ms s) where
  outside : (k a : ℕ) → a + k ≤ size ms → (number ms s < a) ⊎ (a + k ≤ number ms s) → count (same s) (map (element ms) (from a k)) ≡ 0
  unfolding count from
  outside zero a l o = refl
  outside (suc k) a l o =
      let f : same s (element ms a) ≡ false = same-ne s (element ms a) (λ e. no_way (ap (number ms) e) o) in
      let i = outside k (suc a) (omega arith) (next o) in
      rw f (omega arith)
    where
      no_way : number ms s ≡ number ms (element ms a) → (number ms s < a) ⊎ (a + suc k ≤ number ms s) → ⊥
      no_way e (inl x) = let y = number-element ms a (omega arith) in omega arith
      no_way e (inr x) = let y = number-element ms a (omega arith) in omega arith

      next : (number ms s < a) ⊎ (a + suc k ≤ number ms s) → (number ms s < suc a) ⊎ (suc a + k ≤ number ms s)
      next (inl x) = inl (omega arith)
      next (inr x) = inr (omega arith)

  inside : (k a : ℕ) → a + k ≤ size ms → a ≤ number ms s → number ms s < a + k → count (same s) (map (element ms) (from a k)) ≡ 1
  unfolding count from
  inside zero a l b c = absurd (omega arith)
  inside (suc k) a l b c = go (inside k (suc a) (omega arith)) (ℕ_discrete (number ms s) a)
    where
      go : (suc a ≤ number ms s → number ms s < suc a + k → count (same s) (map (element ms) (from (suc a) k)) ≡ 1)
          → Dec (number ms s ≡ a) → one_if (same s (element ms a)) + count (same s) (map (element ms) (from (suc a) k)) ≡ 1
      go i (yes e) =
          let f : same s (element ms a) ≡ true =
          ap (λ (n : ℕ). same s (element ms n)) (sym e) ∙ ap (same s) (element-number ms s h) ∙ same_refl s in
          let o = outside k (suc a) (omega arith) (inl (omega arith)) in
          rw f (omega arith)
      go i (no n) =
          let y = number-element ms a (omega arith) in
          let f : same s (element ms a) ≡ false = same-ne s (element ms a) (λ e. n (ap (number ms) e ∙ y)) in
          let j = i (omega arith) (omega arith) in
          rw f (omega arith)

  pub once-element : s ≢ zeros ms → count (same s) (elements ms) ≡ 1
  unfolding elements
  once-element n =
      let p = number-pos ms s h n in
      let l = number_lt ms s in
      inside (size ms - 1) 1 (omega arith) (omega arith) (omega arith)

pub never-zero : (ms : List Modulus) → count (same (zeros ms)) (elements ms) ≡ 0
unfolding elements
never-zero ms =
    let l = number_lt ms (zeros ms) in
    outside ms (zeros ms) (valid-zeros ms) (size ms - 1) 1 (omega arith) (inl (rw number-zeros (omega arith)))

-- ---- the two message parts, told by the sign: order 2 is the sign 0
abbrev pub of_sign : ℕ → List Modulus → List ℕ → Bool
of_sign c ms e = eqb (lead ms e) c && not (is_unit e)

pub order-two : (ms : List Modulus) (e : List ℕ) → Valid ms e → same (sum ms e e) (zeros ms) ≡ eqb (lead ms e) 0
order-two ms e h =
    agree (same (sum ms e e) (zeros ms)) (eqb (lead ms e) 0)
    (λ t. eq-eqb (lead ms e) 0 (own-even ms e h (sym (negative-unique ms e e h (same-eq (sum ms e e) (zeros ms) t)))))
    (λ t.
    let o : negative ms e ≡ e = even-own ms e h (eqb→eq (lead ms e) 0 (true-T (eqb (lead ms e) 0) t)) in
    let z : sum ms e e ≡ zeros ms = ap (sum ms e) (sym o) ∙ sum-negative ms e in
    ap (λ (r : List ℕ). same r (zeros ms)) z ∙ same_refl (zeros ms))

valid-map : (ms : List Modulus) (ns : List ℕ) → All (Valid ms) (map (element ms) ns)
valid-map ms [] = tt
valid-map ms (n ∷ ns) = (valid-element ms n, valid-map ms ns)

pub valid-elements : (ms : List Modulus) → All (Valid ms) (elements ms)
unfolding elements
valid-elements ms = valid-map ms (from 1 (size ms - 1))

all-order-two : (ms : List Modulus) (xs : List (List ℕ)) → All (Valid ms) xs → All (λ e. in_singles ms e ≡ of_sign 0 ms e) xs
all-order-two ms [] h = tt
all-order-two ms (x ∷ xs) h = (ap (λ (b : Bool). b && not (is_unit x)) (order-two ms x h.0), all-order-two ms xs h.1)

pub singles-signs : (ms : List Modulus) → singles ms ≡ keep (of_sign 0 ms) (elements ms)
unfolding singles
singles-signs ms = keep-agree (in_singles ms) (of_sign 0 ms) (elements ms) (all-order-two ms (elements ms) (valid-elements ms))

-- ---- places of the message parts
pub places-append : (ms : List Modulus) (sl sk : List Slot) → places ms (sl ++ sk) ≡ places ms sl ++ places ms sk
unfolding places
places-append ms [] sk = refl
places-append ms (single e ∷ sl) sk = ap {B = List (List ℕ)} (λ r. e ∷ r) (places-append ms sl sk)
places-append ms (pair z ∷ sl) sk = ap {B = List (List ℕ)} (λ r. negative ms z ∷ z ∷ r) (places-append ms sl sk)

pub places-singles : (ms : List Modulus) (xs : List (List ℕ)) → places ms (map single xs) ≡ xs
unfolding places
places-singles ms [] = refl
places-singles ms (x ∷ xs) = ap {B = List (List ℕ)} (λ r. x ∷ r) (places-singles ms xs)

count-pairs : (ms : List Modulus) (s : List ℕ) → Valid ms s → (xs : List (List ℕ)) → All (Valid ms) xs
    → count (same s) (places ms (map pair xs)) ≡ count (same (negative ms s)) xs + count (same s) xs
unfolding places count
count-pairs ms s h [] k = refl
count-pairs ms s h (x ∷ xs) k =
    let i = count-pairs ms s h xs k.1 in
    let e = ap one_if (same-neg ms s x h k.0) in
    omega arith

count-message : (ms : List Modulus) (s : List ℕ) → Valid ms s
    → count (same s) (places ms (message ms))
    ≡ zero_unless (of_sign 0 ms s) (count (same s) (elements ms))
    + (zero_unless (of_sign 1 ms (negative ms s)) (count (same (negative ms s)) (elements ms)) + zero_unless (of_sign 1 ms s) (count (same s) (elements ms)))
unfolding message pairs
count-message ms s h =
    ap (count (same s)) (places-append ms (map single (singles ms)) (map pair (pairs ms)))
    ∙ count-append (same s) (places ms (map single (singles ms))) (places ms (map pair (pairs ms)))
    ∙ ap₂ ◌+◌
    (ap (count (same s)) (places-singles ms (singles ms) ∙ singles-signs ms) ∙ count-keep (of_sign 0 ms) s (elements ms))
    (count-pairs ms s h (pairs ms) (all_keep (Valid ms) (in_pairs ms) (elements ms) (valid-elements ms))
    ∙ ap₂ ◌+◌ (count-keep (in_pairs ms) (negative ms s) (elements ms)) (count-keep (in_pairs ms) s (elements ms)))

-- ---- the check part: the units, and the negatives of those of modulus 4
pub places-zero-first : (m : Modulus) (ms : List Modulus) (sl : List Slot) → places (m ∷ ms) (map zero_first sl) ≡ map (λ (e : List ℕ). 0 ∷ e) (places ms sl)
unfolding places
places-zero-first m ms [] = refl
places-zero-first m ms (single e ∷ sl) = ap {B = List (List ℕ)} (λ r. (0 ∷ e) ∷ r) (places-zero-first m ms sl)
places-zero-first m ms (pair z ∷ sl) = rw (negative-zero-first m ms z) (ap {B = List (List ℕ)} (λ r. (0 ∷ negative ms z) ∷ (0 ∷ z) ∷ r) (places-zero-first m ms sl))

-- the elements of the check places, component by component
abbrev pub unit_places : Modulus → List ℕ → List (List ℕ) → List (List ℕ)
unit_places one z later = later
unit_places two z later = (1 ∷ z) ∷ later
unit_places four z later = (3 ∷ z) ∷ (1 ∷ z) ∷ later

pub places-units : (m : Modulus) (ms : List Modulus)
    → places (m ∷ ms) (units (m ∷ ms)) ≡ unit_places m (zeros ms) (map (λ (e : List ℕ). 0 ∷ e) (places ms (units ms)))
unfolding units places
places-units one ms = places-zero-first one ms (units ms)
places-units two ms = ap {B = List (List ℕ)} (λ r. (1 ∷ zeros ms) ∷ r) (places-zero-first two ms (units ms))
places-units four ms =
    rw (negative-unit-four ms) (ap {B = List (List ℕ)} (λ r. (3 ∷ zeros ms) ∷ (1 ∷ zeros ms) ∷ r) (places-zero-first four ms (units ms)))

count-zero-first : (x : ℕ) (e : List ℕ) (xs : List (List ℕ)) → count (same (x ∷ e)) (map (λ (r : List ℕ). 0 ∷ r) xs) ≡ zero_unless (eqb x 0) (count (same e) xs)
unfolding count same
count-zero-first x e [] = go (eqb x 0)
  where
    go : (b : Bool) → 0 ≡ zero_unless b 0
    go true = refl
    go false = refl
count-zero-first x e (y ∷ xs) = go (eqb x 0) (count-zero-first x e xs)
  where
    go : (b : Bool) → count (same (x ∷ e)) (map (λ (r : List ℕ). 0 ∷ r) xs) ≡ zero_unless b (count (same e) xs)
        → one_if (b && same e y) + count (same (x ∷ e)) (map (λ (r : List ℕ). 0 ∷ r) xs) ≡ zero_unless b (one_if (same e y) + count (same e) xs)
    go true i = omega arith
    go false i = omega arith

count-units : (ms : List Modulus) (s : List ℕ) → Valid ms s → count (same s) (places ms (units ms)) ≡ one_if (is_unit s) + one_if (is_unit3 s)
unfolding units places count is_unit is_unit3 same
count-units [] [] h = refl
count-units [] (x ∷ e) h = absurd h
count-units (m ∷ ms) [] h = absurd h
count-units (m ∷ ms) (x ∷ e) h =
    ap (count (same (x ∷ e))) (places-units m ms)
    ∙ go m x h.0 (count-zero-first x e (places ms (units ms))) (count-units ms e h.1) (ap one_if (all_zero-same ms e h.1))
  where
    Later : Type 0
    Later = count (same e) (places ms (units ms)) ≡ one_if (is_unit e) + one_if (is_unit3 e)

    go : (m : Modulus) (x : ℕ) → x < radix m
        → count (same (x ∷ e)) (map (λ (r : List ℕ). 0 ∷ r) (places ms (units ms))) ≡ zero_unless (eqb x 0) (count (same e) (places ms (units ms)))
        → Later → one_if (same e (zeros ms)) ≡ one_if (all_zero e)
        → count (same (x ∷ e)) (unit_places m (zeros ms) (map (λ (r : List ℕ). 0 ∷ r) (places ms (units ms))))
        ≡ one_if (is_unit (x ∷ e)) + one_if (is_unit3 (x ∷ e))
    go one zero l u i a = omega arith
    go one (suc n) l u i a = absurd (omega arith)
    go two zero l u i a = omega arith
    go two (suc zero) l u i a = omega arith
    go two (suc (suc n)) l u i a = absurd (omega arith)
    go four zero l u i a = omega arith
    go four (suc zero) l u i a = omega arith
    go four (suc (suc zero)) l u i a = omega arith
    go four (suc (suc (suc zero))) l u i a = omega arith
    go four (suc (suc (suc (suc n)))) l u i a = absurd (omega arith)

-- ---- the sum of the parts, by the sign of s, and whether s or −s is a unit
abbrev total : ℕ → ℕ → Bool → Bool → ℕ → ℕ → ℕ
total l k u v c d = zero_unless (eqb l 0 && not u) c + (zero_unless (eqb k 1 && not v) d + zero_unless (eqb l 1 && not u) c) + (one_if u + one_if (eqb l 3 && v))

total-one : {l : ℕ} → Lead l → (u v : Bool) → (eqb l 3 && u) ≡ false → total l ((4 - l) % 4) u v 1 1 ≡ 1
total-one even true v e = refl
total-one even false v e = refl
total-one plus true v e = refl
total-one plus false v e = refl
total-one minus true v e = absurd (true≢false e)
total-one minus false true e = refl
total-one minus false false e = refl

count-slots : (ms : List Modulus) (s : List ℕ) → Valid ms s
    → count (same s) (places ms (slots ms))
    ≡ total (lead ms s) ((4 - lead ms s) % 4) (is_unit s) (is_unit (negative ms s)) (count (same s) (elements ms)) (count (same (negative ms s)) (elements ms))
unfolding slots
count-slots ms s h =
    ap (count (same s)) (places-append ms (message ms) (units ms))
    ∙ count-append (same s) (places ms (message ms)) (places ms (units ms))
    ∙ ap₂ ◌+◌ (count-message ms s h ∙ rw (lead-negative ms s h)) (count-units ms s h ∙ ap (λ (b : Bool). one_if (is_unit s) + one_if b) (unit3 ms s h))

pub negative-nonzero : (ms : List Modulus) (s : List ℕ) → Valid ms s → s ≢ zeros ms → negative ms s ≢ zeros ms
negative-nonzero ms s h n e = n (sym (negative-negative ms s h) ∙ ap (negative ms) e ∙ negative-zeros ms)

-- every element but zero stands once among the places, and zero never
pub cover : (ms : List Modulus) (s : List ℕ) → Valid ms s → s ≢ zeros ms → count (same s) (places ms (slots ms)) ≡ 1
cover ms s h n =
    count-slots ms s h
    ∙ ap₂ (total (lead ms s) ((4 - lead ms s) % 4) (is_unit s) (is_unit (negative ms s)))
    (once-element ms s h n) (once-element ms (negative ms s) (valid-negative ms s) (negative-nonzero ms s h n))
    ∙ total-one (lead-cases ms s) (is_unit s) (is_unit (negative ms s)) (unit-sign ms s h)

pub cover-zero : (ms : List Modulus) → count (same (zeros ms)) (places ms (slots ms)) ≡ 0
cover-zero ms = count-slots ms (zeros ms) (valid-zeros ms) ∙ rw (negative-zeros, never-zero, lead-zeros, zeros-unit)
