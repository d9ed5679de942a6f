-- Where each element stands: the places part by part, and the check places by component. Assumes nothing.
use mathlib.Core.Path.{◌≡◌, refl, sym, ap, ◌∙◌}
use mathlib.Core.List.{List, [], ◌∷◌, ◌++◌, map, append_assoc}
use Prim.Native.Nat.{ℕ, zero, suc, ◌+◌, ◌*◌, ◌<◌, ◌≤◌}
use native.Mathlib.Omega.{arith}
use lib.ListN.{length, get_or, set, get_or-append, get_or-map}
use lib.Seq.{get_or-append-add}
use Rattle.group_theory.specs.Group.{Modulus, two, four, moduli_of, moduli, zeros, negative}
use Rattle.group_theory.proofs.Signs.{zeros-cons}
use Rattle.layout_theory.specs.Layout.{single, pair, singles, pairs, units, message, slots, places, element_at}
use Rattle.layout_theory.proofs.Cover.{places-append, places-singles, places-units}
use Rattle.layout_theory.proofs.Sizes.{length-places-pairs}

-- ---- the places, part by part
pub parts : (ms : List Modulus) → places ms (slots ms) ≡ singles ms ++ (places ms (map pair (pairs ms)) ++ places ms (units ms))
unfolding slots message
parts ms =
    places-append ms (map single (singles ms) ++ map pair (pairs ms)) (units ms)
    ∙ ap (λ r. r ++ places ms (units ms)) (places-append ms (map single (singles ms)) (map pair (pairs ms)) ∙ ap (λ r. r ++ places ms (map pair (pairs ms))) (places-singles ms (singles ms)))
    ∙ append_assoc (singles ms) (places ms (map pair (pairs ms))) (places ms (units ms))

pub at-single : (ms : List Modulus) (i : ℕ) → i < length (singles ms) → element_at ms (suc i) ≡ get_or (singles ms) i (zeros ms)
unfolding element_at
at-single ms i h =
    ap (λ r. get_or r i (zeros ms)) (parts ms)
    ∙ get_or-append (singles ms) (places ms (map pair (pairs ms)) ++ places ms (units ms)) (zeros ms) i h

-- the two places of the j-th pair
pair-first : (ms : List Modulus) (xs : List (List ℕ)) (j : ℕ) → j < length xs
    → (get_or (places ms (map pair xs)) (2 * j) (zeros ms) ≡ negative ms (get_or xs j (zeros ms)))
    × (get_or (places ms (map pair xs)) (suc (2 * j)) (zeros ms) ≡ get_or xs j (zeros ms))
unfolding places
pair-first ms [] j h = absurd (omega arith)
pair-first ms (x ∷ xs) zero h = (refl, refl)
pair-first ms (x ∷ xs) (suc j) h =
    let e : 2 * suc j ≡ suc (suc (2 * j)) = omega arith in
    let i = pair-first ms xs j (omega arith) in
    (rw e i.0, rw e i.1)

pub at_pair : (ms : List Modulus) (j : ℕ) → j < length (pairs ms)
    → (element_at ms (suc (length (singles ms) + 2 * j)) ≡ negative ms (get_or (pairs ms) j (zeros ms)))
    × (element_at ms (suc (length (singles ms) + suc (2 * j))) ≡ get_or (pairs ms) j (zeros ms))
unfolding element_at
at_pair ms j h =
    let q = places ms (map pair (pairs ms)) in
    let u = places ms (units ms) in
    let l = length-places-pairs ms (pairs ms) in
    let p = pair-first ms (pairs ms) j h in (
      ap (λ r. get_or r (length (singles ms) + 2 * j) (zeros ms)) (parts ms)
          ∙ get_or-append-add (singles ms) (q ++ u) (2 * j) (zeros ms)
          ∙ get_or-append q u (zeros ms) (2 * j) (omega arith)
          ∙ p.0,
      ap (λ r. get_or r (length (singles ms) + suc (2 * j)) (zeros ms)) (parts ms)
          ∙ get_or-append-add (singles ms) (q ++ u) (suc (2 * j)) (zeros ms)
          ∙ get_or-append q u (zeros ms) (suc (2 * j)) (omega arith)
          ∙ p.1,
    )

pub at-check : (ms : List Modulus) (i : ℕ)
    → element_at ms (suc (length (singles ms) + (2 * length (pairs ms) + i))) ≡ get_or (places ms (units ms)) i (zeros ms)
unfolding element_at
at-check ms i =
    let q = places ms (map pair (pairs ms)) in
    let u = places ms (units ms) in
    ap (λ r. get_or r (length (singles ms) + (2 * length (pairs ms) + i)) (zeros ms)) (parts ms)
    ∙ get_or-append-add (singles ms) (q ++ u) (2 * length (pairs ms) + i) (zeros ms)
    ∙ ap (λ (k : ℕ). get_or (q ++ u) (k + i) (zeros ms)) (sym (length-places-pairs ms (pairs ms)))
    ∙ get_or-append-add q u i (zeros ms)

-- ---- the check places: binary unit i is at i, the pair of quaternary unit j at a + 2j
abbrev pub alone : List Modulus → ℕ → ℕ → List ℕ
alone ms i x = set (zeros ms) i x

zero-first-alone : (m : Modulus) (ms : List Modulus) (i x : ℕ) → 0 ∷ alone ms i x ≡ alone (m ∷ ms) (suc i) x
zero-first-alone m ms i x = sym (ap (λ (r : List ℕ). set r (suc i) x) (zeros-cons m ms))

-- one component further
later : (m : Modulus) (ms : List Modulus) (k i x : ℕ) → get_or (places ms (units ms)) k (zeros ms) ≡ alone ms i x
    → get_or (map (λ (e : List ℕ). 0 ∷ e) (places ms (units ms))) k (zeros (m ∷ ms)) ≡ alone (m ∷ ms) (suc i) x
later m ms k i x e =
    ap (λ (d : List ℕ). get_or (map (λ (e : List ℕ). 0 ∷ e) (places ms (units ms))) k d) (zeros-cons m ms)
    ∙ get_or-map (λ (e : List ℕ). 0 ∷ e) (places ms (units ms)) k (zeros ms)
    ∙ ap {B = List ℕ} (λ (r : List ℕ). 0 ∷ r) e
    ∙ zero-first-alone m ms i x

first_alone : (m : Modulus) (ms : List Modulus) (x : ℕ) → x ∷ zeros ms ≡ alone (m ∷ ms) 0 x
first_alone m ms x = sym (ap (λ (r : List ℕ). set r 0 x) (zeros-cons m ms))

unit-two : (n a b i : ℕ) → i < a → a + b ≤ n
    → get_or (places (moduli_of n a b) (units (moduli_of n a b))) i (zeros (moduli_of n a b)) ≡ alone (moduli_of n a b) i 1
unit-two n zero b i h k = absurd (omega arith)
unit-two zero (suc a) b i h k = absurd (omega arith)
unit-two (suc n) (suc a) b zero h k =
    let ms = moduli_of n a b in
    ap (λ r. get_or r 0 (zeros (two ∷ ms))) (places-units two ms) ∙ first_alone two ms 1
unit-two (suc n) (suc a) b (suc i) h k =
    let ms = moduli_of n a b in
    ap (λ r. get_or r (suc i) (zeros (two ∷ ms))) (places-units two ms) ∙ later two ms i i 1 (unit-two n a b i (omega arith) (omega arith))

unit-four : (n a b j : ℕ) → j < b → a + b ≤ n
    → (get_or (places (moduli_of n a b) (units (moduli_of n a b))) (a + 2 * j) (zeros (moduli_of n a b)) ≡ alone (moduli_of n a b) (a + j) 3)
    × (get_or (places (moduli_of n a b) (units (moduli_of n a b))) (a + suc (2 * j)) (zeros (moduli_of n a b)) ≡ alone (moduli_of n a b) (a + j) 1)
unit-four n a zero j h k = absurd (omega arith)
unit-four zero a (suc b) j h k = absurd (omega arith)
unit-four (suc n) (suc a) (suc b) j h k =
    let ms = moduli_of n a (suc b) in
    let i = unit-four n a (suc b) j h (omega arith) in
    let e : suc a + 2 * j ≡ suc (a + 2 * j) = omega arith in
    let f : suc a + suc (2 * j) ≡ suc (a + suc (2 * j)) = omega arith in
    let g : suc a + j ≡ suc (a + j) = omega arith in (
      rw (e, g) (ap (λ r. get_or r (suc (a + 2 * j)) (zeros (two ∷ ms))) (places-units two ms) ∙ later two ms (a + 2 * j) (a + j) 3 i.0),
      rw (f, g) (ap (λ r. get_or r (suc (a + suc (2 * j))) (zeros (two ∷ ms))) (places-units two ms) ∙ later two ms (a + suc (2 * j)) (a + j) 1 i.1),
    )
unit-four (suc n) zero (suc b) zero h k =
    let ms = moduli_of n zero b in (
      ap (λ r. get_or r 0 (zeros (four ∷ ms))) (places-units four ms) ∙ first_alone four ms 3,
      ap (λ r. get_or r 1 (zeros (four ∷ ms))) (places-units four ms) ∙ first_alone four ms 1,
    )
unit-four (suc n) zero (suc b) (suc j) h k =
    let ms = moduli_of n zero b in
    let i = unit-four n zero b j (omega arith) (omega arith) in
    let e : 0 + 2 * suc j ≡ suc (suc (0 + 2 * j)) = omega arith in
    let f : 0 + suc (2 * suc j) ≡ suc (suc (0 + suc (2 * j))) = omega arith in
    let g : 0 + suc j ≡ suc (0 + j) = omega arith in (
      rw (e, g) (ap (λ r. get_or r (suc (suc (0 + 2 * j))) (zeros (four ∷ ms))) (places-units four ms) ∙ later four ms (0 + 2 * j) (0 + j) 3 i.0),
      rw (f, g) (ap (λ r. get_or r (suc (suc (0 + suc (2 * j)))) (zeros (four ∷ ms))) (places-units four ms) ∙ later four ms (0 + suc (2 * j)) (0 + j) 1 i.1),
    )

pub check-two : (a b i : ℕ) → i < a → a + b ≤ 12
    → get_or (places (moduli a b) (units (moduli a b))) i (zeros (moduli a b)) ≡ alone (moduli a b) i 1
unfolding moduli
check-two a b i h k = unit-two 12 a b i h k

pub check-four : (a b j : ℕ) → j < b → a + b ≤ 12
    → (get_or (places (moduli a b) (units (moduli a b))) (a + 2 * j) (zeros (moduli a b)) ≡ alone (moduli a b) (a + j) 3)
    × (get_or (places (moduli a b) (units (moduli a b))) (a + suc (2 * j)) (zeros (moduli a b)) ≡ alone (moduli a b) (a + j) 1)
unfolding moduli
check-four a b j h k = unit-four 12 a b j h k
