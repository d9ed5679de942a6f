-- From an element to its place: whether it is an element, and its place by its index among those of its sign. Assumes nothing.
use mathlib.Core.Path.{◌≡◌, refl, sym, ap, ap₂, subst, ◌∙◌}
use mathlib.Core.List.{List, [], ◌∷◌}
use Prim.Native.Nat.{ℕ, zero, suc, ◌+◌, ◌-◌, ◌*◌, ◌/◌, ◌%◌, ◌^◌, ◌<◌, ◌≤◌}
use native.Mathlib.Decide.{dec_lt}
use native.Mathlib.Omega.{arith}
use lib.ListN.{length, get_or, take, drop, get_or-append}
use Rattle.std.proofs.lemmas.List.{get_or-take, get_or-drop, length-drop, length-take-le}
use Rattle.group_theory.specs.Group.{Modulus, one, two, four, radix, moduli, Valid, zeros, negative, element, size}
use Rattle.group_theory.proofs.Laws.{valid-element, times-one, times-three}
use Rattle.group_theory.proofs.Numbers.{element-zero, size-pos}
use Rattle.group_theory.proofs.Signs.{negative-zero-first, negative-unit-four}
use Rattle.group_theory.proofs.Fill.{length-moduli, moduli-two, moduli-four, moduli-one}
use Rattle.layout_theory.specs.Layout.{from, singles, pairs, element_at, place_of}
use Rattle.layout_theory.specs.Parts.{Located}
use Rattle.layout_theory.proofs.Lists.{length_from}
use Rattle.layout_theory.proofs.Sizes.{length-places}
use Rattle.layout_theory.proofs.Places.{place-nonzero, place-unique, place_none}
use Rattle.layout_theory.proofs.Index.{at-single, at-check, alone, check-two, check-four}
use Rattle.blocks_theory.specs.Blocks as blocks
use Rattle.blocks_theory.specs.Blocks.{plus_to}
use Rattle.blocks_theory.specs.Indices.{standing, Past}
use Rattle.blocks_theory.specs.declared.Sign.TheVariants.{Zero, One, Three}
use Rattle.blocks_theory.proofs.Splits.{size-twos-of, message-counts, pow_pos, pow-rises, plus-rises}
use Rattle.blocks_theory.proofs.Descents.{get_or-from}
use Rattle.blocks_theory.proofs.Standing.{length-plus, even-all-split, enough, rises, single-at, pair-at, pair-element, unit-at-plus}
use Rattle.blocks_theory.proofs.Rising.{valid-at}

-- ---- whether each component is below its modulus
-- the components from start to end are below a bound
abbrev pub AllBelow : List ℕ → ℕ → ℕ → ℕ → Type 0
AllBelow x start end bound = (i : ℕ) → start ≤ i → i < end → get_or x i 0 < bound

-- the same of a slice
abbrev pub EachBelow : List ℕ → ℕ → Type 0
EachBelow s bound = (i : ℕ) → i < length s → get_or s i 0 < bound

at-slice : (x : List ℕ) (start n i : ℕ) → i < n → get_or (take n (drop start x)) i 0 ≡ get_or x (start + i) 0
at-slice x start n i l = get_or-take n (drop start x) i 0 l ∙ get_or-drop start x i 0

length-slice : (x : List ℕ) (start n : ℕ) → start + n ≤ length x → length (take n (drop start x)) ≡ n
length-slice x start n l = length-take-le n (drop start x) (omega (arith, length-drop start x))

each-all : (x : List ℕ) (start n end bound : ℕ) → end ≡ start + n → end ≤ length x → EachBelow (take n (drop start x)) bound → AllBelow x start end bound
each-all x start n end bound e l h i p q =
    let j : start + (i - start) ≡ i = omega arith in
    let m = length-slice x start n (omega arith) in
    subst (λ (c : ℕ). c < bound) (at-slice x start n (i - start) (omega arith) ∙ ap (λ (k : ℕ). get_or x k 0) j) (h (i - start) (omega arith))

all-each : (x : List ℕ) (start n end bound : ℕ) → end ≡ start + n → end ≤ length x → AllBelow x start end bound → EachBelow (take n (drop start x)) bound
all-each x start n end bound e l h i p =
    let m = length-slice x start n (omega arith) in
    subst (λ (c : ℕ). c < bound) (sym (at-slice x start n i (omega arith))) (h (start + i) (omega arith) (omega arith))

valid-each : (ms : List Modulus) (e : List ℕ) → length e ≡ length ms → ((i : ℕ) → i < length ms → get_or e i 0 < radix (get_or ms i one)) → Valid ms e
valid-each [] [] l h = tt
valid-each [] (x ∷ e) l h = absurd (omega arith)
valid-each (m ∷ ms) [] l h = absurd (omega arith)
valid-each (m ∷ ms) (x ∷ e) l h = (h 0 (omega arith), valid-each ms e (omega arith) (λ i k. h (suc i) (omega arith)))

module _ (a b : ℕ) (h : a + b ≤ 12) (x : List ℕ) where
  pub ranges-valid : length x ≡ 12 → AllBelow x 0 a 2 → AllBelow x a (a + b) 4 → AllBelow x (a + b) 12 1 → Valid (moduli a b) x
  ranges-valid l p q r = valid-each (moduli a b) x (l ∙ sym (length-moduli a b)) (λ i k. go i (omega (arith, length-moduli a b)) (dec_lt i a) (dec_lt i (a + b)))
    where
      go : (i : ℕ) → i < 12 → Dec (i < a) → Dec (i < a + b) → get_or x i 0 < radix (get_or (moduli a b) i one)
      go i k (yes m) n = subst (λ (c : Modulus). get_or x i 0 < radix c) (sym (moduli-two a b i k m)) (p i (omega arith) m)
      go i k (no m) (yes n) = subst (λ (c : Modulus). get_or x i 0 < radix c) (sym (moduli-four a b i k (omega arith) (omega arith))) (q i (omega arith) n)
      go i k (no m) (no n) = subst (λ (c : Modulus). get_or x i 0 < radix c) (sym (moduli-one a b i (omega arith) (omega arith))) (r i (omega arith) k)

  pub valid-two : Valid (moduli a b) x → AllBelow x 0 a 2
  valid-two v i l m =
      let n = length-moduli a b in
      subst (λ (c : Modulus). get_or x i 0 < radix c) (moduli-two a b i (omega arith) m) (valid-at (moduli a b) x i v (omega arith))

  pub valid-four : Valid (moduli a b) x → AllBelow x a (a + b) 4
  valid-four v i l m =
      let n = length-moduli a b in
      subst (λ (c : Modulus). get_or x i 0 < radix c) (moduli-four a b i (omega arith) l (omega arith)) (valid-at (moduli a b) x i v (omega arith))

  pub valid-one : Valid (moduli a b) x → AllBelow x (a + b) 12 1
  valid-one v i l m =
      let n = length-moduli a b in
      subst (λ (c : Modulus). get_or x i 0 < radix c) (moduli-one a b i (omega arith) (omega arith)) (valid-at (moduli a b) x i v (omega arith))

  pub slices-valid : length x ≡ 12 → EachBelow (take a x) 2 → EachBelow (take (a + b - a) (drop a x)) 4 → EachBelow (take (12 - (a + b)) (drop (a + b) x)) 1
      → Valid (moduli a b) x
  slices-valid l p q r =
      ranges-valid l (each-all x 0 a a 2 (omega arith) (omega arith) p) (each-all x a (a + b - a) (a + b) 4 (omega arith) (omega arith) q)
      (each-all x (a + b) (12 - (a + b)) 12 1 (omega arith) (omega arith) r)

  pub valid-slices : length x ≡ 12 → Valid (moduli a b) x
      → EachBelow (take a x) 2 × EachBelow (take (a + b - a) (drop a x)) 4 × EachBelow (take (12 - (a + b)) (drop (a + b) x)) 1
  valid-slices l v = (
    all-each x 0 a a 2 (omega arith) (omega arith) (valid-two v),
    all-each x a (a + b - a) (a + b) 4 (omega arith) (omega arith) (valid-four v),
    all-each x (a + b) (12 - (a + b)) 12 1 (omega arith) (omega arith) (valid-one v),
  )

-- ---- the place that has an element, if it is one of the code's, is the element's place
pub place_found : (ms : List Modulus) (e : List ℕ) (p : ℕ) → Valid ms e → p < size ms → element_at ms p ≡ e → p ≡ place_of ms e
unfolding element_at
place_found ms e zero v l k = sym (place_none ms e (λ w. sym k))
place_found ms e (suc i) v l k =
    let n = length-places ms in
    sym (place-unique ms e (suc i) v (λ z. place-nonzero ms i (omega arith) (k ∙ z)) (omega arith) k)

-- ---- units
element-unit : (ms : List Modulus) (i : ℕ) → i < length ms → 1 < radix (get_or ms i one) → element ms (size (take i ms)) ≡ alone ms i 1
unfolding element size zeros
element-unit [] i h k = absurd (omega arith)
element-unit (m ∷ ms) zero h k = first m k
  where
    first : (m : Modulus) → 1 < radix m → 1 % radix m ∷ element ms (1 / radix m) ≡ 1 ∷ zeros ms
    first one k = absurd (omega arith)
    first two k = ap {B = List ℕ} (λ (r : List ℕ). 1 ∷ r) (element-zero ms)
    first four k = ap {B = List ℕ} (λ (r : List ℕ). 1 ∷ r) (element-zero ms)
element-unit (m ∷ ms) (suc i) h k =
    let d = digit m (size (take i ms)) in
    rw (d.0, d.1) (ap {B = List ℕ} (λ (r : List ℕ). 0 ∷ r) (element-unit ms i (omega arith) k))
  where
    digit : (m : Modulus) (s : ℕ) → (radix m * s % radix m ≡ 0) × (radix m * s / radix m ≡ s)
    digit one s = (omega arith, omega arith)
    digit two s = (omega arith, omega arith)
    digit four s = (omega arith, omega arith)

-- its negative, where the modulus is 4
negative-alone : (ms : List Modulus) (i : ℕ) → i < length ms → get_or ms i one ≡ four → negative ms (alone ms i 1) ≡ alone ms i 3
unfolding zeros
negative-alone [] i h e = absurd (omega arith)
negative-alone (m ∷ ms) zero h e = subst (λ (k : Modulus). negative (k ∷ ms) (1 ∷ zeros ms) ≡ 3 ∷ zeros ms) (sym e) (negative-unit-four ms)
negative-alone (m ∷ ms) (suc i) h e =
    negative-zero-first m ms (alone ms i 1) ∙ ap {B = List ℕ} (λ (r : List ℕ). 0 ∷ r) (negative-alone ms i (omega arith) e)

-- ---- places by index
-- z, the element of sign 1 at index k, and −z stand at p and before it
abbrev pub Second : List Modulus → ℕ → ℕ → Type 0
Second ms k p = (1 < p) × (p < size ms) × (element_at ms p ≡ standing One ms k) × (element_at ms (p - 1) ≡ standing Three ms k)

module _ (a b x y : ℕ) (l : Located a b x y) where
  -- the message and the check are all
  whole : y + a + 2 * b + 1 ≡ size (moduli a b)
  whole =
      let c = message-counts a b l.room in
      let c0 = c.0 in
      let c1 = c.1 in
      let c2 = c.2 in
      let f = l.front in
      omega arith

  pub whole-small : size (moduli a b) < 2 ^ 25
  whole-small = let w = whole in let s = l.small in let r = l.room in omega arith

  -- an element of sign 0 at index k
  own : (k : ℕ) → element (moduli a b) (get_or (blocks.even (moduli a b)) k 0) ≡ standing Zero (moduli a b) k
  own k = let n = get_or (blocks.even (moduli a b)) k 0 in sym (times-one (moduli a b) (element (moduli a b) n) (valid-element (moduli a b) n))

  pub single-none : (k : ℕ) → k ≡ 0 → (0 < size (moduli a b)) × (element_at (moduli a b) 0 ≡ standing Zero (moduli a b) k)
  unfolding element_at
  single-none k e =
      let ms = moduli a b in
      let h = l.room in
      let p = pow_pos a b h a in
      let n = length_from (2 ^ a) 0 in
      let u : get_or (blocks.even ms) k 0 ≡ 0 =
      ap₂ (λ (r : List ℕ) (i : ℕ). get_or r i 0) (even-all-split a b h) e ∙ get_or-append (from 0 (2 ^ a)) _ 0 0 (omega arith) ∙ get_or-from (2 ^ a) 0 0 p in
      (size-pos ms, sym (element-zero ms) ∙ ap (element ms) (sym u) ∙ own k)

  pub single-unit : (k c : ℕ) → c < a → k ≡ 2 ^ c → (y + c + 1 < size (moduli a b)) × (element_at (moduli a b) (y + c + 1) ≡ standing Zero (moduli a b) k)
  single-unit k c q t =
      let ms = moduli a b in
      let h = l.room in
      let w = whole in
      let r = rises a b h (suc c) q in
      let i = pow-rises a b h c 1 in
      let c1 : c + 1 ≡ suc c = omega arith in
      let i1 : 2 ^ c + 1 ≤ 2 ^ suc c = subst (λ (n : ℕ). 2 ^ c + 1 ≤ 2 ^ n) c1 i in
      let j : k < 2 ^ a = omega arith in
      let n = length_from (2 ^ a) 0 in
      let u : get_or (blocks.even ms) k 0 ≡ size (take c ms) =
      ap (λ (r : List ℕ). get_or r k 0) (even-all-split a b h) ∙ get_or-append (from 0 (2 ^ a)) _ 0 k (omega arith) ∙ get_or-from (2 ^ a) 0 k j
      ∙ (let o : 0 + k ≡ 2 ^ c = omega arith in o) ∙ sym (size-twos-of a b h c (omega arith)) in
      let m = length-moduli a b in
      let d : 1 < radix (get_or ms c one) = subst (λ (m : Modulus). 1 < radix m) (sym (moduli-two a b c (omega arith) q)) (omega arith) in
      let p : y + c + 1 ≡ suc (length (singles ms) + (2 * length (pairs ms) + c)) = omega (arith, l.front) in (
        omega arith,
        ap (element_at ms) p ∙ at-check ms c ∙ check-two a b c q h ∙ sym (element-unit ms c (omega arith) d) ∙ ap (element ms) (sym u) ∙ own k,
      )

  pub single-other : (k c : ℕ) → 0 < k → k < length (blocks.even (moduli a b)) → Past Zero a b c k
      → (c ≤ k) × (k - c < size (moduli a b)) × (element_at (moduli a b) (k - c) ≡ standing Zero (moduli a b) k)
  single-other k c z m t =
      let ms = moduli a b in
      let h = l.room in
      let n = enough a b h c k t z in
      let r = single-at a b h c k t z m in
      let i = r.0 in
      let w = whole in
      let f = l.front in
      let p : k - c ≡ suc (k - suc c) = omega arith in
      (omega arith, omega arith, ap (element_at ms) p ∙ at-single ms (k - suc c) i ∙ r.1 ∙ own k)

  -- an element of sign 1 at index k
  pub pair-unit : (k c : ℕ) → c < b → k ≡ plus_to a b c → Second (moduli a b) k (y + a + 2 * c + 2)
  pair-unit k c q e =
      let ms = moduli a b in
      let h = l.room in
      let w = whole in
      let len = length-moduli a b in
      let z = element ms (get_or (blocks.plus ms) k 0) in
      let f : get_or ms (a + c) one ≡ four = moduli-four a b (a + c) (omega arith) (omega arith) (omega arith) in
      let d : 1 < radix (get_or ms (a + c) one) = subst (λ (m : Modulus). 1 < radix m) (sym f) (omega arith) in
      let u : z ≡ alone ms (a + c) 1 =
      ap (λ (i : ℕ). element ms (get_or (blocks.plus ms) i 0)) e ∙ ap (element ms) (unit-at-plus a b h c q) ∙ element-unit ms (a + c) (omega arith) d in
      let o = check-four a b c q h in
      let p1 : y + a + 2 * c + 2 ≡ suc (length (singles ms) + (2 * length (pairs ms) + (a + suc (2 * c)))) = omega (arith, l.front) in
      let p3 : y + a + 2 * c + 2 - 1 ≡ suc (length (singles ms) + (2 * length (pairs ms) + (a + 2 * c))) = omega (arith, l.front) in (
        omega arith,
        omega arith,
        ap (element_at ms) p1 ∙ at-check ms (a + suc (2 * c)) ∙ o.1 ∙ sym u ∙ sym (times-one ms z (valid-element ms (get_or (blocks.plus ms) k 0))),
        ap (element_at ms) p3 ∙ at-check ms (a + 2 * c) ∙ o.0 ∙ sym (negative-alone ms (a + c) (omega arith) f) ∙ ap (negative ms) (sym u) ∙ sym (times-three ms z),
      )

  pub pair-other : (k c : ℕ) → k < length (blocks.plus (moduli a b)) → Past One a b c k → (c ≤ k) × Second (moduli a b) k (x + 2 * (k - c) + 2)
  pair-other k c m t =
      let ms = moduli a b in
      let h = l.room in
      let n : c ≤ k = few c t in
      let j = k - c in
      let i = (pair-at a b h c k t (omega (arith, length-plus a b h))).0 in
      let d : k - j ≡ c = omega arith in
      let r = pair-element a b h j k i (omega arith) (rw d t) in
      let w = whole in
      let f = l.front in
      let g = l.part in
      let p1 : x + 2 * j + 2 ≡ suc (length (singles ms) + suc (2 * j)) = omega arith in
      let p3 : x + 2 * j + 2 - 1 ≡ suc (length (singles ms) + 2 * j) = omega arith in
      (n, (omega arith, omega arith, ap (element_at ms) p1 ∙ sym r.2, ap (element_at ms) p3 ∙ sym r.1))
    where
      few : (c : ℕ) → Past One a b c k → c ≤ k
      few zero t = omega arith
      few (suc c) t =
          let o : 0 + c ≡ c = omega arith in
          let r : plus_to a b 0 + c ≤ plus_to a b c = subst (λ (i : ℕ). plus_to a b 0 + c ≤ plus_to a b i) o (plus-rises a b l.room 0 c (omega (arith, t.most))) in
          omega (arith, t.last c refl)
