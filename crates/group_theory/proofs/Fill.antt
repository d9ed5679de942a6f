-- For the loops of crate group: one law for a loop that fills an array from the front, the moduli by index, and each definition by
-- index. Assumes nothing.
use mathlib.Core.Path.{◌≡◌, refl, ap, sym, ◌∙◌}
use mathlib.Core.Bool.{Bool, ◌&&◌}
use mathlib.Core.List.{List, [], ◌∷◌}
use Prim.Native.Nat.{ℕ, zero, suc, ◌+◌, ◌*◌, ◌-◌, ◌/◌, ◌%◌, ◌^◌, ◌≤◌, ◌<◌}
use native.Mathlib.Nat.{mod-add-div, mul-add, add-mul, mul_assoc, mul_left_comm, mul_comm, pow-succ', mul-le-mul, pow-le-pow_right}
use native.Mathlib.Numerals.{add-one}
use native.Mathlib.Omega.{arith}
use borrow.Author.Tests.{eqb-true, eq-eqb, ne_eqb}
use lib.Dec.{eqb}
use lib.ListN.{length, take, drop, get_or, set, replicate, length-set, length-drop, drop_of_length-le}
use lib.Seq.{take-suc, take-suc-set, take_all, drop-cons}
use Rattle.group_theory.specs.Group.{Modulus, one, two, four, radix, moduli_of, moduli, hd, tl, zeros, sum, times, number, element}
use Rattle.group_theory.specs.Sign.{all_zero, first_of}
use Rattle.group_theory.proofs.Signs.{agree}

-- ---- a loop that fills r from the front: the first i of its n elements are those of s
abbrev pub Filled : ℕ → List ℕ → List ℕ → ℕ → Type 0
Filled n s r i = (i ≤ n) × (length r ≡ n) × (take i r ≡ take i s)

pub fill_step :
    (n : ℕ) (s r : List ℕ) (i v : ℕ) → Filled n s r i → i < n → length s ≡ n → v ≡ get_or s i 0 → Filled n s (set r i v) (i + 1)
fill_step n s r i v f h l e =
    let hr : i < length r = omega arith in
    let hs : i < length s = omega arith in
    (omega arith, simp length-set (omega arith), rw (add-one, take-suc-set, take-suc s i 0, f.2, e))

pub fill_done : (n : ℕ) (s r : List ℕ) (i : ℕ) → Filled n s r i → n ≤ i → length s ≡ n → r ≡ s
fill_done n s r i f h l = sym (take_all i r (omega arith)) ∙ f.2 ∙ take_all i s (omega arith)

-- ---- the twelve moduli
at-two : (n a b i : ℕ) → i < n → i < a → get_or (moduli_of n a b) i one ≡ two
at-two zero a b i h k = absurd (omega arith)
at-two (suc n) zero b i h k = absurd (omega arith)
at-two (suc n) (suc a) b zero h k = refl
at-two (suc n) (suc a) b (suc i) h k = at-two n a b i (omega arith) (omega arith)

at-four : (n a b i : ℕ) → i < n → a ≤ i → i - a < b → get_or (moduli_of n a b) i one ≡ four
at-four zero a b i h k l = absurd (omega arith)
at-four (suc n) zero zero i h k l = absurd (omega arith)
at-four (suc n) zero (suc b) zero h k l = refl
at-four (suc n) zero (suc b) (suc i) h k l = at-four n zero b i (omega arith) (omega arith) (omega arith)
at-four (suc n) (suc a) b zero h k l = absurd (omega arith)
at-four (suc n) (suc a) b (suc i) h k l = at-four n a b i (omega arith) (omega arith) (omega arith)

at_one : (n a b i : ℕ) → a ≤ i → b ≤ i - a → get_or (moduli_of n a b) i one ≡ one
at_one zero a b i k l = refl
at_one (suc n) zero zero zero k l = refl
at_one (suc n) zero zero (suc i) k l = at_one n zero zero i (omega arith) (omega arith)
at_one (suc n) zero (suc b) zero k l = absurd (omega arith)
at_one (suc n) zero (suc b) (suc i) k l = at_one n zero b i (omega arith) (omega arith)
at_one (suc n) (suc a) b zero k l = absurd (omega arith)
at_one (suc n) (suc a) b (suc i) k l = at_one n a b i (omega arith) (omega arith)

pub moduli-two : (a b i : ℕ) → i < 12 → i < a → get_or (moduli a b) i one ≡ two
unfolding moduli
moduli-two a b i = at-two 12 a b i

pub moduli-four : (a b i : ℕ) → i < 12 → a ≤ i → i - a < b → get_or (moduli a b) i one ≡ four
unfolding moduli
moduli-four a b i = at-four 12 a b i

pub moduli-one : (a b i : ℕ) → a ≤ i → b ≤ i - a → get_or (moduli a b) i one ≡ one
unfolding moduli
moduli-one a b i = at_one 12 a b i

length-moduli_of : (n a b : ℕ) → length (moduli_of n a b) ≡ n
length-moduli_of zero a b = refl
length-moduli_of (suc n) zero zero = ap suc (length-moduli_of n zero zero)
length-moduli_of (suc n) zero (suc b) = ap suc (length-moduli_of n zero b)
length-moduli_of (suc n) (suc a) b = ap suc (length-moduli_of n a b)

pub length-moduli : (a b : ℕ) → length (moduli a b) ≡ 12
unfolding moduli
length-moduli a b = length-moduli_of 12 a b

pub radix-small : (m : Modulus) → (0 < radix m) × (radix m ≤ 4)
radix-small one = omega arith
radix-small two = omega arith
radix-small four = omega arith

pub modulus-pos : (a b i : ℕ) → 0 < radix (get_or (moduli a b) i one)
modulus-pos a b i = (radix-small (get_or (moduli a b) i one)).0

-- ---- the definitions by index
pub get_or-tl : (x : List ℕ) (i : ℕ) → get_or (tl x) i 0 ≡ get_or x (suc i) 0
get_or-tl [] i = refl
get_or-tl (x ∷ e) i = refl

pub get_or-hd : (x : List ℕ) → hd x ≡ get_or x 0 0
get_or-hd [] = refl
get_or-hd (x ∷ e) = refl

pub length-zeros : (ms : List Modulus) → length (zeros ms) ≡ length ms
unfolding zeros
length-zeros [] = refl
length-zeros (m ∷ ms) = ap suc (length-zeros ms)

pub length-sum : (ms : List Modulus) (x y : List ℕ) → length (sum ms x y) ≡ length ms
unfolding sum
length-sum [] x y = refl
length-sum (m ∷ ms) x y = ap suc (length-sum ms (tl x) (tl y))

pub length-times : (ms : List Modulus) (d : ℕ) (x : List ℕ) → length (times ms d x) ≡ length ms
unfolding times
length-times [] d x = refl
length-times (m ∷ ms) d x = ap suc (length-times ms d (tl x))

pub length-element : (ms : List Modulus) (n : ℕ) → length (element ms n) ≡ length ms
unfolding element
length-element [] n = refl
length-element (m ∷ ms) n = ap suc (length-element ms (n / radix m))

zeros_of : (n a b : ℕ) → zeros (moduli_of n a b) ≡ replicate n 0
unfolding zeros
zeros_of zero a b = refl
zeros_of (suc n) zero zero = ap {B = List ℕ} (λ (r : List ℕ). 0 ∷ r) (zeros_of n zero zero)
zeros_of (suc n) zero (suc b) = ap {B = List ℕ} (λ (r : List ℕ). 0 ∷ r) (zeros_of n zero b)
zeros_of (suc n) (suc a) b = ap {B = List ℕ} (λ (r : List ℕ). 0 ∷ r) (zeros_of n a b)

pub zeros-moduli : (a b : ℕ) → zeros (moduli a b) ≡ replicate 12 0
unfolding moduli
zeros-moduli a b = zeros_of 12 a b

pub sum-at : (ms : List Modulus) (x y : List ℕ) (i : ℕ) → i < length ms
    → get_or (sum ms x y) i 0 ≡ (get_or x i 0 + get_or y i 0) % radix (get_or ms i one)
unfolding sum
sum-at [] x y i h = absurd (omega arith)
sum-at (m ∷ ms) x y zero h = rw (get_or-hd x, get_or-hd y)
sum-at (m ∷ ms) x y (suc i) h = sum-at ms (tl x) (tl y) i (omega arith) ∙ rw (get_or-tl x i, get_or-tl y i)

pub times-at : (ms : List Modulus) (d : ℕ) (x : List ℕ) (i : ℕ) → i < length ms
    → get_or (times ms d x) i 0 ≡ d * get_or x i 0 % radix (get_or ms i one)
unfolding times
times-at [] d x i h = absurd (omega arith)
times-at (m ∷ ms) d x zero h = rw (get_or-hd x)
times-at (m ∷ ms) d x (suc i) h = times-at ms d (tl x) i (omega arith) ∙ rw (get_or-tl x i)

-- ---- components may be reduced modulo 4 first
pub sum-mod : (m : Modulus) (x y : ℕ) → (x % 4 + y % 4) % radix m ≡ (x + y) % radix m
sum-mod one x y = omega arith
sum-mod two x y = omega arith
sum-mod four x y = omega arith

-- d x is (d % 4) (x % 4) and a multiple of 4
split-four : (d x : ℕ) → d * x ≡ (d % 4) * (x % 4) + 4 * ((d % 4) * (x / 4) + (d / 4) * x)
split-four d x =
    omega (
      arith,
      ap (λ (k : ℕ). k * x) (mod-add-div d 4),
      add-mul (d % 4) (4 * (d / 4)) x,
      mul_assoc 4 (d / 4) x,
      ap (λ (k : ℕ). (d % 4) * k) (mod-add-div x 4),
      mul-add (d % 4) (x % 4) (4 * (x / 4)),
      mul_left_comm (d % 4) 4 (x / 4),
    )

pub times_mod : (m : Modulus) (d x : ℕ) → ((d % 4) * (x % 4)) % radix m ≡ d * x % radix m
times_mod one d x = let s = split-four d x in omega arith
times_mod two d x = let s = split-four d x in omega arith
times_mod four d x = let s = split-four d x in omega arith

-- ---- the element of a number, filled component by component: what is left of it is that of what is left of the number
element-step :
    (ms : List Modulus) (s : List ℕ) (i n : ℕ) → i < length ms → i < length s → drop i s ≡ element (drop i ms) n
    → (get_or s i 0 ≡ n % radix (get_or ms i one)) × (drop (i + 1) s ≡ element (drop (i + 1) ms) (n / radix (get_or ms i one)))
unfolding element
element-step ms s i n h k e =
    let p : get_or s i 0 ∷ drop (suc i) s ≡ element (get_or ms i one ∷ drop (suc i) ms) n =
    rw (drop-cons s i 0, drop-cons ms i one) at e in
    (cc, rw add-one (cc))

abbrev pub Left : ℕ → ℕ → ℕ → List ℕ → ℕ → ℕ → Type 0
Left a b n r left i =
    Filled 12 (element (moduli a b) n) r i × (drop i (element (moduli a b) n) ≡ element (drop i (moduli a b)) left)

pub left_step :
    (a b n : ℕ) (r : List ℕ) (left i : ℕ) (m : Modulus) → get_or (moduli a b) i one ≡ m → i < 12 → Left a b n r left i
    → Left a b n (set r i (left % radix m)) (left / radix m) (i + 1)
left_step a b n r left i m w h v =
    let k = length-moduli a b in
    let l : length (element (moduli a b) n) ≡ 12 = length-element (moduli a b) n ∙ k in
    let s = element-step (moduli a b) (element (moduli a b) n) i left (omega arith) (omega arith) v.1 in
    rw (← w) (fill_step _ _ _ _ _ v.0 h l (sym s.0), s.1)

-- ---- the number of an element, read off from its last component down to component i − 1
number_step :
    (ms : List Modulus) (x : List ℕ) (j : ℕ) → j < length ms → j < length x
    → number (drop j ms) (drop j x)
    ≡ get_or x j 0 % radix (get_or ms j one) + radix (get_or ms j one) * number (drop (j + 1) ms) (drop (j + 1) x)
unfolding number
number_step ms x j h k = rw (drop-cons ms j one, drop-cons x j 0, add-one)

pub number-none : (a b : ℕ) (x : List ℕ) → number (drop 12 (moduli a b)) x ≡ 0
unfolding number
number-none a b x = rw (drop_of_length-le (moduli a b) {i = 12} (omega (arith, length-moduli a b)))

number_small : (ms : List Modulus) (x : List ℕ) → number ms x < 4 ^ length ms
unfolding number
number_small [] x = omega arith
number_small (m ∷ ms) x =
    let h : number ms (tl x) < 4 ^ length ms = number_small ms (tl x) in
    let k : radix m * suc (number ms (tl x)) ≤ 4 * 4 ^ length ms = mul-le-mul (radix-small m).1 h in
    rw pow-succ' (digit m (hd x) (number ms (tl x)) (4 ^ length ms) h)
  where
    digit : (m : Modulus) (x n s : ℕ) → n < s → x % radix m + radix m * n < 4 * s
    digit one x n s l = omega arith
    digit two x n s l = omega arith
    digit four x n s l = omega arith

number-drop-lt : (a b j : ℕ) (x : List ℕ) → number (drop j (moduli a b)) x < 2 ^ 24
number-drop-lt a b j x =
    let l : length (drop j (moduli a b)) ≤ 12 = rw (length-drop, length-moduli) (omega arith) in
    omega (arith, number_small (drop j (moduli a b)) x, pow-le-pow_right {n = 4} (omega arith) l)

-- what a turn computes is the number from one component further down, and that is small
pub number-turn :
    (a b : ℕ) (x : List ℕ) (n i : ℕ) → length x ≡ 12 → 0 < i → i ≤ 12 → n ≡ number (drop i (moduli a b)) (drop i x)
    → (n * radix (get_or (moduli a b) (i - 1) one) + get_or x (i - 1) 0 % radix (get_or (moduli a b) (i - 1) one)
    ≡ number (drop (i - 1) (moduli a b)) (drop (i - 1) x))
    × (number (drop (i - 1) (moduli a b)) (drop (i - 1) x) < 2 ^ 24)
number-turn a b x n i l p q e =
    let j : i - 1 + 1 ≡ i = omega arith in (
      rw (number_step (moduli a b) x (i - 1) (omega (arith, length-moduli a b)) (omega arith), j, e)
          (omega (arith, mul_comm (radix (get_or (moduli a b) (i - 1) one)) (number (drop i (moduli a b)) (drop i x)))),
      number-drop-lt a b (i - 1) (drop (i - 1) x),
    )

-- ---- the search for a component that is not 0
first-zero : (x : ℕ) (e : List ℕ) → x ≡ 0 → first_of (x ∷ e) ≡ suc (first_of e)
unfolding first_of
first-zero x e p = rw p

first-other : (x : ℕ) (e : List ℕ) → (x ≡ 0 → ⊥) → first_of (x ∷ e) ≡ 0
unfolding first_of
first-other zero e n = absurd (n refl)
first-other (suc x) e n = refl

pub first_step : (x : List ℕ) (i : ℕ) → i < length x → get_or x i 0 ≡ 0 → first_of (drop i x) ≡ suc (first_of (drop (i + 1) x))
first_step x i h e = rw (drop-cons x i 0, add-one) (first-zero (get_or x i 0) (drop (suc i) x) e)

pub first_found : (x : List ℕ) (i : ℕ) → i < length x → (get_or x i 0 ≡ 0 → ⊥) → first_of (drop i x) ≡ 0
first_found x i h e = rw (drop-cons x i 0) (first-other (get_or x i 0) (drop (suc i) x) e)

pub first-end : (x : List ℕ) (i : ℕ) → length x ≤ i → first_of (drop i x) ≡ 0
unfolding first_of
first-end x i h = rw (drop_of_length-le x h)

pub zero-first : (x : List ℕ) → eqb (first_of x) (length x) ≡ all_zero x
unfolding first_of all_zero
zero-first [] = refl
zero-first (zero ∷ x) = eqb-suc (first_of x) (length x) ∙ zero-first x
  where
    eqb-suc : (a b : ℕ) → eqb (suc a) (suc b) ≡ eqb a b
    eqb-suc a b =
        agree (eqb (suc a) (suc b)) (eqb a b)
        (λ t. let p = eqb-true (suc a) (suc b) t in eq-eqb a b (omega arith))
        (λ t. let p = eqb-true a b t in eq-eqb (suc a) (suc b) (omega arith))
zero-first (suc x ∷ e) = ne_eqb 0 (suc (length e)) (omega arith) ∙ sym (ap (λ (b : Bool). b && all_zero e) (ne_eqb (suc x) 0 (omega arith)))
