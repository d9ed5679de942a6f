-- Components behind the others: what one more component, or several that a number does not reach, does to sizes, elements, multiples and
-- sums. Assumes nothing.
use mathlib.Core.Path.{◌≡◌, refl, sym, ap, ap₂, ◌∙◌}
use mathlib.Core.List.{List, [], ◌∷◌, ◌++◌}
use Prim.Native.Nat.{ℕ, ◌+◌, ◌*◌, ◌/◌, ◌%◌, ◌<◌}
use native.Mathlib.Nat.{mul_assoc}
use native.Mathlib.Omega.{arith}
use lib.ListN.{length}
use Rattle.group_theory.specs.Group.{Modulus, one, two, four, radix, zeros, sum, times, element, size}
use Rattle.group_theory.proofs.Laws.{valid-zeros, zero-sum}
use Rattle.group_theory.proofs.Numbers.{element-zero}
use Rattle.group_theory.proofs.Unit.{times-zeros}

-- ---- one component more, behind the others
pub size-snoc : (ms : List Modulus) (m : Modulus) → size (ms ++ m ∷ []) ≡ size ms * radix m
unfolding size
size-snoc [] m = omega arith
size-snoc (k ∷ ms) m = ap (λ (s : ℕ). radix k * s) (size-snoc ms m) ∙ sym (mul_assoc (radix k) (size ms) (radix m))

pub zeros-snoc : (ms : List Modulus) (m : Modulus) → zeros (ms ++ m ∷ []) ≡ zeros ms ++ (0 ∷ [])
unfolding zeros
zeros-snoc [] m = refl
zeros-snoc (k ∷ ms) m = ap {B = List ℕ} (λ (r : List ℕ). 0 ∷ r) (zeros-snoc ms m)

pub sum-snoc : (ms : List Modulus) (m : Modulus) (x y : List ℕ) (p q : ℕ) → length x ≡ length ms → length y ≡ length ms
    → sum (ms ++ m ∷ []) (x ++ (p ∷ [])) (y ++ (q ∷ [])) ≡ sum ms x y ++ ((p + q) % radix m ∷ [])
unfolding sum
sum-snoc [] m [] [] p q h k = refl
sum-snoc [] m [] (y ∷ f) p q h k = absurd (omega arith)
sum-snoc [] m (x ∷ e) y p q h k = absurd (omega arith)
sum-snoc (n ∷ ms) m [] y p q h k = absurd (omega arith)
sum-snoc (n ∷ ms) m (x ∷ e) [] p q h k = absurd (omega arith)
sum-snoc (n ∷ ms) m (x ∷ e) (y ∷ f) p q h k = ap {B = List ℕ} (λ (r : List ℕ). (x + y) % radix n ∷ r) (sum-snoc ms m e f p q (omega arith) (omega arith))

pub times_snoc : (ms : List Modulus) (m : Modulus) (d : ℕ) (x : List ℕ) (p : ℕ) → length x ≡ length ms
    → times (ms ++ m ∷ []) d (x ++ (p ∷ [])) ≡ times ms d x ++ (d * p % radix m ∷ [])
unfolding times
times_snoc [] m d [] p h = refl
times_snoc [] m d (x ∷ e) p h = absurd (omega arith)
times_snoc (n ∷ ms) m d [] p h = absurd (omega arith)
times_snoc (n ∷ ms) m d (x ∷ e) p h = ap {B = List ℕ} (λ (r : List ℕ). d * x % radix n ∷ r) (times_snoc ms m d e p (omega arith))

-- a number that the other components do not reach stands for one that they do, and a digit of the last component
pub element-snoc : (ms : List Modulus) (m : Modulus) (h x : ℕ) → x < size ms
    → element (ms ++ m ∷ []) (x + size ms * h) ≡ element ms x ++ (h % radix m ∷ [])
unfolding element size
element-snoc [] m h x l =
    let e : x + 1 * h ≡ h = omega arith in
    ap {B = List ℕ} (λ (n : ℕ). n % radix m ∷ []) e
element-snoc (k ∷ ms) m h x l =
    let d = digit k x (size ms) (size ms * h) l in
    rw (mul_assoc (radix k) (size ms) h)
    (ap₂ {C = List ℕ} ◌∷◌ d.0 (ap (element (ms ++ m ∷ [])) d.1 ∙ element-snoc ms m h (x / radix k) d.2))
  where
    digit : (k : Modulus) (x s t : ℕ) → x < radix k * s
        → ((x + radix k * t) % radix k ≡ x % radix k) × ((x + radix k * t) / radix k ≡ x / radix k + t) × (x / radix k < s)
    digit one x s t l = (omega arith, omega arith, omega arith)
    digit two x s t l = (omega arith, omega arith, omega arith)
    digit four x s t l = (omega arith, omega arith, omega arith)

-- ---- components behind, that no number reaches
pub element-behind : (ms ns : List Modulus) (x : ℕ) → x < size ms → element (ms ++ ns) x ≡ element ms x ++ zeros ns
unfolding element size
element-behind [] ns x h = let z : x ≡ 0 = omega arith in rw z (element-zero ns)
element-behind (m ∷ ms) ns x h = ap {B = List ℕ} (λ (r : List ℕ). x % radix m ∷ r) (element-behind ms ns (x / radix m) (less m x (size ms) h))
  where
    less : (m : Modulus) (x s : ℕ) → x < radix m * s → x / radix m < s
    less one x s h = omega arith
    less two x s h = omega arith
    less four x s h = omega arith

pub times-behind : (ms ns : List Modulus) (d : ℕ) (x : List ℕ) → length x ≡ length ms → times (ms ++ ns) d (x ++ zeros ns) ≡ times ms d x ++ zeros ns
unfolding times
times-behind [] ns d [] h = times-zeros ns d
times-behind [] ns d (x ∷ e) h = absurd (omega arith)
times-behind (m ∷ ms) ns d [] h = absurd (omega arith)
times-behind (m ∷ ms) ns d (x ∷ e) h = ap {B = List ℕ} (λ (r : List ℕ). d * x % radix m ∷ r) (times-behind ms ns d e (omega arith))

pub sum-behind : (ms ns : List Modulus) (x y : List ℕ) → length x ≡ length ms → length y ≡ length ms → sum (ms ++ ns) (x ++ zeros ns) (y ++ zeros ns) ≡ sum ms x y ++ zeros ns
unfolding sum
sum-behind [] ns [] [] h k = zero-sum ns (zeros ns) (valid-zeros ns)
sum-behind [] ns [] (y ∷ f) h k = absurd (omega arith)
sum-behind [] ns (x ∷ e) y h k = absurd (omega arith)
sum-behind (m ∷ ms) ns [] y h k = absurd (omega arith)
sum-behind (m ∷ ms) ns (x ∷ e) [] h k = absurd (omega arith)
sum-behind (m ∷ ms) ns (x ∷ e) (y ∷ f) h k = ap {B = List ℕ} (λ (r : List ℕ). (x + y) % radix m ∷ r) (sum-behind ms ns e f (omega arith) (omega arith))

pub zeros-behind : (ms ns : List Modulus) → zeros (ms ++ ns) ≡ zeros ms ++ zeros ns
unfolding zeros
zeros-behind [] ns = refl
zeros-behind (m ∷ ms) ns = ap {B = List ℕ} (λ (r : List ℕ). 0 ∷ r) (zeros-behind ms ns)
