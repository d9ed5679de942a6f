-- Sums over a list of numbers, each element times its weight: they are elements, they are linear in the weights, and, taken apart by a last
-- component, they are sums of the same kind with fewer components, and that component. Assumes nothing.
use mathlib.Core.Path.{◌≡◌, refl, sym, ap, ap₂, ◌∙◌}
use mathlib.Core.List.{List, [], ◌∷◌, ◌++◌}
use Prim.Native.Nat.{ℕ, suc, ◌+◌, ◌*◌, ◌%◌}
use native.Mathlib.Nat.{add-mul}
use native.Mathlib.Omega.{arith}
use lib.ListN.{length}
use Rattle.group_theory.specs.Group.{Modulus, one, two, four, radix, tl, Valid, zeros, sum, times, element, size}
use Rattle.group_theory.specs.Weights.{weigh_on, shifted, Below, added, total}
use Rattle.group_theory.proofs.Laws.{valid-zeros, valid-sum, sum-assoc, sum-four, zero-sum, times-add, times-mod4}
use Rattle.group_theory.proofs.Fill.{sum-mod, times_mod, length-zeros, length-sum, length-times, length-element}
use Rattle.group_theory.proofs.Snoc.{zeros-snoc, sum-snoc, times_snoc, element-snoc, zeros-behind, element-behind, times-behind, sum-behind}

-- ---- the sum is an element
pub valid-on : (ms : List Modulus) (xs v : List ℕ) → Valid ms (weigh_on ms xs v)
unfolding weigh_on
valid-on ms [] v = valid-zeros ms
valid-on ms (x ∷ xs) [] = valid-zeros ms
valid-on ms (x ∷ xs) (d ∷ v) = valid-sum ms (times ms d (element ms x)) (weigh_on ms xs v)

pub length-on : (ms : List Modulus) (xs v : List ℕ) → length (weigh_on ms xs v) ≡ length ms
unfolding weigh_on
length-on ms [] v = length-zeros ms
length-on ms (x ∷ xs) [] = length-zeros ms
length-on ms (x ∷ xs) (d ∷ v) = length-sum ms (times ms d (element ms x)) (weigh_on ms xs v)

-- ---- parts, and weights added
pub on-append : (ms : List Modulus) (xs ys u v : List ℕ) → length u ≡ length xs → weigh_on ms (xs ++ ys) (u ++ v) ≡ sum ms (weigh_on ms xs u) (weigh_on ms ys v)
unfolding weigh_on
on-append ms [] ys [] v h = sym (zero-sum ms (weigh_on ms ys v) (valid-on ms ys v))
on-append ms [] ys (d ∷ u) v h = absurd (omega arith)
on-append ms (x ∷ xs) ys [] v h = absurd (omega arith)
on-append ms (x ∷ xs) ys (d ∷ u) v h =
    ap (sum ms (times ms d (element ms x))) (on-append ms xs ys u v (omega arith))
    ∙ sym (sum-assoc ms (times ms d (element ms x)) (weigh_on ms xs u) (weigh_on ms ys v))

pub on-added : (ms : List Modulus) (xs u v : List ℕ) → length u ≡ length v → weigh_on ms xs (added u v) ≡ sum ms (weigh_on ms xs u) (weigh_on ms xs v)
unfolding weigh_on added
on-added ms [] u v h = sym (zero-sum ms (zeros ms) (valid-zeros ms))
on-added ms (x ∷ xs) [] [] h = sym (zero-sum ms (zeros ms) (valid-zeros ms))
on-added ms (x ∷ xs) [] (q ∷ v) h = absurd (omega arith)
on-added ms (x ∷ xs) (p ∷ u) [] h = absurd (omega arith)
on-added ms (x ∷ xs) (p ∷ u) (q ∷ v) h =
    ap₂ (sum ms)
    (times-mod4 ms (p % 4 + q % 4) (element ms x)
    ∙ times-add ms (p % 4) (q % 4) (element ms x)
    ∙ ap₂ (sum ms) (times-mod4 ms p (element ms x)) (times-mod4 ms q (element ms x)))
    (on-added ms xs u v (omega arith))
    ∙ sum-four ms (times ms p (element ms x)) (times ms q (element ms x)) (weigh_on ms xs u) (weigh_on ms xs v)

pub length-added : (u v : List ℕ) → length (added u v) ≡ length u
unfolding added
length-added [] v = refl
length-added (p ∷ u) v = ap suc (length-added u (tl v))

pub total-append : (u v : List ℕ) → total (u ++ v) ≡ total u + total v
unfolding total
total-append [] v = omega arith
total-append (p ∷ u) v = let i = total-append u v in omega arith

-- only the remainders of summands count
pub rest : (w x y z : ℕ) → w % 4 ≡ x % 4 → y % 4 ≡ z % 4 → (w + y) % 4 ≡ (x + z) % 4
rest w x y z e f = sym (sum-mod four w y) ∙ ap₂ (λ (m n : ℕ). (m + n) % 4) e f ∙ sum-mod four x z

pub total-added : (u v : List ℕ) → length u ≡ length v → total (added u v) % 4 ≡ (total u + total v) % 4
unfolding total added
total-added [] [] h = refl
total-added [] (q ∷ v) h = absurd (omega arith)
total-added (p ∷ u) [] h = absurd (omega arith)
total-added (p ∷ u) (q ∷ v) h =
    rest ((p % 4 + q % 4) % 4 % 4) (p % 4 + q % 4) (total (added u v)) (total u + total v) (again (p % 4 + q % 4)) (total-added u v (omega arith))
    ∙ ap (λ (n : ℕ). n % 4) (omega arith)
  where
    again : (z : ℕ) → z % 4 % 4 % 4 ≡ z % 4
    again z = omega arith

-- ---- numbers with the digit h in one more component
share : (m : Modulus) (d t e : ℕ) → (d * e % radix m + t * e % radix m) % radix m ≡ (d % 4 + t) * e % radix m
share m d t e =
    let f : (d % 4) * e % radix m ≡ d * e % radix m =
    sym (times_mod m (d % 4) e) ∙ ap (λ (k : ℕ). k * (e % 4) % radix m) (again d) ∙ times_mod m d e in
    rw (add-mul, ← f) (twice m ((d % 4) * e) (t * e))
  where
    again : (d : ℕ) → d % 4 % 4 ≡ d % 4
    again d = omega arith

    twice : (m : Modulus) (x y : ℕ) → (x % radix m + y % radix m) % radix m ≡ (x + y) % radix m
    twice one x y = omega arith
    twice two x y = omega arith
    twice four x y = omega arith

pub on-shifted :
    (ms : List Modulus) (m : Modulus) (h : ℕ) (xs v : List ℕ) → Below (size ms) xs → length v ≡ length xs
    → weigh_on (ms ++ m ∷ []) (shifted (size ms * h) xs) v ≡ weigh_on ms xs v ++ (total v * (h % radix m) % radix m ∷ [])
unfolding weigh_on total shifted
on-shifted ms m h [] [] b l = zeros-snoc ms m ∙ ap (λ (k : ℕ). zeros ms ++ (k ∷ [])) (nothing m (h % radix m))
  where
    nothing : (m : Modulus) (e : ℕ) → 0 ≡ 0 * e % radix m
    nothing one e = omega arith
    nothing two e = omega arith
    nothing four e = omega arith
on-shifted ms m h [] (d ∷ v) b l = absurd (omega arith)
on-shifted ms m h (x ∷ xs) [] b l = absurd (omega arith)
on-shifted ms m h (x ∷ xs) (d ∷ v) b l =
    let e = h % radix m in
    let i : weigh_on (ms ++ m ∷ []) (shifted (size ms * h) xs) v ≡ weigh_on ms xs v ++ (total v * e % radix m ∷ []) =
    on-shifted ms m h xs v b.1 (omega arith) in
    rw (i, element-snoc ms m h x b.0, times_snoc ms m d (element ms x) e (length-element ms x))
    (sum-snoc ms m (times ms d (element ms x)) (weigh_on ms xs v) (d * e % radix m) (total v * e % radix m)
    (length-times ms d (element ms x))
    (length-on ms xs v)
    ∙ ap (λ (k : ℕ). sum ms (times ms d (element ms x)) (weigh_on ms xs v) ++ (k ∷ [])) (share m d (total v) e))

pub length-shifted : (c : ℕ) (xs : List ℕ) → length (shifted c xs) ≡ length xs
unfolding shifted
length-shifted c [] = refl
length-shifted c (x ∷ xs) = ap suc (length-shifted c xs)

-- ---- components behind, that no number of the list reaches
pub on-behind : (ms ns : List Modulus) (xs v : List ℕ) → Below (size ms) xs → weigh_on (ms ++ ns) xs v ≡ weigh_on ms xs v ++ zeros ns
unfolding weigh_on
on-behind ms ns [] v b = zeros-behind ms ns
on-behind ms ns (x ∷ xs) [] b = zeros-behind ms ns
on-behind ms ns (x ∷ xs) (d ∷ v) b =
    rw (on-behind ms ns xs v b.1, element-behind ms ns x b.0, times-behind ms ns d (element ms x) (length-element ms x))
    (sum-behind ms ns (times ms d (element ms x)) (weigh_on ms xs v) (length-times ms d (element ms x)) (length-on ms xs v))
