-- One component taken off a weighted sum, by blocks of numbers and of weights. Assumes nothing.
use mathlib.Core.Path.{◌≡◌, refl, sym, ap, ap₂, ◌∙◌}
use mathlib.Core.List.{List, [], ◌∷◌, ◌++◌}
use Prim.Native.Nat.{ℕ, ◌+◌, ◌*◌, ◌%◌, ◌≤◌}
use native.Mathlib.Omega.{arith}
use lib.ListN.{length, take, drop, length-drop, length-append}
use lib.Seq.{take-add, length-take-le, drop-drop}
use Rattle.group_theory.specs.Group.{Modulus, four, radix, sum, size}
use Rattle.group_theory.specs.Weights.{weigh_on, shifted, added, total, Below}
use Rattle.group_theory.proofs.Laws.{sum_comm, sum-assoc, sum-four}
use Rattle.group_theory.proofs.Fill.{length-sum, sum-mod}
use Rattle.group_theory.proofs.Snoc.{sum-snoc}
use Rattle.group_theory.proofs.Weights.{length-on, on-append, on-added, on-shifted, length-shifted, length-added, rest, total-added}
use Rattle.blocks_theory.proofs.Blocks.{next}
use Rattle.folds_theory.specs.Folds.{stretch, double, triple, plus_at, low_at, first_plus, first_tops, next_plus, plus_tops, next_low, low_tops}

-- ---- two blocks over one list: the digits 0 and h
module _ (ms : List Modulus) (m : Modulus) (h : ℕ) (x : List ℕ) (b : Below (size ms) x) (v0 v1 : List ℕ) (l0 : length v0 ≡ length x) (l1 : length v1 ≡ length x) where
  abbrev w0 : List ℕ
  w0 = weigh_on ms x v0

  abbrev w1 : List ℕ
  w1 = weigh_on ms x v1

  pub two-off : weigh_on (ms ++ m ∷ []) (shifted (size ms * 0) x ++ shifted (size ms * h) x) (v0 ++ v1)
      ≡ weigh_on ms x (added v0 v1) ++ ((total v0 * (0 % radix m) % radix m + total v1 * (h % radix m) % radix m) % radix m ∷ [])
  two-off =
      on-append (ms ++ m ∷ []) (shifted (size ms * 0) x) (shifted (size ms * h) x) v0 v1 (l0 ∙ sym (length-shifted (size ms * 0) x))
      ∙ ap₂ (sum (ms ++ m ∷ [])) (on-shifted ms m 0 x v0 b l0) (on-shifted ms m h x v1 b l1)
      ∙ sum-snoc ms m w0 w1 (total v0 * (0 % radix m) % radix m) (total v1 * (h % radix m) % radix m) (length-on ms x v0) (length-on ms x v1)
      ∙ ap (λ (r : List ℕ). r ++ ((total v0 * (0 % radix m) % radix m + total v1 * (h % radix m) % radix m) % radix m ∷ [])) (sym (on-added ms x v0 v1 (l0 ∙ sym l1)))

-- ---- one component taken off: four blocks of weights over any four lists
parts : (p q r s : ℕ) → p * 0 + (q * 1 + (r * 2 + s * 3)) ≡ q + 2 * r + 3 * s
parts p q r s = omega arith

last : (p q r s : ℕ) → (p * 0 % 4 + (q * 1 % 4 + (r * 2 % 4 + s * 3 % 4) % 4) % 4) % 4 ≡ (q + 2 * r + 3 * s) % 4
last p q r s =
    ap (λ (k : ℕ). (p * 0 % 4 + (q * 1 % 4 + k) % 4) % 4) (sum-mod four (r * 2) (s * 3))
    ∙ ap (λ (k : ℕ). (p * 0 % 4 + k) % 4) (sum-mod four (q * 1) (r * 2 + s * 3))
    ∙ sum-mod four (p * 0) (q * 1 + (r * 2 + s * 3))
    ∙ ap (λ (k : ℕ). k % 4) (parts p q r s)

module _ (ms : List Modulus) (x0 x1 x2 x3 : List ℕ) (b0 : Below (size ms) x0) (b1 : Below (size ms) x1) (b2 : Below (size ms) x2) (b3 : Below (size ms) x3)
    (v0 v1 v2 v3 : List ℕ) (l0 : length v0 ≡ length x0) (l1 : length v1 ≡ length x1) (l2 : length v2 ≡ length x2) (l3 : length v3 ≡ length x3) where
  pub four-off :
      weigh_on (next ms) (shifted (size ms * 0) x0 ++ (shifted (size ms * 1) x1 ++ (shifted (size ms * 2) x2 ++ shifted (size ms * 3) x3))) (v0 ++ (v1 ++ (v2 ++ v3)))
      ≡ sum ms (weigh_on ms x0 v0) (sum ms (weigh_on ms x1 v1) (sum ms (weigh_on ms x2 v2) (weigh_on ms x3 v3)))
      ++ ((total v1 + 2 * total v2 + 3 * total v3) % 4 ∷ [])
  four-off =
      let w0 = weigh_on ms x0 v0 in
      let w1 = weigh_on ms x1 v1 in
      let w2 = weigh_on ms x2 v2 in
      let w3 = weigh_on ms x3 v3 in
      let p0 = total v0 * 0 % 4 in
      let p1 = total v1 * 1 % 4 in
      let p2 = total v2 * 2 % 4 in
      let p3 = total v3 * 3 % 4 in
      let e0 : weigh_on (next ms) (shifted (size ms * 0) x0) v0 ≡ w0 ++ (p0 ∷ []) = on-shifted ms four 0 x0 v0 b0 l0 in
      let e1 : weigh_on (next ms) (shifted (size ms * 1) x1) v1 ≡ w1 ++ (p1 ∷ []) = on-shifted ms four 1 x1 v1 b1 l1 in
      let e2 : weigh_on (next ms) (shifted (size ms * 2) x2) v2 ≡ w2 ++ (p2 ∷ []) = on-shifted ms four 2 x2 v2 b2 l2 in
      let e3 : weigh_on (next ms) (shifted (size ms * 3) x3) v3 ≡ w3 ++ (p3 ∷ []) = on-shifted ms four 3 x3 v3 b3 l3 in
      let s2 : weigh_on (next ms) (shifted (size ms * 2) x2 ++ shifted (size ms * 3) x3) (v2 ++ v3) ≡ sum ms w2 w3 ++ ((p2 + p3) % 4 ∷ []) =
      on-append (next ms) (shifted (size ms * 2) x2) (shifted (size ms * 3) x3) v2 v3 (l2 ∙ sym (length-shifted (size ms * 2) x2))
      ∙ ap₂ (sum (next ms)) e2 e3 ∙ sum-snoc ms four w2 w3 p2 p3 (length-on ms x2 v2) (length-on ms x3 v3) in
      let s1 : weigh_on (next ms) (shifted (size ms * 1) x1 ++ (shifted (size ms * 2) x2 ++ shifted (size ms * 3) x3)) (v1 ++ (v2 ++ v3))
      ≡ sum ms w1 (sum ms w2 w3) ++ ((p1 + (p2 + p3) % 4) % 4 ∷ []) =
      on-append (next ms) (shifted (size ms * 1) x1) (shifted (size ms * 2) x2 ++ shifted (size ms * 3) x3) v1 (v2 ++ v3) (l1 ∙ sym (length-shifted (size ms * 1) x1))
      ∙ ap₂ (sum (next ms)) e1 s2 ∙ sum-snoc ms four w1 (sum ms w2 w3) p1 ((p2 + p3) % 4) (length-on ms x1 v1) (length-sum ms w2 w3) in
      on-append (next ms) (shifted (size ms * 0) x0) (shifted (size ms * 1) x1 ++ (shifted (size ms * 2) x2 ++ shifted (size ms * 3) x3)) v0 (v1 ++ (v2 ++ v3))
      (l0 ∙ sym (length-shifted (size ms * 0) x0))
      ∙ ap₂ (sum (next ms)) e0 s1
      ∙ sum-snoc ms four w0 (sum ms w1 (sum ms w2 w3)) p0 ((p1 + (p2 + p3) % 4) % 4) (length-on ms x0 v0) (length-sum ms w1 (sum ms w2 w3))
      ∙ ap (λ (k : ℕ). sum ms w0 (sum ms w1 (sum ms w2 w3)) ++ (k ∷ [])) (last (total v0) (total v1) (total v2) (total v3))

pub four-lengths : (n : ℕ) (x0 x1 x2 x3 : List ℕ)
    → length (shifted (n * 0) x0 ++ (shifted (n * 1) x1 ++ (shifted (n * 2) x2 ++ shifted (n * 3) x3))) ≡ length x0 + (length x1 + (length x2 + length x3))
four-lengths n x0 x1 x2 x3 = rw (length-append, length-append, length-append, length-shifted, length-shifted, length-shifted, length-shifted) refl

-- ---- stretches of weights
pub length-stretch : (k n : ℕ) (v : List ℕ) → k + n ≤ length v → length (stretch k n v) ≡ n
length-stretch k n v h = length-take-le n (drop k v) (rw length-drop (omega arith))

-- four of them, one after the other from an index on
four-stretches : (k n0 n1 n2 n3 : ℕ) (v : List ℕ)
    → stretch k (n0 + (n1 + (n2 + n3))) v ≡ stretch k n0 v ++ (stretch (k + n0) n1 v ++ (stretch (k + n0 + n1) n2 v ++ stretch (k + n0 + n1 + n2) n3 v))
four-stretches k n0 n1 n2 n3 v =
    take-add n0 (n1 + (n2 + n3)) (drop k v)
    ∙ ap (λ (r : List ℕ). stretch k n0 v ++ r)
    (ap (take (n1 + (n2 + n3))) (drop-drop n0 k v)
    ∙ take-add n1 (n2 + n3) (drop (k + n0) v)
    ∙ ap (λ (r : List ℕ). stretch (k + n0) n1 v ++ r)
    (ap (take (n2 + n3)) (drop-drop n1 (k + n0) v)
    ∙ take-add n2 n3 (drop (k + n0 + n1) v)
    ∙ ap (λ (r : List ℕ). stretch (k + n0 + n1) n2 v ++ take n3 r) (drop-drop n2 (k + n0 + n1) v)))

-- how many weights are left
module _ (p m : ℕ) (s : List ℕ) (h : 3 * p + m ≤ length s) where
  pub length-first-plus : length (first_plus p m s) ≡ p
  unfolding first_plus
  length-first-plus = length-added (plus_at p m 0 s) (added (plus_at p m 2 s) (plus_at p m 3 s)) ∙ length-stretch 0 p s (omega arith)

module _ (p m : ℕ) (s : List ℕ) (h : 4 * p + 4 * m ≤ length s) where
  pub length-plus : length (next_plus p m s) ≡ p
  unfolding next_plus
  length-plus =
      length-added (added (plus_at p m 0 s) (plus_at p m 2 s)) (added (plus_at p m 3 s) (low_at p m 3 s)) ∙ length-added (plus_at p m 0 s) (plus_at p m 2 s) ∙ length-stretch 0 p s (omega arith)

  pub length-low : length (next_low p m s) ≡ m
  unfolding next_low
  length-low =
      length-added (added (plus_at p m 1 s) (low_at p m 0 s)) (added (low_at p m 1 s) (low_at p m 2 s)) ∙ length-added (plus_at p m 1 s) (low_at p m 0 s) ∙ length-stretch p m s (omega arith)

-- ---- totals modulo 4
pub double-total : (u : List ℕ) → total (double u) % 4 ≡ 2 * total u % 4
double-total u = total-added u u refl ∙ ap (λ (k : ℕ). k % 4) (omega arith)

pub triple-total : (u : List ℕ) → total (triple u) % 4 ≡ 3 * total u % 4
triple-total u =
    total-added u (double u) (sym (length-added u u)) ∙ rest (total u) (total u) (total (double u)) (2 * total u) refl (double-total u)
    ∙ ap (λ (k : ℕ). k % 4) (omega arith)

-- ---- sums of four and of eight
swap : (ms : List Modulus) (x y z : List ℕ) → sum ms x (sum ms y z) ≡ sum ms y (sum ms x z)
swap ms x y z = sym (sum-assoc ms x y z) ∙ ap (λ (r : List ℕ). sum ms r z) (sum_comm ms x y) ∙ sum-assoc ms y x z

three-one : (ms : List Modulus) (a0 a1 a2 a3 : List ℕ) → sum ms a0 (sum ms a1 (sum ms a2 a3)) ≡ sum ms (sum ms a0 (sum ms a2 a3)) a1
three-one ms a0 a1 a2 a3 = swap ms a0 a1 (sum ms a2 a3) ∙ sum_comm ms a1 (sum ms a0 (sum ms a2 a3))

module _ (ms : List Modulus) (a0 a1 a2 a3 b0 b1 b2 b3 : List ℕ) where
  one-three : sum ms b0 (sum ms b1 (sum ms b2 b3)) ≡ sum ms b3 (sum ms b0 (sum ms b1 b2))
  one-three =
      ap (sum ms b0) (sym (sum-assoc ms b1 b2 b3)) ∙ sym (sum-assoc ms b0 (sum ms b1 b2) b3) ∙ sum_comm ms (sum ms b0 (sum ms b1 b2)) b3

  eight : sum ms (sum ms a0 (sum ms a1 (sum ms a2 a3))) (sum ms b0 (sum ms b1 (sum ms b2 b3)))
      ≡ sum ms (sum ms (sum ms a0 a2) (sum ms a3 b3)) (sum ms (sum ms a1 b0) (sum ms b1 b2))
  eight =
      let x = sum ms a0 (sum ms a2 a3) in
      let y = sum ms b0 (sum ms b1 b2) in
      ap₂ (sum ms) (three-one ms a0 a1 a2 a3) one-three
      ∙ sum-four ms x a1 b3 y
      ∙ ap₂ (sum ms)
      (ap (λ (r : List ℕ). sum ms r b3) (sym (sum-assoc ms a0 a2 a3)) ∙ sum-assoc ms (sum ms a0 a2) a3 b3)
      (sym (sum-assoc ms a1 b0 (sum ms b1 b2)))

-- ---- one level. X and Y stand for the numbers of sign 1 and for those whose sign is not 3, and X' and Y' for them with one quaternary
-- component more; whether each stands there once or twice does not matter
module _ (ms : List Modulus) (X Y X' Y' : List ℕ) (p m : ℕ) (hp : length X ≡ p) (hm : length Y ≡ m) (bx : Below (size ms) X) (by : Below (size ms) Y)
    (ex : X' ≡ shifted (size ms * 0) X ++ (shifted (size ms * 1) Y ++ (shifted (size ms * 2) X ++ shifted (size ms * 3) X)))
    (ey : Y' ≡ shifted (size ms * 0) Y ++ (shifted (size ms * 1) Y ++ (shifted (size ms * 2) Y ++ shifted (size ms * 3) X)))
    (v : List ℕ) where
  abbrev wx : List ℕ → List ℕ
  wx = weigh_on ms X

  abbrev wy : List ℕ → List ℕ
  wy = weigh_on ms Y

  abbrev A : ℕ → List ℕ
  A d = plus_at p m d v

  abbrev B : ℕ → List ℕ
  B d = low_at p m d v

  module _ (long : 3 * p + m ≤ length v) where
    la0 : length (A 0) ≡ p
    la0 = length-stretch 0 p v (omega arith)

    la1 : length (A 1) ≡ m
    la1 = length-stretch p m v (omega arith)

    la2 : length (A 2) ≡ p
    la2 = length-stretch (p + m) p v (omega arith)

    la3 : length (A 3) ≡ p
    la3 = length-stretch (2 * p + m) p v (omega arith)

    split-plus : take (3 * p + m) v ≡ A 0 ++ (A 1 ++ (A 2 ++ A 3))
    split-plus =
        let z : 3 * p + m ≡ p + (m + (p + p)) = omega arith in
        let k0 : 0 + p ≡ p = omega arith in
        let k1 : p + m + p ≡ 2 * p + m = omega arith in
        ap (λ (n : ℕ). take n v) z ∙ four-stretches 0 p m p p v ∙ rw (k0, k1) refl

    plus-off : weigh_on (next ms) X' (take (3 * p + m) v)
        ≡ sum ms (wx (A 0)) (sum ms (wy (A 1)) (sum ms (wx (A 2)) (wx (A 3)))) ++ ((total (A 1) + 2 * total (A 2) + 3 * total (A 3)) % 4 ∷ [])
    plus-off =
        ap₂ (λ (x y : List ℕ). weigh_on (next ms) x y) ex split-plus
        ∙ four-off ms X Y X X bx by bx bx (A 0) (A 1) (A 2) (A 3) (la0 ∙ sym hp) (la1 ∙ sym hm) (la2 ∙ sym hp) (la3 ∙ sym hp)

    -- the first level, with no weights of the second kind
    first-plus : wx (first_plus p m v) ≡ sum ms (wx (A 0)) (sum ms (wx (A 2)) (wx (A 3)))
    unfolding first_plus
    first-plus =
        on-added ms X (A 0) (added (A 2) (A 3)) (la0 ∙ sym la2 ∙ sym (length-added (A 2) (A 3)))
        ∙ ap (sum ms (wx (A 0))) (on-added ms X (A 2) (A 3) (la2 ∙ sym la3))

    first-tops : (total (A 1) + 2 * total (A 2) + 3 * total (A 3)) % 4 ≡ (total (first_tops p m v) + total (A 1)) % 4
    unfolding first_tops
    first-tops =
        let e : total (A 1) + 2 * total (A 2) + 3 * total (A 3) ≡ 2 * total (A 2) + 3 * total (A 3) + total (A 1) = omega arith in
        ap (λ (k : ℕ). k % 4) e
        ∙ rest (2 * total (A 2) + 3 * total (A 3)) (total (first_tops p m v)) (total (A 1)) (total (A 1))
        (sym (total-added (double (A 2)) (triple (A 3)) (length-added (A 2) (A 2) ∙ la2 ∙ sym la3 ∙ sym (length-added (A 3) (double (A 3))))
        ∙ rest (total (double (A 2))) (2 * total (A 2)) (total (triple (A 3))) (3 * total (A 3)) (double-total (A 2)) (triple-total (A 3))))
        refl

    pub first_off : weigh_on (next ms) X' (take (3 * p + m) v)
        ≡ weigh_on ms (X ++ Y) (first_plus p m v ++ A 1) ++ ((total (first_tops p m v) + total (A 1)) % 4 ∷ [])
    first_off =
        plus-off
        ∙ ap₂ (λ (r : List ℕ) (k : ℕ). r ++ (k ∷ []))
        (three-one ms (wx (A 0)) (wy (A 1)) (wx (A 2)) (wx (A 3))
        ∙ ap (λ (r : List ℕ). sum ms r (wy (A 1))) (sym first-plus)
        ∙ sym (on-append ms X Y (first_plus p m v) (A 1) (length-first-plus p m v long ∙ sym hp)))
        first-tops

  module _ (long : 4 * p + 4 * m ≤ length v) where
    lb0 : length (B 0) ≡ m
    lb0 = length-stretch (3 * p + m) m v (omega arith)

    lb1 : length (B 1) ≡ m
    lb1 = length-stretch (3 * p + m + m) m v (omega arith)

    lb2 : length (B 2) ≡ m
    lb2 = length-stretch (3 * p + m + 2 * m) m v (omega arith)

    lb3 : length (B 3) ≡ p
    lb3 = length-stretch (3 * p + m + 3 * m) p v (omega arith)

    some : 3 * p + m ≤ length v
    some = omega arith

    split-low : stretch (3 * p + m) (3 * m + p) v ≡ B 0 ++ (B 1 ++ (B 2 ++ B 3))
    split-low =
        let z : 3 * m + p ≡ m + (m + (m + p)) = omega arith in
        let k1 : 3 * p + m + m + m ≡ 3 * p + m + 2 * m = omega arith in
        let k2 : 3 * p + m + 2 * m + m ≡ 3 * p + m + 3 * m = omega arith in
        ap (λ (n : ℕ). stretch (3 * p + m) n v) z ∙ four-stretches (3 * p + m) m m m p v ∙ rw (k1, k2) refl

    low-off : weigh_on (next ms) Y' (stretch (3 * p + m) (3 * m + p) v)
        ≡ sum ms (wy (B 0)) (sum ms (wy (B 1)) (sum ms (wy (B 2)) (wx (B 3)))) ++ ((total (B 1) + 2 * total (B 2) + 3 * total (B 3)) % 4 ∷ [])
    low-off =
        ap₂ (λ (x y : List ℕ). weigh_on (next ms) x y) ey split-low
        ∙ four-off ms Y Y Y X by by by bx (B 0) (B 1) (B 2) (B 3) (lb0 ∙ sym hm) (lb1 ∙ sym hm) (lb2 ∙ sym hm) (lb3 ∙ sym hp)

    next-plus : wx (next_plus p m v) ≡ sum ms (sum ms (wx (A 0)) (wx (A 2))) (sum ms (wx (A 3)) (wx (B 3)))
    unfolding next_plus
    next-plus =
        on-added ms X (added (A 0) (A 2)) (added (A 3) (B 3)) (length-added (A 0) (A 2) ∙ la0 some ∙ sym (la3 some) ∙ sym (length-added (A 3) (B 3)))
        ∙ ap₂ (sum ms) (on-added ms X (A 0) (A 2) (la0 some ∙ sym (la2 some))) (on-added ms X (A 3) (B 3) (la3 some ∙ sym lb3))

    next_low_lem : wy (next_low p m v) ≡ sum ms (sum ms (wy (A 1)) (wy (B 0))) (sum ms (wy (B 1)) (wy (B 2)))
    unfolding next_low
    next_low_lem =
        on-added ms Y (added (A 1) (B 0)) (added (B 1) (B 2)) (length-added (A 1) (B 0) ∙ la1 some ∙ sym lb1 ∙ sym (length-added (B 1) (B 2)))
        ∙ ap₂ (sum ms) (on-added ms Y (A 1) (B 0) (la1 some ∙ sym lb0)) (on-added ms Y (B 1) (B 2) (lb1 ∙ sym lb2))

    plus-tops : total (plus_tops p m v) % 4 ≡ (2 * total (A 2) + (3 * total (A 3) + 3 * total (B 3))) % 4
    unfolding plus_tops
    plus-tops =
        total-added (double (A 2)) (added (triple (A 3)) (triple (B 3)))
        (length-added (A 2) (A 2) ∙ la2 some ∙ sym (la3 some) ∙ sym (length-added (A 3) (double (A 3))) ∙ sym (length-added (triple (A 3)) (triple (B 3))))
        ∙ rest (total (double (A 2))) (2 * total (A 2)) (total (added (triple (A 3)) (triple (B 3)))) (3 * total (A 3) + 3 * total (B 3)) (double-total (A 2))
        (total-added (triple (A 3)) (triple (B 3)) (length-added (A 3) (double (A 3)) ∙ la3 some ∙ sym lb3 ∙ sym (length-added (B 3) (double (B 3))))
        ∙ rest (total (triple (A 3))) (3 * total (A 3)) (total (triple (B 3))) (3 * total (B 3)) (triple-total (A 3)) (triple-total (B 3)))

    low-tops : total (low_tops p m v) % 4 ≡ (total (A 1) + (total (B 1) + 2 * total (B 2))) % 4
    unfolding low_tops
    low-tops =
        total-added (A 1) (added (B 1) (double (B 2))) (la1 some ∙ sym lb1 ∙ sym (length-added (B 1) (double (B 2))))
        ∙ rest (total (A 1)) (total (A 1)) (total (added (B 1) (double (B 2)))) (total (B 1) + 2 * total (B 2)) refl
        (total-added (B 1) (double (B 2)) (lb1 ∙ sym lb2 ∙ sym (length-added (B 2) (B 2)))
        ∙ rest (total (B 1)) (total (B 1)) (total (double (B 2))) (2 * total (B 2)) refl (double-total (B 2)))

    tops : ((total (A 1) + 2 * total (A 2) + 3 * total (A 3)) % 4 + (total (B 1) + 2 * total (B 2) + 3 * total (B 3)) % 4) % 4
        ≡ (total (plus_tops p m v) + total (low_tops p m v)) % 4
    tops =
        sum-mod four (total (A 1) + 2 * total (A 2) + 3 * total (A 3)) (total (B 1) + 2 * total (B 2) + 3 * total (B 3))
        ∙ ap (λ (k : ℕ). k % 4) (turn (total (A 1)) (total (A 2)) (total (A 3)) (total (B 1)) (total (B 2)) (total (B 3)))
        ∙ sym (rest (total (plus_tops p m v)) (2 * total (A 2) + (3 * total (A 3) + 3 * total (B 3))) (total (low_tops p m v)) (total (A 1) + (total (B 1) + 2 * total (B 2)))
        plus-tops low-tops)
      where
        turn : (a b c d e f : ℕ) → a + 2 * b + 3 * c + (d + 2 * e + 3 * f) ≡ 2 * b + (3 * c + 3 * f) + (a + (d + 2 * e))
        turn a b c d e f = omega arith

    pub level-off : weigh_on (next ms) (X' ++ Y') (take (4 * p + 4 * m) v)
        ≡ weigh_on ms (X ++ Y) (next_plus p m v ++ next_low p m v) ++ ((total (plus_tops p m v) + total (low_tops p m v)) % 4 ∷ [])
    level-off =
        let z : 4 * p + 4 * m ≡ 3 * p + m + (3 * m + p) = omega arith in
        let x = sum ms (wx (A 0)) (sum ms (wy (A 1)) (sum ms (wx (A 2)) (wx (A 3)))) in
        let y = sum ms (wy (B 0)) (sum ms (wy (B 1)) (sum ms (wy (B 2)) (wx (B 3)))) in
        let tx = (total (A 1) + 2 * total (A 2) + 3 * total (A 3)) % 4 in
        let ty = (total (B 1) + 2 * total (B 2) + 3 * total (B 3)) % 4 in
        let lx : length (take (3 * p + m) v) ≡ length X' = length-take-le (3 * p + m) v some ∙ sym (ap length ex ∙ four-lengths (size ms) X Y X X ∙ sizes) in
        ap (weigh_on (next ms) (X' ++ Y')) (ap (λ (n : ℕ). take n v) z ∙ take-add (3 * p + m) (3 * m + p) v)
        ∙ on-append (next ms) X' Y' (take (3 * p + m) v) (stretch (3 * p + m) (3 * m + p) v) lx
        ∙ ap₂ (sum (next ms)) (plus-off some) low-off
        ∙ sum-snoc ms four x y tx ty (length-sum ms (wx (A 0)) (sum ms (wy (A 1)) (sum ms (wx (A 2)) (wx (A 3))))) (length-sum ms (wy (B 0)) (sum ms (wy (B 1)) (sum ms (wy (B 2)) (wx (B 3)))))
        ∙ ap₂ (λ (r : List ℕ) (k : ℕ). r ++ (k ∷ []))
        (eight ms (wx (A 0)) (wy (A 1)) (wx (A 2)) (wx (A 3)) (wy (B 0)) (wy (B 1)) (wy (B 2)) (wx (B 3))
        ∙ sym (ap₂ (sum ms) next-plus next_low_lem)
        ∙ sym (on-append ms X Y (next_plus p m v) (next_low p m v) (length-plus p m v long ∙ sym hp)))
        tops
      where
        sizes : length X + (length Y + (length X + length X)) ≡ 3 * p + m
        sizes = omega arith
