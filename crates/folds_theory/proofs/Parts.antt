-- For `fold_first` and `fold`: the parts of a slice are the blocks of a level. Assumes nothing.
use mathlib.Core.Path.{◌≡◌, refl, sym, ap, ap₂, ◌∙◌}
use mathlib.Core.List.{List, ◌++◌}
use Prim.Native.Nat.{ℕ, ◌+◌, ◌-◌, ◌*◌, ◌%◌, ◌≤◌}
use native.Mathlib.Omega.{arith}
use lib.ListN.{length, take, drop}
use lib.Seq.{drop-drop}
use Rattle.group_theory.specs.Group.{four}
use Rattle.group_theory.specs.Weights.{added, total}
use Rattle.group_theory.proofs.Fill.{sum-mod}
use Rattle.group_theory.proofs.Weights.{length-added, rest, total-added}
use Rattle.folds_theory.specs.Folds.{stretch, double, triple, plus_at, low_at, first_plus, first_tops, next_plus, plus_tops, next_low, low_tops}
use Rattle.folds_theory.proofs.Offs.{length-stretch, double-total, triple-total}

-- from one index to another
abbrev pub between : ℕ → ℕ → List ℕ → List ℕ
between i j v = take (j - i) (drop i v)

-- a part of what stands behind an index
part : (v r : List ℕ) (k i j q n : ℕ) → r ≡ drop k v → k + i ≡ q → j ≡ n → take j (drop i r) ≡ stretch q n v
part v r k i j q n e f g = ap₂ (λ (l : List ℕ) (t : ℕ). take t (drop i l)) e g ∙ ap (take n) (drop-drop i k v ∙ ap (λ (t : ℕ). drop t v) f)

-- a total of sums, modulo 4
sum-of : (u v : List ℕ) (x y : ℕ) → length u ≡ length v → total u % 4 ≡ x % 4 → total v % 4 ≡ y % 4 → total (added u v) % 4 ≡ (x + y) % 4
sum-of u v x y l e f = total-added u v l ∙ rest (total u) x (total v) y e f

module _ (p m : ℕ) (v : List ℕ) (h : 4 * p + 4 * m ≤ length v) where
  plus-sum : (0 * total (plus_at p m 0 v) + 2 * total (plus_at p m 2 v) + (3 * total (plus_at p m 3 v) + 3 * total (low_at p m 3 v))) % 4 ≡ total (plus_tops p m v) % 4
  unfolding plus_tops
  plus-sum =
      let X = plus_at p m 2 v in
      let Y = plus_at p m 3 v in
      let Z = low_at p m 3 v in
      let lx : length X ≡ p = length-stretch (p + m) p v (omega arith) in
      let ly : length Y ≡ p = length-stretch (2 * p + m) p v (omega arith) in
      let lz : length Z ≡ p = length-stretch (3 * p + m + 3 * m) p v (omega arith) in
      let yz : length (added (triple Y) (triple Z)) ≡ p = length-added (triple Y) (triple Z) ∙ length-added Y (double Y) ∙ ly in
      let y : length (triple Y) ≡ length (triple Z) = length-added Y (double Y) ∙ ly ∙ sym lz ∙ sym (length-added Z (double Z)) in
      let s = sum-of (double X) (added (triple Y) (triple Z)) (2 * total X) (3 * total Y + 3 * total Z) (length-added X X ∙ lx ∙ sym yz) (double-total X)
      (sum-of (triple Y) (triple Z) (3 * total Y) (3 * total Z) y (triple-total Y) (triple-total Z)) in
      ap (λ (k : ℕ). k % 4) (omega arith) ∙ sym s

  low-sum : (1 * total (plus_at p m 1 v) + 0 * total (low_at p m 0 v) + (1 * total (low_at p m 1 v) + 2 * total (low_at p m 2 v))) % 4 ≡ total (low_tops p m v) % 4
  unfolding low_tops
  low-sum =
      let X = plus_at p m 1 v in
      let Y = low_at p m 1 v in
      let Z = low_at p m 2 v in
      let lx : length X ≡ m = length-stretch p m v (omega arith) in
      let ly : length Y ≡ m = length-stretch (3 * p + m + m) m v (omega arith) in
      let lz : length Z ≡ m = length-stretch (3 * p + m + 2 * m) m v (omega arith) in
      let s = sum-of X (added Y (double Z)) (total X) (total Y + 2 * total Z) (lx ∙ sym ly ∙ sym (length-added Y (double Z))) refl
      (sum-of Y (double Z) (total Y) (2 * total Z) (ly ∙ sym lz ∙ sym (length-added Z Z)) refl (double-total Z)) in
      ap (λ (k : ℕ). k % 4) (omega arith) ∙ sym s

  -- both: v is parted into x, x1 and r, and u and w are written in place of the first two
  pub fold-done : (x x1 s r u w : List ℕ) (c d : ℕ) → x ≡ take p v → s ≡ drop p v → x1 ≡ take m s → r ≡ drop m s
      → (c ≡ (0 * total x + 2 * total (take p r) + (3 * total (between p (2 * p) r) + 3 * total (between (2 * p + 3 * m) (3 * p + 3 * m) r))) % 4)
      × (u ≡ added (added x (take p r)) (added (between p (2 * p) r) (between (2 * p + 3 * m) (3 * p + 3 * m) r)))
      → (d ≡ (1 * total x1 + 0 * total (between (2 * p) (2 * p + m) r) + (1 * total (between (2 * p + m) (2 * p + 2 * m) r) + 2 * total (between (2 * p + 2 * m) (2 * p + 3 * m) r))) % 4)
      × (w ≡ added (added x1 (between (2 * p) (2 * p + m) r)) (added (between (2 * p + m) (2 * p + 2 * m) r) (between (2 * p + 2 * m) (2 * p + 3 * m) r)))
      → ((c + d) % 4 ≡ (total (plus_tops p m v) + total (low_tops p m v)) % 4) × (u ++ (w ++ r) ≡ next_plus p m v ++ (next_low p m v ++ drop (p + m) v))
  unfolding next_plus next_low
  fold-done x x1 s r u w c d e es f er g k =
      let e1 : x1 ≡ plus_at p m 1 v = f ∙ ap (take m) es in
      let R : r ≡ drop (p + m) v = er ∙ ap (drop m) es ∙ drop-drop m p v in
      let e2 : take p r ≡ plus_at p m 2 v = ap (take p) R in
      let e3 : between p (2 * p) r ≡ plus_at p m 3 v = part v r (p + m) p (2 * p - p) (2 * p + m) p R (omega arith) (omega arith) in
      let f3 : between (2 * p + 3 * m) (3 * p + 3 * m) r ≡ low_at p m 3 v =
      part v r (p + m) (2 * p + 3 * m) (3 * p + 3 * m - (2 * p + 3 * m)) (3 * p + m + 3 * m) p R (omega arith) (omega arith) in
      let f0 : between (2 * p) (2 * p + m) r ≡ low_at p m 0 v = part v r (p + m) (2 * p) (2 * p + m - 2 * p) (3 * p + m) m R (omega arith) (omega arith) in
      let f1 : between (2 * p + m) (2 * p + 2 * m) r ≡ low_at p m 1 v =
      part v r (p + m) (2 * p + m) (2 * p + 2 * m - (2 * p + m)) (3 * p + m + m) m R (omega arith) (omega arith) in
      let f2 : between (2 * p + 2 * m) (2 * p + 3 * m) r ≡ low_at p m 2 v =
      part v r (p + m) (2 * p + 2 * m) (2 * p + 3 * m - (2 * p + 2 * m)) (3 * p + m + 2 * m) m R (omega arith) (omega arith) in
      let s : c ≡ total (plus_tops p m v) % 4 = g.0 ∙ (rw (e, e2, e3, f3) plus-sum) in
      let t : d ≡ total (low_tops p m v) % 4 = k.0 ∙ (rw (e1, f0, f1, f2) low-sum) in (
        ap₂ (λ (i j : ℕ). (i + j) % 4) s t ∙ sum-mod four (total (plus_tops p m v)) (total (low_tops p m v)),
        ap₂ (λ (i j : List ℕ). i ++ j)
            (g.1 ∙ ap₂ added (ap₂ added e e2) (ap₂ added e3 f3))
            (ap₂ (λ (i j : List ℕ). i ++ j) (k.1 ∙ ap₂ added (ap₂ added e1 f0) (ap₂ added f1 f2)) R),
      )

-- the first level: v is parted into x and r, and u is written in place of x
pub first-done : (p m : ℕ) (v x r u : List ℕ) (c d : ℕ) → x ≡ take p v → r ≡ drop p v
    → (c ≡ total (added (double (between m (m + p) r)) (triple (between (m + p) (m + 2 * p) r))) % 4)
    × (u ≡ added x (added (between m (m + p) r) (between (m + p) (m + 2 * p) r)))
    → d ≡ total (take m r) % 4 → ((c + d) % 4 ≡ (total (first_tops p m v) + total (stretch p m v)) % 4) × (u ++ r ≡ first_plus p m v ++ drop p v)
unfolding first_plus first_tops
first-done p m v x r u c d e er g k =
    let X = plus_at p m 2 v in
    let Y = plus_at p m 3 v in
    let e2 : between m (m + p) r ≡ X = part v r p m (m + p - m) (p + m) p er (omega arith) (omega arith) in
    let e3 : between (m + p) (m + 2 * p) r ≡ Y = part v r p (m + p) (m + 2 * p - (m + p)) (2 * p + m) p er (omega arith) (omega arith) in
    let s : c ≡ total (added (double X) (triple Y)) % 4 = g.0 ∙ ap₂ (λ (i j : List ℕ). total (added (double i) (triple j)) % 4) e2 e3 in
    let t : d ≡ total (stretch p m v) % 4 = k ∙ ap (λ (l : List ℕ). total (take m l) % 4) er in (
      ap₂ (λ (i j : ℕ). (i + j) % 4) s t ∙ sum-mod four (total (added (double X) (triple Y))) (total (stretch p m v)),
      ap₂ (λ (i j : List ℕ). i ++ j) (g.1 ∙ ap₂ added e (ap₂ added e2 e3)) er,
    )
