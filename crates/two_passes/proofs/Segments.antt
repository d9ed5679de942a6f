-- The weights of one segment of pairs, as the functions write them, and room for the weights of all pairs. Assumes nothing.
use mathlib.Core.Path.{◌≡◌, sym, ap, ap₂, ◌∙◌}
use mathlib.Core.Bool.{true}
use mathlib.Core.List.{List, [], ◌∷◌, ◌++◌, append_assoc}
use Prim.Native.Nat.{ℕ, suc, ◌+◌, ◌-◌, ◌*◌, ◌%◌, ◌<◌, ◌≤◌}
use native.Mathlib.Omega.{arith}
use lib.Dec.{eqb}
use lib.ListN.{length, take, drop, get_or, set, length-set}
use lib.Seq.{take-suc, take-suc-set, take_all}
use Rattle.layout_theory.specs.Choice.{pick}
use Rattle.folds_theory.specs.Folds.{Holds}
use Rattle.words_theory.specs.Digits.{digit}
use Rattle.loops_theory.specs.Spread.{row, HoldsMessage, HoldsPairs}
use Rattle.loops_theory.proofs.Laying.{length-row, digit_at, shares}

-- an array with a weight for each element has enough for the pairs
pub pairs-held : (a b count part : ℕ) (w : List ℕ) → HoldsMessage a b count part (length w) → (k : ℕ) → Holds a b k → HoldsPairs a b k
pairs-held a b count part w L k h =
    let s = shares a b count part w L in
    let s0 = s.0 in
    let s3 = s.3 in
    let al = L.all in
    let en = h.enough in
    record { enough = omega arith; most = h.most }

-- ---- one segment
unit-cleared : (v : List ℕ) (p : ℕ) → 2 * p + 2 ≤ length v → take (2 * p + (2 + 2 * 0)) (set (set v (2 * p) 0) (2 * p + 1) 0) ≡ take (2 * p) v ++ 0 ∷ 0 ∷ []
unit-cleared v p h =
    let a : 2 * p + (2 + 2 * 0) ≡ suc (suc (2 * p)) = omega arith in
    let b : 2 * p + 1 ≡ suc (2 * p) = omega arith in
    let l = length-set v (2 * p) 0 in
    ap₂ (λ (i j : ℕ). take i (set (set v (2 * p) 0) j 0)) a b
    ∙ take-suc-set (set v (2 * p) 0) (suc (2 * p)) 0 (omega arith)
    ∙ ap (λ (r : List ℕ). r ++ (0 ∷ [])) (take-suc-set v (2 * p) 0 (omega arith))
    ∙ append_assoc (take (2 * p) v) (0 ∷ []) (0 ∷ [])

segment-written : (v u w : List ℕ) (p n at : ℕ) → 0 < n → 2 * p + (2 + 2 * n) ≤ length v → length u ≡ length v
    → take (2 * p + 2 + (2 * n - 1)) u ≡ take (2 * p + 2) (set (set v (2 * p) 0) (2 * p + 1) 0) ++ take (2 * n - 1) (row true n (drop at w))
    → take (2 * p + (2 + 2 * n)) (set u (2 * p + 1 + 2 * n) 0) ≡ take (2 * p) v ++ 0 ∷ 0 ∷ row true n (drop at w)
segment-written v u w p n at h l m e =
    let g = row true n (drop at w) in
    let lg : length g ≡ 2 * n = length-row true n (drop at w) in
    let a : 2 * p + (2 + 2 * n) ≡ suc (2 * p + 1 + 2 * n) = omega arith in
    let b : 2 * p + 1 + 2 * n ≡ 2 * p + 2 + (2 * n - 1) = omega arith in
    let c : 2 * p + 2 ≡ 2 * p + (2 + 2 * 0) = omega arith in
    let d : suc (2 * n - 1) ≡ 2 * n = omega arith in
    let o : get_or g (2 * n - 1) 0 ≡ 0 =
    digit_at n (2 * n - 1) (drop at w) (omega arith) ∙ ap (λ (k : ℕ). pick (eqb k 0) (digit (get_or (drop at w) (2 * n - 1) 0) (get_or (drop at w) (2 * n - 1 + 1) 0)) 0) (odd n h) in
    let q : take (2 * n - 1) g ++ (0 ∷ []) ≡ g =
    ap (λ (k : ℕ). take (2 * n - 1) g ++ (k ∷ [])) (sym o) ∙ sym (take-suc g (2 * n - 1) 0 (omega arith)) ∙ ap (λ (k : ℕ). take k g) d ∙ take_all (2 * n) g (omega arith) in
    ap (λ (k : ℕ). take k (set u (2 * p + 1 + 2 * n) 0)) a
    ∙ take-suc-set u (2 * p + 1 + 2 * n) 0 (omega arith)
    ∙ ap (λ (k : ℕ). take k u ++ (0 ∷ [])) b
    ∙ ap (λ (r : List ℕ). r ++ (0 ∷ [])) (e ∙ ap (λ (k : ℕ). take k (set (set v (2 * p) 0) (2 * p + 1) 0) ++ take (2 * n - 1) g) c ∙ ap (λ (r : List ℕ). r ++ take (2 * n - 1) g) (unit-cleared v p (omega arith)))
    ∙ append_assoc (take (2 * p) v ++ 0 ∷ 0 ∷ []) (take (2 * n - 1) g) (0 ∷ [])
    ∙ ap (λ (r : List ℕ). (take (2 * p) v ++ 0 ∷ 0 ∷ []) ++ r) q
    ∙ append_assoc (take (2 * p) v) (0 ∷ 0 ∷ []) g
  where
    odd : (n : ℕ) → 0 < n → (2 * n - 1) % 2 ≡ 1
    odd n h = omega arith

-- the same, as the functions leave them one after the other
pub pairs-none : (v x y w : List ℕ) (p n at : ℕ) → n ≡ 0 → 2 * p + (2 + 2 * n) ≤ length v → x ≡ set v (2 * p) 0 → y ≡ set x (2 * p + 1) 0
    → take (2 * p + (2 + 2 * n)) y ≡ take (2 * p) v ++ 0 ∷ 0 ∷ row true n (drop at w)
unfolding row
pairs-none v x y w p n at z h e f = rw (z, f, e) (unit-cleared v p (omega arith))

pub pairs-some : (v x y u r w : List ℕ) (p n at : ℕ) → 0 < n → 2 * p + (2 + 2 * n) ≤ length v → x ≡ set v (2 * p) 0 → y ≡ set x (2 * p + 1) 0 → length u ≡ length y
    → take (2 * p + 2 + (2 * n - 1)) u ≡ take (2 * p + 2) y ++ take (2 * n - 1) (row true n (drop at w)) → r ≡ set u (2 * p + 1 + 2 * n) 0
    → take (2 * p + (2 + 2 * n)) r ≡ take (2 * p) v ++ 0 ∷ 0 ∷ row true n (drop at w)
pairs-some v x y u r w p n at h l e f m g k =
    let t : y ≡ set (set v (2 * p) 0) (2 * p + 1) 0 = f ∙ ap (λ (q : List ℕ). set q (2 * p + 1) 0) e in
    let o : length u ≡ length v = m ∙ ap length t ∙ length-set (set v (2 * p) 0) (2 * p + 1) 0 ∙ length-set v (2 * p) 0 in
    ap (take (2 * p + (2 + 2 * n))) k
    ∙ segment-written v u w p n at h l o (g ∙ ap (λ (q : List ℕ). take (2 * p + 2) q ++ take (2 * n - 1) (row true n (drop at w))) t)
