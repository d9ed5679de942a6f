-- Weights in a row: one row after the other, and a row that begins among places that are left out. Assumes nothing.
use mathlib.Core.Path.{◌≡◌, refl, sym, ap, ◌∙◌}
use mathlib.Core.Logic.{◌⊎◌, inl, inr}
use mathlib.Core.Bool.{Bool, true, false}
use mathlib.Core.List.{List, ◌∷◌, ◌++◌, append_assoc}
use Prim.Native.Nat.{ℕ, zero, suc, ◌+◌, ◌-◌, ◌*◌}
use native.Mathlib.Omega.{arith}
use lib.ListN.{drop, replicate-append-replicate}
use Rattle.words_theory.specs.Words.{zero_word}
use Rattle.shortened_theory.specs.Code.{fill}
use Rattle.loops_theory.specs.Spread.{read_of, rest_of, width_of, weight_of, row}
use Rattle.loops_theory.proofs.Spreads.{weight-append, drop-rest}

-- ---- one after the other
pub row_more : (p : Bool) (i j : ℕ) (w : List ℕ) → row p (i + j) w ≡ row p i w ++ row p j (drop (width_of p * i) w)
unfolding row
row_more p zero j w = let a : 0 + j ≡ j = omega arith in let b : width_of p * 0 ≡ 0 = none p in rw (a, b) refl
  where
    none : (p : Bool) → width_of p * 0 ≡ 0
    none true = omega arith
    none false = omega arith
row_more p (suc i) j w =
    let a : suc i + j ≡ suc (i + j) = omega arith in
    rw a
    (ap (weight_of p (read_of p w)) (row_more p i j (rest_of p w))
    ∙ weight-append p (read_of p w) (row p i (rest_of p w)) (row p j (drop (width_of p * i) (rest_of p w)))
    ∙ ap (λ (u : List ℕ). weight_of p (read_of p w) (row p i (rest_of p w)) ++ row p j u) (drop-rest p w i))

-- ---- a row of a filled word
pub drop-fill : (d at : ℕ) (w : List ℕ) → drop at (fill d w) ≡ zero_word (d - at) ++ drop (at - d) w
drop-fill zero at w = let a : at - 0 ≡ at = omega arith in let b : 0 - at ≡ 0 = omega arith in rw (a, b) refl
drop-fill (suc d) zero w = let a : suc d - 0 ≡ suc d = omega arith in let b : 0 - suc d ≡ 0 = omega arith in rw (a, b) refl
drop-fill (suc d) (suc at) w = let a : suc d - suc at ≡ d - at = omega arith in let b : suc at - suc d ≡ at - d = omega arith in rw (a, b) (drop-fill d at w)

row-zeros : (p : Bool) (z k : ℕ) (x : List ℕ) → row p (z + k) (zero_word (width_of p * z) ++ x) ≡ zero_word (width_of p * z) ++ row p k x
unfolding row
row-zeros true zero k x = let a : 0 + k ≡ k = omega arith in rw a refl
row-zeros false zero k x = let a : 0 + k ≡ k = omega arith in rw a refl
row-zeros true (suc z) k x =
    let a : suc z + k ≡ suc (z + k) = omega arith in
    let b : 2 * suc z ≡ suc (suc (2 * z)) = omega arith in
    rw (a, b) (ap {B = List ℕ} (λ (r : List ℕ). 0 ∷ 0 ∷ r) (row-zeros true z k x))
row-zeros false (suc z) k x =
    let a : suc z + k ≡ suc (z + k) = omega arith in
    let b : 1 * suc z ≡ suc (1 * z) = omega arith in
    rw (a, b) (ap {B = List ℕ} (λ (r : List ℕ). 0 ∷ r) (row-zeros false z k x))

-- z slots of it are left out, and then all, or no further place is
pub row_cut : (p : Bool) (d at z k rest : ℕ) (w : List ℕ) → d - at ≡ width_of p * z + rest → (rest ≡ 0) ⊎ (k ≡ 0)
    → row p (z + k) (drop at (fill d w)) ≡ zero_word (width_of p * z) ++ row p k (drop (at - d) w)
unfolding row
row_cut p d at z k rest w e c =
    ap (row p (z + k))
    (drop-fill d at w
    ∙ ap (λ (n : ℕ). zero_word n ++ drop (at - d) w) e
    ∙ ap (λ (r : List ℕ). r ++ drop (at - d) w) (sym (replicate-append-replicate (width_of p * z) rest 0))
    ∙ append_assoc (zero_word (width_of p * z)) (zero_word rest) (drop (at - d) w))
    ∙ row-zeros p z k (zero_word rest ++ drop (at - d) w)
    ∙ ap (λ (r : List ℕ). zero_word (width_of p * z) ++ r) (end c)
  where
    end : (rest ≡ 0) ⊎ (k ≡ 0) → row p k (zero_word rest ++ drop (at - d) w) ≡ row p k (drop (at - d) w)
    end (inl h) = ap (λ (n : ℕ). row p k (zero_word n ++ drop (at - d) w)) h
    end (inr h) = ap (λ (n : ℕ). row p n (zero_word rest ++ drop (at - d) w)) h ∙ ap (λ (n : ℕ). row p n (drop (at - d) w)) (sym h)
