-- Combining, place by place: binary places modulo 2, pairs modulo 4; for any slots and bytes. Assumes nothing.
use mathlib.Core.Path.{◌≡◌, refl, sym, ap₂, ◌∙◌}
use mathlib.Core.List.{List, [], ◌∷◌}
use Prim.Native.Nat.{ℕ, zero, suc, ◌+◌, ◌%◌, ◌<◌}
use native.Mathlib.Omega.{arith}
use lib.ListN.{get_or}
use Rattle.group_theory.specs.Group.{hd, tl}
use Rattle.group_theory.proofs.Fill.{get_or-hd, get_or-tl}
use Rattle.layout_theory.specs.Layout.{Slot, single, pair}
use Rattle.words_theory.specs.Digits.{gray, digit}
use Rattle.words_theory.specs.Words.{combine}
use Rattle.words_theory.specs.Halves.{width_at, other_at}
use Rattle.words_theory.specs.Claims.{digit_at, AddsOf}
use Rattle.words_theory.proofs.Combining.{digit-gray}

-- ---- bytes by index
tl-tl : (x : List ℕ) (i : ℕ) → get_or (tl (tl x)) i 0 ≡ get_or x (suc (suc i)) 0
tl-tl x i = get_or-tl (tl x) i ∙ get_or-tl x (suc i)

front-digit : (x : List ℕ) → digit (hd x) (hd (tl x)) ≡ digit_at x 0
front-digit x = ap₂ digit (get_or-hd x) (get_or-hd (tl x) ∙ get_or-tl x 0)

-- what stands behind a digit's two places, and the digit that they are
behind : (d : ℕ) (w : List ℕ) (i : ℕ) → get_or (gray d w) (suc (suc i)) 0 ≡ get_or w i 0
behind zero w i = refl
behind (suc zero) w i = refl
behind (suc (suc zero)) w i = refl
behind (suc (suc (suc d))) w i = refl

read-gray : (d : ℕ) (w : List ℕ) → d < 4 → digit_at (gray d w) 0 ≡ d
read-gray d w h = sym (front-digit (gray d w)) ∙ digit-gray d w h

-- ---- the two kinds of slots
abbrev pair_sum : List ℕ → List ℕ → ℕ
pair_sum x y = (digit (hd x) (hd (tl x)) + digit (hd y) (hd (tl y))) % 4

binary : (sl : List Slot) (x y : List ℕ) (i : ℕ) → width_at sl i ≡ 1 → get_or (combine sl x y) i 0 ≡ (get_or x i 0 + get_or y i 0) % 2
unfolding combine width_at
binary [] x y i h = absurd (omega arith)
binary (single e ∷ sl) x y zero h = ap₂ (λ (b c : ℕ). (b + c) % 2) (get_or-hd x) (get_or-hd y)
binary (single e ∷ sl) x y (suc i) h = binary sl (tl x) (tl y) i h ∙ ap₂ (λ (b c : ℕ). (b + c) % 2) (get_or-tl x i) (get_or-tl y i)
binary (pair z ∷ sl) x y zero h = absurd (omega arith)
binary (pair z ∷ sl) x y (suc zero) h = absurd (omega arith)
binary (pair z ∷ sl) x y (suc (suc i)) h =
    behind (pair_sum x y) (combine sl (tl (tl x)) (tl (tl y))) i
    ∙ binary sl (tl (tl x)) (tl (tl y)) i h ∙ ap₂ (λ (b c : ℕ). (b + c) % 2) (tl-tl x i) (tl-tl y i)

pairs : (sl : List Slot) (x y : List ℕ) (i : ℕ) → other_at sl i ≡ suc i → digit_at (combine sl x y) i ≡ (digit_at x i + digit_at y i) % 4
unfolding combine other_at
pairs [] x y i h = absurd (omega arith)
pairs (single e ∷ sl) x y zero h = absurd (omega arith)
pairs (single e ∷ sl) x y (suc i) h =
    pairs sl (tl x) (tl y) i (omega arith)
    ∙ ap₂ (λ (b c : ℕ). (b + c) % 4) (ap₂ digit (get_or-tl x i) (get_or-tl x (suc i))) (ap₂ digit (get_or-tl y i) (get_or-tl y (suc i)))
pairs (pair z ∷ sl) x y zero h =
    read-gray (pair_sum x y) (combine sl (tl (tl x)) (tl (tl y))) (omega arith)
    ∙ ap₂ (λ (b c : ℕ). (b + c) % 4) (front-digit x) (front-digit y)
pairs (pair z ∷ sl) x y (suc zero) h = absurd (omega arith)
pairs (pair z ∷ sl) x y (suc (suc i)) h =
    let rest = combine sl (tl (tl x)) (tl (tl y)) in
    ap₂ digit (behind (pair_sum x y) rest i) (behind (pair_sum x y) rest (suc i))
    ∙ pairs sl (tl (tl x)) (tl (tl y)) i (omega arith)
    ∙ ap₂ (λ (b c : ℕ). (b + c) % 4) (ap₂ digit (tl-tl x i) (tl-tl x (suc i))) (ap₂ digit (tl-tl y i) (tl-tl y (suc i)))

pub adds-of : (sl : List Slot) → AddsOf sl
adds-of sl = record { binary = binary sl; pairs = pairs sl }
