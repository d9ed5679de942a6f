-- Sums over the numbers below a bound, taken apart by their lowest digit. Assumes nothing.
use mathlib.Core.Path.{◌≡◌, refl, ap, ap₂, ◌∙◌}
use mathlib.Core.List.{List, ◌∷◌}
use mathlib.Core.Bool.{Bool, true, false}
use Prim.Native.Nat.{ℕ, zero, suc, ◌+◌, ◌*◌, ◌/◌, ◌%◌, ◌<◌}
use native.Mathlib.Omega.{arith}
use Rattle.group_theory.specs.Group.{Modulus, one, two, four, element}
use Rattle.layout_theory.specs.Choice.{zero_unless}

unfoldable pub sum_to : (ℕ → ℕ) → ℕ → ℕ
sum_to f zero = 0
sum_to f (suc n) = sum_to f n + f n

pub sum_to-ext : (f g : ℕ → ℕ) (n : ℕ) → ((y : ℕ) → y < n → f y ≡ g y) → sum_to f n ≡ sum_to g n
unfolding sum_to
sum_to-ext f g zero h = refl
sum_to-ext f g (suc n) h = ap₂ ◌+◌ (sum_to-ext f g n (λ y l. h y (omega arith))) (h n (omega arith))

pub sum_to-add : (f g : ℕ → ℕ) (n : ℕ) → sum_to (λ y. f y + g y) n ≡ sum_to f n + sum_to g n
unfolding sum_to
sum_to-add f g zero = refl
sum_to-add f g (suc n) = let i = sum_to-add f g n in omega arith

pub sum_to-ones : (n : ℕ) → sum_to (λ y. 1) n ≡ n
unfolding sum_to
sum_to-ones zero = refl
sum_to-ones (suc n) = let i = sum_to-ones n in omega arith

-- a test that does not depend on the number
pub sum_to-unless : (b : Bool) (f : ℕ → ℕ) (n : ℕ) → sum_to (λ y. zero_unless b (f y)) n ≡ zero_unless b (sum_to f n)
unfolding sum_to
sum_to-unless true f n = refl
sum_to-unless false f zero = refl
sum_to-unless false f (suc n) = let i = sum_to-unless false f n in omega arith

-- ---- blocks of two and of four
sum_to-two : (f : ℕ → ℕ) (n : ℕ) → sum_to f (2 * n) ≡ sum_to (λ y. f (0 + 2 * y) + f (1 + 2 * y)) n
unfolding sum_to
sum_to-two f zero = refl
sum_to-two f (suc n) =
    let i = sum_to-two f n in
    let e : 2 * suc n ≡ suc (suc (2 * n)) = omega arith in
    let a : 0 + 2 * n ≡ 2 * n = omega arith in
    let b : 1 + 2 * n ≡ suc (2 * n) = omega arith in
    rw (e, a, b) (omega arith)

sum_to-four : (f : ℕ → ℕ) (n : ℕ) → sum_to f (4 * n) ≡ sum_to (λ y. (f (0 + 4 * y) + f (1 + 4 * y)) + (f (2 + 4 * y) + f (3 + 4 * y))) n
unfolding sum_to
sum_to-four f zero = refl
sum_to-four f (suc n) =
    let i = sum_to-four f n in
    let e : 4 * suc n ≡ suc (suc (suc (suc (4 * n)))) = omega arith in
    let a : 0 + 4 * n ≡ 4 * n = omega arith in
    let b : 1 + 4 * n ≡ suc (4 * n) = omega arith in
    let c : 2 + 4 * n ≡ suc (suc (4 * n)) = omega arith in
    let d : 3 + 4 * n ≡ suc (suc (suc (4 * n))) = omega arith in
    rw (e, a, b, c, d) (omega arith)

-- ---- the same over elements: what a function of the element comes to over the numbers below x
abbrev pub below : (List ℕ → ℕ) → List Modulus → ℕ → ℕ
below h ms x = sum_to (λ y. h (element ms y)) x

element-one : (ms : List Modulus) (y : ℕ) → element (one ∷ ms) y ≡ 0 ∷ element ms y
unfolding element
element-one ms y =
    let a : y % 1 ≡ 0 = omega arith in
    let b : y / 1 ≡ y = omega arith in
    rw (a, b)

pub element-two : (ms : List Modulus) (d y : ℕ) → d < 2 → element (two ∷ ms) (d + 2 * y) ≡ d ∷ element ms y
unfolding element
element-two ms d y l =
    let a : (d + 2 * y) % 2 ≡ d = omega arith in
    let b : (d + 2 * y) / 2 ≡ y = omega arith in
    rw (a, b)

pub element-four : (ms : List Modulus) (d y : ℕ) → d < 4 → element (four ∷ ms) (d + 4 * y) ≡ d ∷ element ms y
unfolding element
element-four ms d y l =
    let a : (d + 4 * y) % 4 ≡ d = omega arith in
    let b : (d + 4 * y) / 4 ≡ y = omega arith in
    rw (a, b)

module _ (h : List ℕ → ℕ) (ms : List Modulus) where
  pub below_one : (x : ℕ) → below h (one ∷ ms) x ≡ below (λ e. h (0 ∷ e)) ms x
  below_one x = sum_to-ext (λ y. h (element (one ∷ ms) y)) (λ y. h (0 ∷ element ms y)) x (λ y l. ap h (element-one ms y))

  -- the whole blocks, and what is left of the last
  blocks-two : (v : ℕ) → below h (two ∷ ms) (2 * v) ≡ below (λ e. h (0 ∷ e) + h (1 ∷ e)) ms v
  blocks-two v =
      sum_to-two (λ y. h (element (two ∷ ms) y)) v
      ∙ sum_to-ext (λ y. h (element (two ∷ ms) (0 + 2 * y)) + h (element (two ∷ ms) (1 + 2 * y))) (λ y. h (0 ∷ element ms y) + h (1 ∷ element ms y)) v
      (λ y l. ap₂ ◌+◌ (ap h (element-two ms 0 y (omega arith))) (ap h (element-two ms 1 y (omega arith))))

  blocks-four : (v : ℕ) → below h (four ∷ ms) (4 * v) ≡ below (λ e. (h (0 ∷ e) + h (1 ∷ e)) + (h (2 ∷ e) + h (3 ∷ e))) ms v
  blocks-four v =
      sum_to-four (λ y. h (element (four ∷ ms) y)) v
      ∙ sum_to-ext
      (λ y. (h (element (four ∷ ms) (0 + 4 * y)) + h (element (four ∷ ms) (1 + 4 * y))) + (h (element (four ∷ ms) (2 + 4 * y)) + h (element (four ∷ ms) (3 + 4 * y))))
      (λ y. (h (0 ∷ element ms y) + h (1 ∷ element ms y)) + (h (2 ∷ element ms y) + h (3 ∷ element ms y))) v
      (λ y l.
      ap₂ ◌+◌ (ap₂ ◌+◌ (ap h (element-four ms 0 y (omega arith))) (ap h (element-four ms 1 y (omega arith))))
      (ap₂ ◌+◌ (ap h (element-four ms 2 y (omega arith))) (ap h (element-four ms 3 y (omega arith)))))

  abbrev pub rest : ℕ → ℕ → ℕ
  rest zero v = 0
  rest (suc d) v = rest d v + h (d ∷ element ms v)

  pub below_two : (d v : ℕ) → d < 2 → below h (two ∷ ms) (d + 2 * v) ≡ below (λ e. h (0 ∷ e) + h (1 ∷ e)) ms v + rest d v
  unfolding sum_to
  below_two zero v l = let e : 0 + 2 * v ≡ 2 * v = omega arith in rw e (omega (arith, blocks-two v))
  below_two (suc d) v l =
      let i = below_two d v (omega arith) in
      let e : suc d + 2 * v ≡ suc (d + 2 * v) = omega arith in
      rw (e, element-two ms d v (omega arith)) (omega arith)

  pub below-four : (d v : ℕ) → d < 4 → below h (four ∷ ms) (d + 4 * v) ≡ below (λ e. (h (0 ∷ e) + h (1 ∷ e)) + (h (2 ∷ e) + h (3 ∷ e))) ms v + rest d v
  unfolding sum_to
  below-four zero v l = let e : 0 + 4 * v ≡ 4 * v = omega arith in rw e (omega (arith, blocks-four v))
  below-four (suc d) v l =
      let i = below-four d v (omega arith) in
      let e : suc d + 4 * v ≡ suc (d + 4 * v) = omega arith in
      rw (e, element-four ms d v (omega arith)) (omega arith)
