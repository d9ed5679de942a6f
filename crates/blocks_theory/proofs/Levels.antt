-- One level after the other: the first a + j components, their numbers of each sign, and how many these are. Assumes nothing.
use mathlib.Core.Path.{◌≡◌, refl, sym, ap, ap₂, ◌∙◌}
use mathlib.Core.List.{List, [], ◌∷◌, ◌++◌}
use mathlib.Core.Bool.{Bool, true, false, not}
use Prim.Native.Nat.{ℕ, zero, suc, ◌+◌, ◌*◌, ◌^◌, ◌<◌, ◌≤◌}
use native.Mathlib.Nat.{pow-succ'}
use native.Mathlib.Omega.{arith}
use lib.Dec.{eqb}
use lib.ListN.{length, take, length-append}
use lib.Seq.{take-suc}
use Rattle.group_theory.specs.Group.{Modulus, one, two, four, radix, moduli, moduli_of, tl, element, size}
use Rattle.group_theory.specs.Sign.{lead}
use Rattle.group_theory.specs.Weights.{shifted, Below}
use Rattle.group_theory.proofs.Fill.{length-moduli, moduli-two, moduli-four}
use Rattle.group_theory.proofs.Unit.{size-take-suc}
use Rattle.group_theory.proofs.Snoc.{size-snoc}
use Rattle.group_theory.proofs.Weights.{length-shifted}
use Rattle.layout_theory.specs.Layout.{from}
use Rattle.layout_theory.proofs.Lists.{length_from}
use Rattle.blocks_theory.specs.Blocks as blocks
use Rattle.blocks_theory.specs.Blocks.{select, sign_at, in_plus, in_low, in_even, level, plus_to, even_to}
use Rattle.blocks_theory.proofs.Blocks.{select_yes, select_no, none_left, next, plus-blocks, low-blocks, even-blocks}

-- ---- numbers below the size
pub below-from : (n x k : ℕ) → x + k ≤ n → Below n (from x k)
unfolding from
below-from n x zero h = tt
below-from n x (suc k) h = (omega arith, below-from n (suc x) k (omega arith))

pub below-select : (n : ℕ) (p : ℕ → Bool) (xs : List ℕ) → Below n xs → Below n (select p xs)
unfolding select
below-select n p [] h = tt
below-select n p (x ∷ xs) h = go (below-select n p xs h.1) (p x) refl
  where
    go : Below n (select p xs) → (b : Bool) → p x ≡ b → Below n (select p (x ∷ xs))
    go i true e = rw (select_yes p x xs e) (h.0, i)
    go i false e = rw (select_no p x xs e) i

module _ (ms : List Modulus) where
  pub below-plus : Below (size ms) (blocks.plus ms)
  unfolding blocks.plus
  below-plus = below-select (size ms) (in_plus ms) (from 0 (size ms)) (below-from (size ms) 0 (size ms) (omega arith))

  pub below-low : Below (size ms) (blocks.low ms)
  unfolding blocks.low
  below-low = below-select (size ms) (in_low ms) (from 0 (size ms)) (below-from (size ms) 0 (size ms) (omega arith))

  pub below-even : Below (size ms) (blocks.even ms)
  unfolding blocks.even
  below-even = below-select (size ms) (in_even ms) (from 0 (size ms)) (below-from (size ms) 0 (size ms) (omega arith))

pub size-twos : (a i : ℕ) → a ≤ 12 → i ≤ a → size (take i (moduli a 0)) ≡ 2 ^ i
unfolding size
size-twos a zero h k = refl
size-twos a (suc i) h k =
    let l = length-moduli a 0 in
    size-take-suc (moduli a 0) i (omega arith)
    ∙ ap₂ (λ (m : Modulus) (n : ℕ). radix m * n) (moduli-two a 0 i (omega arith) (omega arith)) (size-twos a i h (omega arith))
    ∙ sym (pow-succ' 2 i)

-- ---- the lists of moduli
pub level-next : (a b j : ℕ) → a + b ≤ 12 → j < b → level a b (suc j) ≡ next (level a b j)
level-next a b j h k =
    let l = length-moduli a b in
    let e : a + suc j ≡ suc (a + j) = omega arith in
    rw e (take-suc (moduli a b) (a + j) one (omega arith)
    ∙ ap (λ (m : Modulus). take (a + j) (moduli a b) ++ m ∷ []) (moduli-four a b (a + j) (omega arith) (omega arith) (omega arith)))

take-twos : (n a b : ℕ) → take a (moduli_of n a b) ≡ take a (moduli_of n a 0)
take-twos n zero b = refl
take-twos zero (suc a) b = refl
take-twos (suc n) (suc a) b = ap {B = List Modulus} (λ (ms : List Modulus). two ∷ ms) (take-twos n a b)

pub level-none : (a b : ℕ) → level a b 0 ≡ take a (moduli a 0)
unfolding moduli
level-none a b = let e : a + 0 ≡ a = omega arith in rw e (take-twos 12 a b)

lead-twos : (n a : ℕ) (e : List ℕ) → lead (take a (moduli_of n a 0)) e ≡ 0
unfolding lead
lead-twos n zero e = refl
lead-twos zero (suc a) e = refl
lead-twos (suc n) (suc a) e = lead-twos n a (tl e)

pub sign-none : (a b y : ℕ) → sign_at (level a b 0) y ≡ 0
unfolding moduli
sign-none a b y = ap (λ (ms : List Modulus). lead ms (element ms y)) (level-none a b) ∙ lead-twos 12 a (element (take a (moduli a 0)) y)

pub all_left : (p : ℕ → Bool) → ((y : ℕ) → p y ≡ true) → (xs : List ℕ) → select p xs ≡ xs
unfolding select
all_left p h [] = refl
all_left p h (x ∷ xs) = select_yes p x xs (h x) ∙ ap {B = List ℕ} (λ (r : List ℕ). x ∷ r) (all_left p h xs)

module _ (a b : ℕ) where
  pub plus_none : blocks.plus (level a b 0) ≡ []
  unfolding blocks.plus
  plus_none = none_left (in_plus (level a b 0)) (λ y. ap (λ (l : ℕ). eqb l 1) (sign-none a b y)) (from 0 (size (level a b 0)))

  pub low-none : blocks.low (level a b 0) ≡ from 0 (size (level a b 0))
  unfolding blocks.low
  low-none = all_left (in_low (level a b 0)) (λ y. ap (λ (l : ℕ). not (eqb l 3)) (sign-none a b y)) (from 0 (size (level a b 0)))

  pub even-none : blocks.even (level a b 0) ≡ from 0 (size (level a b 0))
  unfolding blocks.even
  even-none = all_left (in_even (level a b 0)) (λ y. ap (λ (l : ℕ). eqb l 0) (sign-none a b y)) (from 0 (size (level a b 0)))

-- ---- how many
four-lengths : (c0 c1 c2 c3 : ℕ) (x0 x1 x2 x3 : List ℕ)
    → length (shifted c0 x0 ++ (shifted c1 x1 ++ (shifted c2 x2 ++ shifted c3 x3))) ≡ length x0 + (length x1 + (length x2 + length x3))
four-lengths c0 c1 c2 c3 x0 x1 x2 x3 =
    rw (length-append, length-append, length-append, length-shifted, length-shifted, length-shifted, length-shifted) refl

module _ (a b : ℕ) (h : a + b ≤ 12) where
  pub plus-next : (j : ℕ) → j < b → plus_to a b (suc j) ≡ plus_to a b j + (length (blocks.low (level a b j)) + (plus_to a b j + plus_to a b j))
  plus-next j k = ap (λ (ms : List Modulus). length (blocks.plus ms)) (level-next a b j h k) ∙ ap length (plus-blocks (level a b j)) ∙ four-lengths _ _ _ _ _ _ _ _

  pub low-next : (j : ℕ) → j < b → length (blocks.low (level a b (suc j)))
      ≡ length (blocks.low (level a b j)) + (length (blocks.low (level a b j)) + (length (blocks.low (level a b j)) + plus_to a b j))
  low-next j k = ap (λ (ms : List Modulus). length (blocks.low ms)) (level-next a b j h k) ∙ ap length (low-blocks (level a b j)) ∙ four-lengths _ _ _ _ _ _ _ _

  pub even-next : (j : ℕ) → j < b → even_to a b (suc j) ≡ even_to a b j + even_to a b j
  even-next j k =
      ap (λ (ms : List Modulus). length (blocks.even ms)) (level-next a b j h k) ∙ ap length (even-blocks (level a b j))
      ∙ rw (length-append, length-shifted, length-shifted) refl

  pub size-next : (j : ℕ) → j < b → size (level a b (suc j)) ≡ size (level a b j) * 4
  size-next j k = ap size (level-next a b j h k) ∙ size-snoc (level a b j) four

  pub level-counts : (j : ℕ) → j ≤ b → (length (blocks.low (level a b j)) ≡ plus_to a b j + even_to a b j) × (size (level a b j) ≡ 2 * plus_to a b j + even_to a b j)
  level-counts zero k =
      let p : plus_to a b 0 ≡ 0 = ap length (plus_none a b) in
      let l : length (blocks.low (level a b 0)) ≡ size (level a b 0) = ap length (low-none a b) ∙ length_from (size (level a b 0)) 0 in
      let e : even_to a b 0 ≡ size (level a b 0) = ap length (even-none a b) ∙ length_from (size (level a b 0)) 0 in
      (omega arith, omega arith)
  level-counts (suc j) k =
      let i = level-counts j (omega arith) in
      let p = plus-next j (omega arith) in
      let l = low-next j (omega arith) in
      let e = even-next j (omega arith) in
      let s = size-next j (omega arith) in
      let i0 = i.0 in
      let i1 = i.1 in
      (omega arith, omega arith)

  pub even-first : even_to a b 0 ≡ 2 ^ a
  even-first =
      ap length (even-none a b) ∙ length_from (size (level a b 0)) 0 ∙ ap size (level-none a b) ∙ size-twos a a (omega arith) (omega arith)
