-- Where zero and the units stand among the numbers of a sign: at the head of each level. Assumes nothing.
use mathlib.Core.Path.{◌≡◌, refl, sym, ap, ap₂, subst, ◌∙◌}
use mathlib.Core.Bool.{true, false, not}
use mathlib.Core.List.{List, ◌∷◌, ◌++◌}
use Prim.Native.Nat.{ℕ, zero, suc, ◌+◌, ◌-◌, ◌*◌, ◌^◌, ◌<◌, ◌≤◌}
use native.Mathlib.Decide.{dec_lt}
use native.Mathlib.Nat.{pow-succ'}
use native.Mathlib.Omega.{arith}
use borrow.Author.Tests.{eqb-true}
use lib.Dec.{eqb}
use lib.ListN.{length, take, length-append}
use Rattle.group_theory.specs.Group.{Modulus, radix, moduli, size}
use Rattle.group_theory.specs.Sign.{lead}
use Rattle.group_theory.proofs.Numbers.{element-zero, size-pos}
use Rattle.group_theory.proofs.Signs.{lead-zeros}
use Rattle.group_theory.proofs.Fill.{length-moduli, moduli-two, moduli-four}
use Rattle.group_theory.proofs.Unit.{unit-at, unit-between, size-in-use, size-take-suc}
use Rattle.layout_theory.specs.Layout.{from, singles, pairs}
use Rattle.layout_theory.proofs.Lists.{from-append}
use Rattle.layout_theory.proofs.Sizes.{length-singles, length_pairs, shape-moduli}
use Rattle.blocks_theory.specs.Blocks as blocks
use Rattle.blocks_theory.specs.Blocks.{select, sign_at, in_plus, in_even, skips, level, plus_to, even_to}
use Rattle.blocks_theory.proofs.Blocks.{select_yes, select-append, plus-0, plus-1}
use Rattle.blocks_theory.proofs.Levels.{level-next, size-next, even-next, even-first, level-counts, even-none}
use Rattle.blocks_theory.proofs.Members.{select-same, skips-pos, sign-level}

-- ---- units
module _ (a b : ℕ) (h : a + b ≤ 12) where
  pub unit-four : (j : ℕ) → j < b → skips (moduli a b) (size (level a b j)) ≡ true
  unit-four j k =
      let l = length-moduli a b in
      let f = moduli-four a b (a + j) (omega arith) (omega arith) (omega arith) in
      skips-pos (moduli a b) (size (level a b j)) (size-pos (level a b j))
      ∙ unit-at (moduli a b) (a + j) (omega arith) (subst (λ (m : Modulus). 1 < radix m) (sym f) (omega arith))

  pub no-unit-four : (j y : ℕ) → j < b → size (level a b j) < y → y < size (level a b (suc j)) → skips (moduli a b) y ≡ false
  no-unit-four j y k p q =
      let l = length-moduli a b in
      let e : a + suc j ≡ suc (a + j) = omega arith in
      skips-pos (moduli a b) y (omega arith)
      ∙ unit-between (moduli a b) (a + j) y (omega arith) p (subst (λ (n : ℕ). y < size (take n (moduli a b))) e q)

  pub unit-two : (i : ℕ) → i < a → skips (moduli a b) (size (take i (moduli a b))) ≡ true
  unit-two i k =
      let l = length-moduli a b in
      let f = moduli-two a b i (omega arith) k in
      skips-pos (moduli a b) (size (take i (moduli a b))) (size-pos (take i (moduli a b)))
      ∙ unit-at (moduli a b) i (omega arith) (subst (λ (m : Modulus). 1 < radix m) (sym f) (omega arith))

  pub no-unit-two : (i y : ℕ) → i < a → size (take i (moduli a b)) < y → y < size (take (suc i) (moduli a b)) → skips (moduli a b) y ≡ false
  no-unit-two i y k p q =
      let l = length-moduli a b in
      skips-pos (moduli a b) y (omega arith) ∙ unit-between (moduli a b) i y (omega arith) p q

  -- ---- pairs: one quaternary component more
  unfoldable pub tail : ℕ → List ℕ
  tail j = select (in_plus (level a b (suc j))) (from (suc (size (level a b j))) (size (level a b j) * 3 - 1))

  pub plus-split : (j : ℕ) → j < b → blocks.plus (level a b (suc j)) ≡ blocks.plus (level a b j) ++ size (level a b j) ∷ tail j
  unfolding blocks.plus from tail
  plus-split j k =
      let ms = level a b j in
      let n = size ms in
      let p = size-pos ms in
      let L = level-next a b j h k in
      let z : size (level a b (suc j)) ≡ n + suc (n * 3 - 1) = omega (arith, size-next a b h j k) in
      let y : 0 + n ≡ n = omega arith in
      let f = in_plus (level a b (suc j)) in
      let n0 : (x : ℕ) → x + n * 0 ≡ x = λ x. omega arith in
      let n1 : 0 + n * 1 ≡ n = omega arith in
      let g : (x : ℕ) → 0 ≤ x → x < 0 + n → f x ≡ in_plus ms x =
      λ x _ q. ap₂ (λ (m : List Modulus) (t : ℕ). in_plus m t) L (sym (n0 x)) ∙ plus-0 ms x (omega arith) in
      let u : f n ≡ true =
      ap₂ (λ (m : List Modulus) (t : ℕ). in_plus m t) L (sym n1) ∙ plus-1 ms 0 p
      ∙ ap (λ (e : List ℕ). not (eqb (lead ms e) 3)) (element-zero ms) ∙ ap (λ (c : ℕ). not (eqb c 3)) (lead-zeros ms) in
      ap (λ (t : ℕ). select f (from 0 t)) z
      ∙ ap (select f) (from-append 0 n (suc (n * 3 - 1)) ∙ ap (λ (t : ℕ). from 0 n ++ from t (suc (n * 3 - 1))) y)
      ∙ select-append f (from 0 n) (from n (suc (n * 3 - 1)))
      ∙ ap₂ {C = List ℕ} ◌++◌ (select-same f (in_plus ms) 0 n g) (select_yes f n (from (suc n) (n * 3 - 1)) u)

  pub pair-counts : (j : ℕ) → j < b → plus_to a b (suc j) ≡ plus_to a b j + suc (length (tail j))
  pair-counts j k = ap length (plus-split j k) ∙ length-append (blocks.plus (level a b j)) (size (level a b j) ∷ tail j)

  -- at least one number more for each component
  pub plus-rises : (j k : ℕ) → j + k ≤ b → plus_to a b j + k ≤ plus_to a b (j + k)
  plus-rises j zero l = let e : j + 0 ≡ j = omega arith in rw e (omega arith)
  plus-rises j (suc k) l =
      let e : j + suc k ≡ suc (j + k) = omega arith in
      let i = plus-rises j k (omega arith) in
      let c = pair-counts (j + k) (omega arith) in
      rw e (omega arith)

  -- ---- singles: one binary component more, then the others
  pub size-twos-of : (i : ℕ) → i ≤ a → size (take i (moduli a b)) ≡ 2 ^ i
  unfolding size
  size-twos-of zero k = refl
  size-twos-of (suc i) k =
      let l = length-moduli a b in
      size-take-suc (moduli a b) i (omega arith)
      ∙ ap₂ (λ (m : Modulus) (n : ℕ). radix m * n) (moduli-two a b i (omega arith) (omega arith)) (size-twos-of i (omega arith)) ∙ sym (pow-succ' 2 i)

  pub low-split : (i : ℕ) → 0 < 2 ^ i → from 0 (2 ^ suc i) ≡ from 0 (2 ^ i) ++ 2 ^ i ∷ from (suc (2 ^ i)) (2 ^ i - 1)
  unfolding from
  low-split i p =
      let z : 2 ^ suc i ≡ 2 ^ i + suc (2 ^ i - 1) = omega (arith, pow-succ' 2 i) in
      let y : 0 + 2 ^ i ≡ 2 ^ i = omega arith in
      ap (from 0) z ∙ from-append 0 (2 ^ i) (suc (2 ^ i - 1)) ∙ ap (λ (t : ℕ). from 0 (2 ^ i) ++ from t (suc (2 ^ i - 1))) y

  pub pow_pos : (i : ℕ) → 0 < 2 ^ i
  pow_pos zero = omega arith
  pow_pos (suc i) = let p = pow_pos i in omega (arith, pow-succ' 2 i)

  pub pow-rises : (i k : ℕ) → 2 ^ i + k ≤ 2 ^ (i + k)
  pow-rises i zero = let e : i + 0 ≡ i = omega arith in rw e (omega arith)
  pow-rises i (suc k) =
      let e : i + suc k ≡ suc (i + k) = omega arith in
      let r = pow-rises i k in
      let p = pow_pos (i + k) in
      rw e (omega (arith, pow-succ' 2 (i + k)))

  pub unit-low : (i : ℕ) → i < a → skips (moduli a b) (2 ^ i) ≡ true
  unit-low i k = ap (skips (moduli a b)) (sym (size-twos-of i (omega arith))) ∙ unit-two i k

  -- the unit of a quaternary component has the sign 1
  sign-unit : (j : ℕ) → j < b → sign_at (moduli a b) (size (level a b j)) ≡ 1
  sign-unit j k =
      let ms = level a b j in
      let p = size-pos ms in
      let z = size-next a b h j k in
      let n1 : 0 + size ms * 1 ≡ size ms = omega arith in
      let t : in_plus (level a b (suc j)) (size ms) ≡ true =
      ap₂ (λ (m : List Modulus) (t : ℕ). in_plus m t) (level-next a b j h k) (sym n1) ∙ plus-1 ms 0 p
      ∙ ap (λ (e : List ℕ). not (eqb (lead ms e) 3)) (element-zero ms) ∙ ap (λ (c : ℕ). not (eqb c 3)) (lead-zeros ms) in
      sign-level a b (suc j) (size ms) (omega arith) ∙ eqb-true (sign_at (level a b (suc j)) (size ms)) 1 t

  -- no other unit has the sign 0
  pub even-unit : (j y : ℕ) → j ≤ b → size (level a b 0) ≤ y → y < size (level a b j) → sign_at (moduli a b) y ≡ 0 → skips (moduli a b) y ≡ false
  even-unit zero y k p q e = absurd (omega arith)
  even-unit (suc j) y k p q e = go (λ l. even-unit j y (omega arith) p l e) (dec_lt y (size (level a b j))) (dec_lt (size (level a b j)) y)
    where
      go : (y < size (level a b j) → skips (moduli a b) y ≡ false) → Dec (y < size (level a b j)) → Dec (size (level a b j) < y) → skips (moduli a b) y ≡ false
      go i (yes l) m = i l
      go i (no l) (yes m) = no-unit-four j y k m q
      go i (no l) (no m) =
          let z : y ≡ size (level a b j) = omega arith in
          let s : sign_at (moduli a b) y ≡ 1 = ap (sign_at (moduli a b)) z ∙ sign-unit j k in
          absurd (omega arith)

  unfoldable pub high : List ℕ
  high = select (in_even (level a b b)) (from (2 ^ a) (size (level a b b) - 2 ^ a))

  pub size_low : size (level a b 0) ≡ 2 ^ a
  size_low = let e : a + 0 ≡ a = omega arith in ap (λ (n : ℕ). size (take n (moduli a b))) e ∙ size-twos-of a (omega arith)

  pub size-rises : (j : ℕ) → j ≤ b → 2 ^ a ≤ size (level a b j)
  size-rises zero k = rw size_low (omega arith)
  size-rises (suc j) k = let i = size-rises j (omega arith) in let z = size-next a b h j k in omega arith

  pub even-split : blocks.even (level a b b) ≡ from 0 (2 ^ a) ++ high
  unfolding blocks.even high
  even-split =
      let n = size (level a b b) in
      let r = size-rises b (omega arith) in
      let z : n ≡ 2 ^ a + (n - 2 ^ a) = omega arith in
      let y : 0 + 2 ^ a ≡ 2 ^ a = omega arith in
      let f = in_even (level a b b) in
      let s = size_low in
      ap (λ (t : ℕ). select f (from 0 t)) z
      ∙ ap (select f) (from-append 0 (2 ^ a) (n - 2 ^ a) ∙ ap (λ (t : ℕ). from 0 (2 ^ a) ++ from t (n - 2 ^ a)) y)
      ∙ select-append f (from 0 (2 ^ a)) (from (2 ^ a) (n - 2 ^ a))
      ∙ ap (λ (r : List ℕ). r ++ select f (from (2 ^ a) (n - 2 ^ a)))
      (select-same f (in_even (level a b 0)) 0 (2 ^ a)
      (λ x l q. ap (λ (c : ℕ). eqb c 0) (sym (sign-level a b b x (omega arith)) ∙ sign-level a b 0 x (omega arith)))
      ∙ ap (λ (t : ℕ). select (in_even (level a b 0)) (from 0 t)) (sym s) ∙ even-none a b ∙ ap (from 0) s)

  -- ---- how many there are
  pub even_power : (j : ℕ) → j ≤ b → even_to a b j ≡ 2 ^ (a + j)
  even_power zero k = let e : a ≡ a + 0 = omega arith in even-first a b h ∙ ap (λ (n : ℕ). 2 ^ n) e
  even_power (suc j) k =
      let e : a + suc j ≡ suc (a + j) = omega arith in
      let i = even_power j (omega arith) in
      let n = even-next a b h j (omega arith) in
      let t : even_to a b (suc j) ≡ 2 ^ suc (a + j) = omega (arith, pow-succ' 2 (a + j)) in
      t ∙ ap (λ (k : ℕ). 2 ^ k) (sym e)

  pub message-counts : (length (singles (moduli a b)) + a + 1 ≡ even_to a b b) × (length (pairs (moduli a b)) + b ≡ plus_to a b b) × (size (moduli a b) ≡ 2 * plus_to a b b + even_to a b b)
  message-counts =
      let s = shape-moduli a b h in
      let s0 = s.0 in
      let s1 = s.1 in
      let s2 = s.2 in
      let x = length-singles (moduli a b) in
      let y = length_pairs (moduli a b) in
      let e = even_power b (omega arith) in
      let c = (level-counts a b h b (omega arith)).1 in
      let z = size-in-use a b in
      (omega arith, omega arith, omega arith)
