-- Lists of numbers with each one twice, and lists by sign with one binary component more. Assumes nothing.
use mathlib.Core.Path.{◌≡◌, refl, sym, ap, ap₂, ◌∙◌}
use mathlib.Core.List.{List, [], ◌∷◌, ◌++◌}
use mathlib.Core.Bool.{Bool, not}
use Prim.Native.Nat.{ℕ, zero, suc, ◌+◌, ◌*◌, ◌%◌, ◌<◌}
use native.Mathlib.Omega.{arith}
use lib.Dec.{eqb}
use lib.ListN.{length}
use Rattle.group_theory.specs.Group.{Modulus, one, two, four, element, size}
use Rattle.group_theory.specs.Sign.{lead}
use Rattle.group_theory.specs.Weights.{shifted, Below}
use Rattle.group_theory.proofs.Fill.{length-element}
use Rattle.group_theory.proofs.Snoc.{element-snoc, size-snoc}
use Rattle.layout_theory.specs.Layout.{from}
use Rattle.layout_theory.proofs.Lists.{from-append}
use Rattle.blocks_theory.specs.Blocks as blocks
use Rattle.blocks_theory.specs.Blocks.{select, sign_at}
use Rattle.blocks_theory.proofs.Blocks.{select-append, select-run}
use Rattle.folds_theory.specs.Folds.{twice}

pub twice-append : (xs ys : List ℕ) → twice (xs ++ ys) ≡ twice xs ++ twice ys
unfolding twice
twice-append [] ys = refl
twice-append (x ∷ xs) ys = ap {B = List ℕ} (λ (r : List ℕ). x ∷ x ∷ r) (twice-append xs ys)

pub twice-shifted : (c : ℕ) (xs : List ℕ) → twice (shifted c xs) ≡ shifted c (twice xs)
unfolding twice shifted
twice-shifted c [] = refl
twice-shifted c (x ∷ xs) = ap {B = List ℕ} (λ (r : List ℕ). (x + c) ∷ (x + c) ∷ r) (twice-shifted c xs)

pub length-twice : (xs : List ℕ) → length (twice xs) ≡ 2 * length xs
unfolding twice
length-twice [] = refl
length-twice (x ∷ xs) = let i = length-twice xs in omega arith

pub below-twice : (n : ℕ) (xs : List ℕ) → Below n xs → Below n (twice xs)
unfolding twice
below-twice n [] h = tt
below-twice n (x ∷ xs) h = (h.0, (h.0, below-twice n xs h.1))

-- two and four blocks
pub twice_two : (c0 c1 : ℕ) (x0 x1 : List ℕ) → twice (shifted c0 x0 ++ shifted c1 x1) ≡ shifted c0 (twice x0) ++ shifted c1 (twice x1)
twice_two c0 c1 x0 x1 = twice-append (shifted c0 x0) (shifted c1 x1) ∙ ap₂ {C = List ℕ} ◌++◌ (twice-shifted c0 x0) (twice-shifted c1 x1)

module _ (c0 c1 c2 c3 : ℕ) (x0 x1 x2 x3 : List ℕ) where
  pub twice-four : twice (shifted c0 x0 ++ (shifted c1 x1 ++ (shifted c2 x2 ++ shifted c3 x3)))
      ≡ shifted c0 (twice x0) ++ (shifted c1 (twice x1) ++ (shifted c2 (twice x2) ++ shifted c3 (twice x3)))
  twice-four =
      twice-append (shifted c0 x0) (shifted c1 x1 ++ (shifted c2 x2 ++ shifted c3 x3))
      ∙ ap₂ {C = List ℕ} ◌++◌ (twice-shifted c0 x0)
      (twice-append (shifted c1 x1) (shifted c2 x2 ++ shifted c3 x3)
      ∙ ap₂ {C = List ℕ} ◌++◌ (twice-shifted c1 x1)
      (twice-append (shifted c2 x2) (shifted c3 x3) ∙ ap₂ {C = List ℕ} ◌++◌ (twice-shifted c2 x2) (twice-shifted c3 x3)))

-- ---- one binary component more
lead-two : (ms : List Modulus) (e : List ℕ) (d : ℕ) → length e ≡ length ms → lead (ms ++ two ∷ []) (e ++ (d ∷ [])) ≡ lead ms e
unfolding lead
lead-two [] [] d h = refl
lead-two [] (x ∷ e) d h = absurd (omega arith)
lead-two (m ∷ ms) [] d h = absurd (omega arith)
lead-two (one ∷ ms) (x ∷ e) d h = lead-two ms e d (omega arith)
lead-two (two ∷ ms) (x ∷ e) d h = lead-two ms e d (omega arith)
lead-two (four ∷ ms) (zero ∷ e) d h = lead-two ms e d (omega arith)
lead-two (four ∷ ms) (suc zero ∷ e) d h = refl
lead-two (four ∷ ms) (suc (suc zero) ∷ e) d h = lead-two ms e d (omega arith)
lead-two (four ∷ ms) (suc (suc (suc x)) ∷ e) d h = refl

sign-two : (ms : List Modulus) (d y : ℕ) → y < size ms → sign_at (ms ++ two ∷ []) (y + size ms * d) ≡ sign_at ms y
sign-two ms d y h = ap (lead (ms ++ two ∷ [])) (element-snoc ms two d y h) ∙ lead-two ms (element ms y) (d % 2) (length-element ms y)

-- the numbers whose sign passes a test: those of the digit 0, then those of the digit 1
by_two : (f : ℕ → Bool) (ms : List Modulus) → select (λ x. f (sign_at (ms ++ two ∷ []) x)) (from 0 (size (ms ++ two ∷ [])))
    ≡ shifted (size ms * 0) (select (λ x. f (sign_at ms x)) (from 0 (size ms))) ++ shifted (size ms * 1) (select (λ x. f (sign_at ms x)) (from 0 (size ms)))
by_two f ms =
    let n = size ms in
    let p : ℕ → Bool = λ x. f (sign_at (ms ++ two ∷ []) x) in
    let q : ℕ → Bool = λ x. f (sign_at ms x) in
    let s : size (ms ++ two ∷ []) ≡ n + n = size-snoc ms two ∙ omega arith in
    let a0 : 0 + n * 0 ≡ 0 = omega arith in
    let a1 : 0 + n * 1 ≡ 0 + n = omega arith in
    let r0 : select p (from (0 + n * 0) n) ≡ shifted (n * 0) (select q (from 0 n)) = select-run p q (n * 0) 0 n (λ y l. ap f (sign-two ms 0 y (omega arith))) in
    let r1 : select p (from (0 + n * 1) n) ≡ shifted (n * 1) (select q (from 0 n)) = select-run p q (n * 1) 0 n (λ y l. ap f (sign-two ms 1 y (omega arith))) in
    ap (λ (k : ℕ). select p (from 0 k)) s
    ∙ ap (select p) (from-append 0 n n)
    ∙ select-append p (from 0 n) (from (0 + n) n)
    ∙ ap₂ {C = List ℕ} ◌++◌ (ap (λ (k : ℕ). select p (from k n)) (sym a0) ∙ r0) (ap (λ (k : ℕ). select p (from k n)) (sym a1) ∙ r1)

pub low-two : (ms : List Modulus) → blocks.low (ms ++ two ∷ []) ≡ shifted (size ms * 0) (blocks.low ms) ++ shifted (size ms * 1) (blocks.low ms)
unfolding blocks.low
low-two ms = by_two (λ l. not (eqb l 3)) ms

pub even-two : (ms : List Modulus) → blocks.even (ms ++ two ∷ []) ≡ shifted (size ms * 0) (blocks.even ms) ++ shifted (size ms * 1) (blocks.even ms)
unfolding blocks.even
even-two ms = by_two (λ l. eqb l 0) ms
