-- The numbers of a sign by blocks: the highest digit taken off an index, and off the element there. Assumes nothing.
use mathlib.Core.Path.{◌≡◌, refl, sym, ap, ap₂, ◌∙◌}
use mathlib.Core.List.{List, [], ◌∷◌, ◌++◌, append_assoc}
use Prim.Native.Nat.{ℕ, zero, suc, ◌+◌, ◌-◌, ◌*◌, ◌/◌, ◌%◌, ◌^◌, ◌<◌, ◌≤◌}
use native.Mathlib.Nat.{pow-succ'}
use native.Mathlib.Omega.{arith}
use lib.ListN.{length, get_or, take, drop, set, replicate, length-set, take-append-drop, get_or-append}
use lib.Pow.{pow_mono}
use lib.Seq.{drop-set-lt, drop-drop, get_or-append-add, set_split, drop_at, length-take-le}
use Rattle.group_theory.specs.Group.{Modulus, two, four, radix, moduli, zeros, times, element, size}
use Rattle.group_theory.specs.Weights.{shifted, Below}
use Rattle.group_theory.proofs.Laws.{valid-element, times-one, times-three}
use Rattle.group_theory.proofs.Signs.{even-own}
use Rattle.group_theory.proofs.Fill.{Left, left_step, moduli-two, length-element, zeros-moduli}
use Rattle.group_theory.proofs.Snoc.{element-snoc, times_snoc, element-behind, times-behind}
use Rattle.group_theory.proofs.Weights.{length-shifted}
use Rattle.layout_theory.specs.Layout.{from}
use Rattle.layout_theory.proofs.Lists.{length_from}
use Rattle.blocks_theory.specs.Blocks as blocks
use Rattle.blocks_theory.specs.Blocks.{level, plus_to, even_to}
use Rattle.blocks_theory.specs.Indices.{kind_of, factor_of, numbers, standing, ones, offset, kind_after, InBlock}
use Rattle.blocks_theory.specs.declared.Sign.{Sign}
use Rattle.blocks_theory.specs.declared.Sign.TheVariants.{Zero, One, Three}
use Rattle.blocks_theory.specs.declared.Kind.{Kind}
use Rattle.blocks_theory.specs.declared.Kind.TheVariants.{Even, Plus, Low}
use Rattle.blocks_theory.proofs.Blocks.{next, plus-blocks, low-blocks, even-blocks}
use Rattle.blocks_theory.proofs.Levels.{below-plus, below-low, below-even, level-next, level-none, sign-none, plus_none, low-none, even-none, plus-next, low-next, even-next, size-next, level-counts}
use Rattle.blocks_theory.proofs.Members.{plus-all, even-all}
use Rattle.blocks_theory.proofs.Splits.{even_power, size_low}

-- ---- a list of blocks by index
at-shifted : (c : ℕ) (xs : List ℕ) (i : ℕ) → i < length xs → get_or (shifted c xs) i 0 ≡ get_or xs i 0 + c
unfolding shifted
at-shifted c [] i h = absurd (omega arith)
at-shifted c (x ∷ xs) zero h = refl
at-shifted c (x ∷ xs) (suc i) h = at-shifted c xs i (omega arith)

-- past a first block
past : (c : ℕ) (xs ys : List ℕ) (i : ℕ) → get_or (shifted c xs ++ ys) (length xs + i) 0 ≡ get_or ys i 0
past c xs ys i = ap (λ (n : ℕ). get_or (shifted c xs ++ ys) (n + i) 0) (sym (length-shifted c xs)) ∙ get_or-append-add (shifted c xs) ys i 0

-- in a first block
first : (c : ℕ) (xs ys : List ℕ) (i : ℕ) → i < length xs → get_or (shifted c xs ++ ys) i 0 ≡ get_or xs i 0 + c
first c xs ys i h = get_or-append (shifted c xs) ys 0 i (rw length-shifted h) ∙ at-shifted c xs i h

module _ (n : ℕ) (x0 x1 x2 x3 : List ℕ) where
  abbrev all : List ℕ
  all = shifted (n * 0) x0 ++ (shifted (n * 1) x1 ++ (shifted (n * 2) x2 ++ shifted (n * 3) x3))

  at_1 : (i k : ℕ) → k ≡ length x0 + i → i < length x1 → get_or all k 0 ≡ get_or x1 i 0 + n * 1
  at_1 i k e h = ap (λ (m : ℕ). get_or all m 0) e ∙ past (n * 0) x0 _ i ∙ first (n * 1) x1 _ i h

  at-2 : (i k : ℕ) → k ≡ length x0 + (length x1 + i) → i < length x2 → get_or all k 0 ≡ get_or x2 i 0 + n * 2
  at-2 i k e h = ap (λ (m : ℕ). get_or all m 0) e ∙ past (n * 0) x0 _ (length x1 + i) ∙ past (n * 1) x1 _ i ∙ first (n * 2) x2 _ i h

  at-3 : (i k : ℕ) → k ≡ length x0 + (length x1 + (length x2 + i)) → i < length x3 → get_or all k 0 ≡ get_or x3 i 0 + n * 3
  at-3 i k e h =
      ap (λ (m : ℕ). get_or all m 0) e ∙ past (n * 0) x0 _ (length x1 + (length x2 + i)) ∙ past (n * 1) x1 _ (length x2 + i) ∙ past (n * 2) x2 _ i
      ∙ at-shifted (n * 3) x3 i h

-- ---- one digit
-- even numbers have even digits
abbrev pub DigitFits : Kind → ℕ → Type 0
DigitFits Even zero = Unit {0}
DigitFits Even (suc zero) = ⊥
DigitFits Even (suc (suc zero)) = Unit {0}
DigitFits Even (suc (suc (suc d))) = ⊥
DigitFits Plus d = Unit {0}
DigitFits Low d = Unit {0}

number-off : (ms : List Modulus) (c : Kind) (d i : ℕ) → d < 4 → DigitFits c d → i < length (numbers (kind_after c d) ms)
    → get_or (numbers c (next ms)) (offset d (length (numbers c ms)) (ones c ms) + i) 0 ≡ get_or (numbers (kind_after c d) ms) i 0 + size ms * d
number-off ms Low zero i l f h =
    let e : 0 + i ≡ i = omega arith in
    ap₂ (λ (xs : List ℕ) (k : ℕ). get_or xs k 0) (low-blocks ms) e ∙ first (size ms * 0) (blocks.low ms) _ i h
number-off ms Low (suc zero) i l f h =
    ap (λ (xs : List ℕ). get_or xs (length (blocks.low ms) + i) 0) (low-blocks ms)
    ∙ at_1 (size ms) (blocks.low ms) (blocks.low ms) (blocks.low ms) (blocks.plus ms) i _ refl h
number-off ms Low (suc (suc zero)) i l f h =
    ap (λ (xs : List ℕ). get_or xs (length (blocks.low ms) + length (blocks.low ms) + i) 0) (low-blocks ms)
    ∙ at-2 (size ms) (blocks.low ms) (blocks.low ms) (blocks.low ms) (blocks.plus ms) i _ (omega arith) h
number-off ms Low (suc (suc (suc zero))) i l f h =
    ap (λ (xs : List ℕ). get_or xs (2 * length (blocks.low ms) + length (blocks.low ms) + i) 0) (low-blocks ms)
    ∙ at-3 (size ms) (blocks.low ms) (blocks.low ms) (blocks.low ms) (blocks.plus ms) i _ (omega arith) h
number-off ms Plus zero i l f h =
    let e : 0 + i ≡ i = omega arith in
    ap₂ (λ (xs : List ℕ) (k : ℕ). get_or xs k 0) (plus-blocks ms) e ∙ first (size ms * 0) (blocks.plus ms) _ i h
number-off ms Plus (suc zero) i l f h =
    ap (λ (xs : List ℕ). get_or xs (length (blocks.plus ms) + i) 0) (plus-blocks ms)
    ∙ at_1 (size ms) (blocks.plus ms) (blocks.low ms) (blocks.plus ms) (blocks.plus ms) i _ refl h
number-off ms Plus (suc (suc zero)) i l f h =
    ap (λ (xs : List ℕ). get_or xs (length (blocks.plus ms) + length (blocks.low ms) + i) 0) (plus-blocks ms)
    ∙ at-2 (size ms) (blocks.plus ms) (blocks.low ms) (blocks.plus ms) (blocks.plus ms) i _ (omega arith) h
number-off ms Plus (suc (suc (suc zero))) i l f h =
    ap (λ (xs : List ℕ). get_or xs (2 * length (blocks.plus ms) + length (blocks.low ms) + i) 0) (plus-blocks ms)
    ∙ at-3 (size ms) (blocks.plus ms) (blocks.low ms) (blocks.plus ms) (blocks.plus ms) i _ (omega arith) h
number-off ms Plus (suc (suc (suc (suc d)))) i l f h = absurd (omega arith)
number-off ms Low (suc (suc (suc (suc d)))) i l f h = absurd (omega arith)
number-off ms Even zero i l f h =
    let e : 0 + i ≡ i = omega arith in
    ap₂ (λ (xs : List ℕ) (k : ℕ). get_or xs k 0) (even-blocks ms) e ∙ first (size ms * 0) (blocks.even ms) _ i h
number-off ms Even (suc zero) i l f h = absurd f
number-off ms Even (suc (suc zero)) i l f h =
    let e : length (blocks.even ms) + 0 + i ≡ length (blocks.even ms) + i = omega arith in
    ap₂ (λ (xs : List ℕ) (k : ℕ). get_or xs k 0) (even-blocks ms) e ∙ past (size ms * 0) (blocks.even ms) _ i ∙ at-shifted (size ms * 2) (blocks.even ms) i h
number-off ms Even (suc (suc (suc d))) i l f h = absurd f

at-below : (n : ℕ) (xs : List ℕ) (i : ℕ) → Below n xs → i < length xs → get_or xs i 0 < n
at-below n [] i b h = absurd (omega arith)
at-below n (x ∷ xs) zero b h = b.0
at-below n (x ∷ xs) (suc i) b h = at-below n xs i b.1 (omega arith)

pub number-below : (c : Kind) (ms : List Modulus) (i : ℕ) → i < length (numbers c ms) → get_or (numbers c ms) i 0 < size ms
number-below Low ms i h = at-below (size ms) (blocks.low ms) i (below-low ms) h
number-below Plus ms i h = at-below (size ms) (blocks.plus ms) i (below-plus ms) h
number-below Even ms i h = at-below (size ms) (blocks.even ms) i (below-even ms) h

pub get_or-from : (n x i : ℕ) → i < n → get_or (from x n) i 0 ≡ x + i
unfolding from
get_or-from zero x i l = absurd (omega arith)
get_or-from (suc n) x zero l = omega arith
get_or-from (suc n) x (suc i) l = get_or-from n (suc x) i (omega arith) ∙ omega arith

-- a run from 0 on
run_at : (n k : ℕ) (xs : List ℕ) → xs ≡ from 0 n → k < length xs → (k < n) × (get_or xs k 0 ≡ k)
run_at n k xs e l =
    let z : length xs ≡ n = ap length e ∙ length_from n 0 in
    let i : k < n = omega arith in
    (i, ap (λ (r : List ℕ). get_or r k 0) e ∙ get_or-from n 0 k i ∙ omega arith)

zeros-drop : (n : ℕ) (ms : List Modulus) → zeros (drop n ms) ≡ drop n (zeros ms)
unfolding zeros
zeros-drop zero ms = refl
zeros-drop (suc n) [] = refl
zeros-drop (suc n) (m ∷ ms) = zeros-drop n ms

module _ (a b : ℕ) (h : a + b ≤ 12) where
  -- the element of an index without its highest digit
  pub element-off : (c : Kind) (j d i : ℕ) → j < b → d < 4 → DigitFits c d → i < length (numbers (kind_after c d) (level a b j))
      → element (level a b (suc j)) (get_or (numbers c (level a b (suc j))) (offset d (length (numbers c (level a b j))) (ones c (level a b j)) + i) 0)
      ≡ element (level a b j) (get_or (numbers (kind_after c d) (level a b j)) i 0) ++ (d ∷ [])
  element-off c j d i k l f q =
      let ms = level a b j in
      let e : d % 4 ≡ d = omega arith in
      let x = get_or (numbers (kind_after c d) ms) i 0 in
      ap (λ (ns : List Modulus). element ns (get_or (numbers c ns) (offset d (length (numbers c ms)) (ones c ms) + i) 0)) (level-next a b j h k)
      ∙ ap (element (next ms)) (number-off ms c d i l f q)
      ∙ element-snoc ms four d x (number-below (kind_after c d) ms i q)
      ∙ ap (λ (y : ℕ). element ms x ++ (y ∷ [])) e

  -- the numbers of all components
  pub numbers-all : (s : Sign) → numbers (kind_of s) (level a b b) ≡ numbers (kind_of s) (moduli a b)
  numbers-all Zero = even-all a b
  numbers-all One = plus-all a b
  numbers-all Three = plus-all a b

  -- those of the binary components alone
  pub numbers-none : (c : Kind) (k : ℕ) → k < length (numbers c (level a b 0)) → (k < size (level a b 0)) × (get_or (numbers c (level a b 0)) k 0 ≡ k)
  numbers-none Low k l = run_at (size (level a b 0)) k (blocks.low (level a b 0)) (low-none a b) l
  numbers-none Plus k l = let z : plus_to a b 0 ≡ 0 = ap length (plus_none a b) in absurd (omega arith)
  numbers-none Even k l = run_at (size (level a b 0)) k (blocks.even (level a b 0)) (even-none a b) l

  -- ---- how many there are
  size_power : (j : ℕ) → j ≤ b → size (level a b j) ≡ 2 ^ (a + 2 * j)
  size_power zero k = let e : a ≡ a + 2 * 0 = omega arith in size_low a b h ∙ ap (λ (n : ℕ). 2 ^ n) e
  size_power (suc j) k =
      let e : a + 2 * suc j ≡ suc (suc (a + 2 * j)) = omega arith in
      let i = size_power j (omega arith) in
      let n = size-next a b h j (omega arith) in
      let t : size (level a b (suc j)) ≡ 2 ^ suc (suc (a + 2 * j)) = omega (arith, pow-succ' 2 (a + 2 * j), pow-succ' 2 (suc (a + 2 * j))) in
      t ∙ ap (λ (k : ℕ). 2 ^ k) (sym e)

  -- by the powers that the code computes
  pub record Counted (j even low : ℕ) : Type 0 where
    pub less : even ≤ low
    pub small : low ≤ 2 ^ 24
    pub evens : even ≡ length (numbers Even (level a b j))
    pub pluses : low - even ≡ length (numbers Plus (level a b j))
    pub lows : low ≡ length (numbers Low (level a b j))

  pub counted : (j : ℕ) → j ≤ b → Counted j (2 ^ (a + j)) ((2 ^ (a + 2 * j) + 2 ^ (a + j)) / 2)
  counted j k =
      let c = level-counts a b h j k in
      let c0 = c.0 in
      let c1 = c.1 in
      let s = size_power j k in
      let e = even_power a b h j k in
      let p : 2 ^ (a + 2 * j) ≤ 2 ^ 24 = pow_mono {i = a + 2 * j} {j = 24} (omega arith) in
      record {
        less = omega arith;
        small = omega arith;
        evens = omega arith;
        pluses = omega arith;
        lows = omega arith;
      }

  -- an index in a block is one of the numbers there
  block-fits : (c : Kind) (j k d : ℕ) → j < b → k < length (numbers c (level a b (suc j)))
      → InBlock k (length (numbers c (level a b j))) (ones c (level a b j)) d
      → DigitFits c d × (k - offset d (length (numbers c (level a b j))) (ones c (level a b j)) < length (numbers (kind_after c d) (level a b j)))
  block-fits Low j k zero l q s = let e = s.ends (omega arith) in (tt, omega arith)
  block-fits Low j k (suc zero) l q s = let e = s.ends (omega arith) in (tt, omega (arith, s.begins))
  block-fits Low j k (suc (suc zero)) l q s = let e = s.ends (omega arith) in (tt, omega (arith, s.begins))
  block-fits Low j k (suc (suc (suc d))) l q s = let n = low-next a b h j l in (tt, omega (arith, s.begins))
  block-fits Plus j k zero l q s = let e = s.ends (omega arith) in (tt, omega arith)
  block-fits Plus j k (suc zero) l q s = let e = s.ends (omega arith) in (tt, omega (arith, s.begins))
  block-fits Plus j k (suc (suc zero)) l q s = let e = s.ends (omega arith) in (tt, omega (arith, s.begins))
  block-fits Plus j k (suc (suc (suc d))) l q s = let n = plus-next a b h j l in (tt, omega (arith, s.begins))
  block-fits Even j k zero l q s = let e = s.ends (omega arith) in (tt, omega arith)
  block-fits Even j k (suc zero) l q s = let e = s.ends (omega arith) in absurd (omega (arith, s.begins))
  block-fits Even j k (suc (suc zero)) l q s = let e = s.ends (omega arith) in (tt, omega (arith, s.begins))
  block-fits Even j k (suc (suc (suc d))) l q s = let n = even-next a b h j l in absurd (omega (arith, s.begins))

  -- ---- binary components are their own negatives
  odd-times : (s : Sign) (k : ℕ) → times (level a b 0) (factor_of s) (element (level a b 0) k) ≡ element (level a b 0) k
  odd-times Zero k = times-one (level a b 0) (element (level a b 0) k) (valid-element (level a b 0) k)
  odd-times One k = times-one (level a b 0) (element (level a b 0) k) (valid-element (level a b 0) k)
  odd-times Three k =
      times-three (level a b 0) (element (level a b 0) k) ∙ even-own (level a b 0) (element (level a b 0) k) (valid-element (level a b 0) k) (sign-none a b k)

  -- the components that are not in use are 0
  behind : (f y : ℕ) → y < size (level a b b) → times (moduli a b) f (element (moduli a b) y) ≡ times (level a b b) f (element (level a b b) y) ++ drop (a + b) (replicate 12 0)
  behind f y l =
      let ns = drop (a + b) (moduli a b) in
      let ms = level a b b in
      let z : zeros ns ≡ drop (a + b) (replicate 12 0) = zeros-drop (a + b) (moduli a b) ∙ ap (drop (a + b)) (zeros-moduli a b) in
      ap (λ (ks : List Modulus). times ks f (element ks y)) (sym (take-append-drop (a + b) (moduli a b)))
      ∙ ap (times (ms ++ ns) f) (element-behind ms ns y l)
      ∙ times-behind ms ns f (element ms y) (length-element ms y)
      ∙ ap (λ (r : List ℕ). times ms f (element ms y) ++ r) z

-- ---- from an index to the element: the digits so far, and the index in the block of the others
pub record Falling (a b : ℕ) (s : Sign) (goal k : ℕ) (c : Kind) (j : ℕ) (r : List ℕ) : Type 0 where
  pub down : j ≤ b
  pub twelve : length r ≡ 12
  pub inside : k < length (numbers c (level a b j))
  pub made : standing s (moduli a b) goal ≡ times (level a b j) (factor_of s) (element (level a b j) (get_or (numbers c (level a b j)) k 0)) ++ drop (a + j) r

drop-set : (r : List ℕ) (n v : ℕ) → n < length r → drop n (set r n v) ≡ v ∷ drop (suc n) r
drop-set r n v l = ap (drop n) (set_split r n v l) ∙ drop_at (take n r) (v ∷ drop (suc n) r) n (length-take-le n r (omega arith))

module _ (a b : ℕ) (h : a + b ≤ 12) (s : Sign) (goal : ℕ) where
  pub falling-start : goal < length (numbers (kind_of s) (moduli a b)) → Falling a b s goal goal (kind_of s) b (replicate 12 0)
  falling-start l =
      let z = numbers-all a b h s in
      let q : goal < length (numbers (kind_of s) (level a b b)) = rw z l in
      record {
        down = omega arith;
        twelve = refl;
        inside = q;
        made =
            ap (λ (xs : List ℕ). times (moduli a b) (factor_of s) (element (moduli a b) (get_or xs goal 0))) (sym z)
            ∙ behind a b h (factor_of s) (get_or (numbers (kind_of s) (level a b b)) goal 0) (number-below (kind_of s) (level a b b) goal q);
      }

  pub falling-step : (k : ℕ) (c : Kind) (j : ℕ) (r : List ℕ) (d v : ℕ) → Falling a b s goal k c j r → 0 < j
      → InBlock k (length (numbers c (level a b (j - 1)))) (ones c (level a b (j - 1))) d → v ≡ factor_of s * d % 4
      → Falling a b s goal (k - offset d (length (numbers c (level a b (j - 1)))) (ones c (level a b (j - 1)))) (kind_after c d) (j - 1) (set r (a + (j - 1)) v)
  falling-step k c zero r d v w l q x = absurd (omega arith)
  falling-step k c (suc j) r d v w l q x =
      let z : suc j - 1 ≡ j = omega arith in
      rw z (go (rw z at q))
    where
      go : InBlock k (length (numbers c (level a b j))) (ones c (level a b j)) d
          → Falling a b s goal (k - offset d (length (numbers c (level a b j))) (ones c (level a b j))) (kind_after c d) j (set r (a + j) v)
      go q =
          let ms = level a b j in
          let f = factor_of s in
          let jb : j < b = omega (arith, w.down) in
          let i = k - offset d (length (numbers c ms)) (ones c ms) in
          let sum : offset d (length (numbers c ms)) (ones c ms) + i ≡ k = omega (arith, q.begins) in
          let t = block-fits a b h c j k d jb w.inside q in
          let len : a + j < length r = omega (arith, w.twelve, w.down) in
          let e : a + suc j ≡ suc (a + j) = omega arith in
          let x0 = element ms (get_or (numbers (kind_after c d) ms) i 0) in
          let made : standing s (moduli a b) goal ≡ times ms f x0 ++ drop (a + j) (set r (a + j) v) =
          w.made
          ∙ ap₂ {C = List ℕ} ◌++◌
          (ap (λ (m : ℕ). times (level a b (suc j)) f (element (level a b (suc j)) (get_or (numbers c (level a b (suc j))) m 0))) (sym sum)
          ∙ ap (times (level a b (suc j)) f) (element-off a b h c j d i jb q.small t.0 t.1)
          ∙ ap (λ (ns : List Modulus). times ns f (x0 ++ (d ∷ []))) (level-next a b j h jb)
          ∙ times_snoc ms four f x0 d (length-element ms (get_or (numbers (kind_after c d) ms) i 0))
          ∙ ap {B = List ℕ} (λ (m : ℕ). times ms f x0 ++ (m ∷ [])) (sym x))
          (ap (λ (m : ℕ). drop m r) e)
          ∙ append_assoc (times ms f x0) (v ∷ []) (drop (suc (a + j)) r)
          ∙ ap {B = List ℕ} (λ (m : List ℕ). times ms f x0 ++ m) (sym (drop-set r (a + j) v len)) in
          record { down = omega arith; twelve = length-set r (a + j) v ∙ w.twelve; inside = t.1; made = made }

  pub falling-end : (k : ℕ) (c : Kind) (j : ℕ) (r : List ℕ) → Falling a b s goal k c j r → j ≡ 0 → standing s (moduli a b) goal ≡ element (level a 0 0) k ++ drop a r
  falling-end k c zero r w l =
      let q = numbers-none a b h c k w.inside in
      let z : a + 0 ≡ a = omega arith in
      w.made
      ∙ ap₂ {C = List ℕ} ◌++◌
      (ap (λ (x : ℕ). times (level a b 0) (factor_of s) (element (level a b 0) x)) q.1
      ∙ odd-times a b h s k
      ∙ ap (λ (ms : List Modulus). element ms k) (level-none a b ∙ sym (level-none a 0)))
      (ap (λ (m : ℕ). drop m r) z)
  falling-end k c (suc j) r w l = absurd (omega arith)

pub factor-small : (s : Sign) (d : ℕ) → d < 4 → factor_of s * d < 256
factor-small Zero d l = omega arith
factor-small One d l = omega arith
factor-small Three d l = omega arith

-- ---- the binary digits, written before the others
pub record LowBits (a k : ℕ) (x r : List ℕ) (left i : ℕ) : Type 0 where
  pub up : i ≤ a
  pub front : Left a 0 k r left i
  pub back : drop i r ≡ drop i x

pub bits-step : (a k : ℕ) (x r : List ℕ) (left i : ℕ) → a ≤ 12 → LowBits a k x r left i → i < a → LowBits a k x (set r i (left % 2)) (left / 2) (i + 1)
bits-step a k x r left i h w l =
    record {
      up = omega arith;
      front = left_step a 0 k r left i two (moduli-two a 0 i (omega arith) l) (omega arith) w.front;
      back = drop-set-lt (i + 1) r i (left % 2) (omega arith) ∙ sym (drop-drop 1 i r) ∙ ap (drop 1) w.back ∙ drop-drop 1 i x;
    }

pub take-element : (n : ℕ) (ms : List Modulus) (k : ℕ) → take n (element ms k) ≡ element (take n ms) k
unfolding element
take-element zero ms k = refl
take-element (suc n) [] k = refl
take-element (suc n) (m ∷ ms) k = ap {B = List ℕ} (λ (r : List ℕ). k % radix m ∷ r) (take-element n ms (k / radix m))

pub bits-end : (a k : ℕ) (x r : List ℕ) (left i : ℕ) → LowBits a k x r left i → a ≤ i → r ≡ element (level a 0 0) k ++ drop a x
bits-end a k x r left i w l =
    let z : i ≡ a = omega (arith, w.up) in
    let y : i ≡ a + 0 = omega arith in
    sym (take-append-drop i r)
    ∙ ap₂ {C = List ℕ} ◌++◌
    (w.front.0.2 ∙ take-element i (moduli a 0) k ∙ ap (λ (n : ℕ). element (take n (moduli a 0)) k) y)
    (w.back ∙ ap (λ (n : ℕ). drop n x) z)
