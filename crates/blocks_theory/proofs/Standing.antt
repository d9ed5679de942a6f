-- The parts of the message, and the numbers of a sign, by index: an index without the zero and the units that stand before it. Assumes
-- nothing.
use mathlib.Core.Path.{◌≡◌, refl, sym, ap, ap₂, subst, ◌∙◌}
use mathlib.Core.Bool.{Bool, true, false, not}
use mathlib.Core.List.{List, [], ◌∷◌, ◌++◌, map, append_assoc, append-nil}
use Prim.Native.Nat.{ℕ, zero, suc, ◌+◌, ◌-◌, ◌*◌, ◌/◌, ◌%◌, ◌^◌, ◌<◌, ◌≤◌}
use native.Mathlib.Decide.{dec_lt}
use native.Mathlib.Nat.{pow-succ'}
use native.Mathlib.Omega.{arith}
use borrow.Author.Tests.{eqb-true}
use lib.ListN.{length, get_or, length-append, get_or-append, get_or-map}
use lib.Pow.{pow_mono}
use lib.Seq.{get_or-append-add, get_or_at}
use Rattle.group_theory.specs.Group.{Modulus, moduli, zeros, negative, element, size}
use Rattle.group_theory.proofs.Laws.{valid-element, times-one, times-three}
use Rattle.group_theory.proofs.Numbers.{element-zero, size-pos}
use Rattle.layout_theory.specs.Layout.{from, singles, pairs, element_at}
use Rattle.layout_theory.proofs.Lists.{from-append, length_from}
use Rattle.layout_theory.proofs.Index.{at-single, at_pair}
use Rattle.blocks_theory.specs.Blocks as blocks
use Rattle.blocks_theory.specs.Blocks.{select, sign_at, in_plus, in_even, skips, others, level, plus_to, even_to}
use Rattle.blocks_theory.specs.Indices.{digit_of, kind_of, numbers, standing, Past}
use Rattle.blocks_theory.specs.declared.Sign.{Sign}
use Rattle.blocks_theory.specs.declared.Sign.TheVariants.{Zero, One, Three}
use Rattle.blocks_theory.proofs.Blocks.{select_yes, select_no, select-append}
use Rattle.blocks_theory.proofs.Levels.{size-next, plus_none, all_left}
use Rattle.blocks_theory.proofs.Descents.{get_or-from}
use Rattle.blocks_theory.proofs.Members.{pairs-members, singles-members, plus-all, even-all, sign-level}
use Rattle.blocks_theory.proofs.Splits.{unit-four, no-unit-four, no-unit-two, tail, plus-split, pair-counts, plus-rises, size-twos-of, low-split, pow_pos, pow-rises, unit-low, even-unit, high, even-split, even_power, message-counts, size_low, size-rises}

-- a second test leaves a run as it is, where what the first one takes passes it
run-left : (p q : ℕ → Bool) (x k : ℕ) → ((y : ℕ) → x ≤ y → y < x + k → q y ≡ true → p y ≡ true) → select p (select q (from x k)) ≡ select q (from x k)
unfolding select from
run-left p q x zero h = refl
run-left p q x (suc k) h = go (q x) refl (run-left p q (suc x) k (λ y l m. h y (omega arith) (omega arith)))
  where
    go : (b : Bool) → q x ≡ b → select p (select q (from (suc x) k)) ≡ select q (from (suc x) k) → select p (select q (x ∷ from (suc x) k)) ≡ select q (x ∷ from (suc x) k)
    go true e i =
        let s = select_yes q x (from (suc x) k) e in
        ap (select p) s ∙ select_yes p x (select q (from (suc x) k)) (h x (omega arith) (omega arith) e) ∙ ap {B = List ℕ} (λ (r : List ℕ). x ∷ r) i ∙ sym s
    go false e i = let s = select_no q x (from (suc x) k) e in ap (select p) s ∙ i ∙ sym s

-- an element at an index of a part
at-member : (ms : List Modulus) (xs : List ℕ) (i : ℕ) → get_or (map (element ms) xs) i (zeros ms) ≡ element ms (get_or xs i 0)
at-member ms xs i = ap (λ (d : List ℕ). get_or (map (element ms) xs) i d) (sym (element-zero ms)) ∙ get_or-map (element ms) xs i 0

module _ (a b : ℕ) (h : a + b ≤ 12) where
  abbrev free : List ℕ → List ℕ
  free xs = select (others (moduli a b)) xs

  -- one unit less, and what follows it
  free-unit : (xs : List ℕ) (x : ℕ) (ys : List ℕ) → skips (moduli a b) x ≡ true → free ys ≡ ys → free (xs ++ x ∷ ys) ≡ free xs ++ ys
  free-unit xs x ys u e =
      select-append (others (moduli a b)) xs (x ∷ ys)
      ∙ ap (λ (r : List ℕ). free xs ++ r) (select_no (others (moduli a b)) x ys (ap not u) ∙ e)

  -- ---- sign 1
  free-tail : (j : ℕ) → j < b → free (tail a b h j) ≡ tail a b h j
  unfolding tail
  free-tail j k =
      let n = size (level a b j) in
      let z = size-next a b h j k in
      let p = size-pos (level a b j) in
      run-left (others (moduli a b)) (in_plus (level a b (suc j))) (suc n) (n * 3 - 1) (λ y l m e. ap not (no-unit-four a b h j y k (omega arith) (omega arith)))

  free-next : (j : ℕ) → j < b → free (blocks.plus (level a b (suc j))) ≡ free (blocks.plus (level a b j)) ++ tail a b h j
  free-next j k =
      ap free (plus-split a b h j k) ∙ free-unit (blocks.plus (level a b j)) (size (level a b j)) (tail a b h j) (unit-four a b h j k) (free-tail j k)

  free-plus : (j : ℕ) → j ≤ b → length (free (blocks.plus (level a b j))) + j ≡ plus_to a b j
  unfolding select
  free-plus zero k = let e = plus_none a b in rw e refl
  free-plus (suc j) k =
      let i = free-plus j (omega arith) in
      let c = pair-counts a b h j k in
      let f = ap length (free-next j k) ∙ length-append (free (blocks.plus (level a b j))) (tail a b h j) in
      omega arith

  -- a level starts with the numbers of those below it
  above : (j i : ℕ) → j + i ≤ b → (rest : List ℕ) × (blocks.plus (level a b (j + i)) ≡ blocks.plus (level a b j) ++ rest)
  above j zero l = let e : j + 0 ≡ j = omega arith in ([], rw e (sym (append-nil (blocks.plus (level a b j)))))
  above j (suc i) l =
      let e : j + suc i ≡ suc (j + i) = omega arith in
      let u = above j i (omega arith) in (
        u.0 ++ size (level a b (j + i)) ∷ tail a b h (j + i),
        rw e (plus-split a b h (j + i) (omega arith)
            ∙ ap (λ (r : List ℕ). r ++ size (level a b (j + i)) ∷ tail a b h (j + i)) u.1
            ∙ append_assoc (blocks.plus (level a b j)) u.0 (size (level a b (j + i)) ∷ tail a b h (j + i))),
      )

  -- the numbers of all components start with those of a level
  plus-first : (j : ℕ) → j ≤ b → (rest : List ℕ) × (blocks.plus (moduli a b) ≡ blocks.plus (level a b j) ++ rest)
  plus-first j l =
      let e : j + (b - j) ≡ b = omega arith in
      let u = above j (b - j) (omega arith) in
      (u.0, sym (plus-all a b) ∙ ap (λ (i : ℕ). blocks.plus (level a b i)) (sym e) ∙ u.1)

  -- the next unit stands behind an index, and behind the last one the numbers end
  next-unit : (c k : ℕ) → Past One a b c k → k < plus_to a b b → k < plus_to a b c
  next-unit c k s l = go (dec_lt c b)
    where
      go : Dec (c < b) → k < plus_to a b c
      go (yes y) = s.next y
      go (no n) = let e : b ≡ c = omega (arith, s.most) in subst (λ (i : ℕ). k < plus_to a b i) e l

  -- index k of the numbers of sign 1 is index k − c of the pairs, where c units stand before it
  pub pair-at : (c k : ℕ) → Past One a b c k → k < plus_to a b b
      → (k - c < length (pairs (moduli a b))) × (get_or (pairs (moduli a b)) (k - c) (zeros (moduli a b)) ≡ element (moduli a b) (get_or (blocks.plus (moduli a b)) k 0))
  pair-at zero k s l = let z : plus_to a b 0 ≡ 0 = ap length (plus_none a b) in absurd (omega (arith, next-unit 0 k s l))
  pair-at (suc j) k s l =
      let ms = moduli a b in
      let jb : j < b = omega (arith, s.most) in
      let lo : plus_to a b j < k = s.last j refl in
      let hi : k < plus_to a b (suc j) = next-unit (suc j) k s l in
      let m = k - suc (plus_to a b j) in
      let xs = blocks.plus (level a b j) in
      let u = plus-first (suc j) jb in
      let f = free-plus j (omega arith) in
      let g = free-plus (suc j) jb in
      let k1 : k ≡ plus_to a b j + suc m = omega arith in
      let i1 : k - suc j ≡ length (free xs) + m = omega arith in
      let i2 : k - suc j < length (free (blocks.plus (level a b (suc j)))) = omega arith in
      let t : get_or (blocks.plus ms) k 0 ≡ get_or (tail a b h j) m 0 =
      ap (λ (r : List ℕ). get_or r k 0) u.1 ∙ get_or-append (blocks.plus (level a b (suc j))) u.0 0 k hi
      ∙ ap₂ (λ (r : List ℕ) (i : ℕ). get_or r i 0) (plus-split a b h j jb) k1 ∙ get_or-append-add xs (size (level a b j) ∷ tail a b h j) (suc m) 0 in
      let v : get_or (free (blocks.plus ms)) (k - suc j) 0 ≡ get_or (tail a b h j) m 0 =
      ap (λ (r : List ℕ). get_or (free r) (k - suc j) 0) u.1
      ∙ ap (λ (r : List ℕ). get_or r (k - suc j) 0) (select-append (others ms) (blocks.plus (level a b (suc j))) u.0)
      ∙ get_or-append (free (blocks.plus (level a b (suc j)))) (free u.0) 0 (k - suc j) i2
      ∙ ap₂ (λ (r : List ℕ) (i : ℕ). get_or r i 0) (free-next j jb) i1 ∙ get_or-append-add (free xs) (tail a b h j) m 0 in
      let e : suc j + (b - suc j) ≡ b = omega arith in
      let r : plus_to a b (suc j) + (b - suc j) ≤ plus_to a b b = subst (λ (i : ℕ). plus_to a b (suc j) + (b - suc j) ≤ plus_to a b i) e (plus-rises a b h (suc j) (b - suc j) (omega arith)) in
      let n = (message-counts a b h).1 in (
        omega arith,
        ap (λ xs. get_or xs (k - suc j) (zeros ms)) (sym (pairs-members ms)) ∙ at-member ms (free (blocks.plus ms)) (k - suc j) ∙ ap (element ms) (v ∙ sym t),
      )

  -- the unit of a quaternary component
  pub unit-at-plus : (j : ℕ) → j < b → get_or (blocks.plus (moduli a b)) (plus_to a b j) 0 ≡ size (level a b j)
  unit-at-plus j k =
      let u = plus-first (suc j) k in
      let c = pair-counts a b h j k in
      ap (λ (r : List ℕ). get_or r (plus_to a b j) 0) u.1
      ∙ get_or-append (blocks.plus (level a b (suc j))) u.0 0 (plus_to a b j) (omega arith)
      ∙ ap (λ (r : List ℕ). get_or r (plus_to a b j) 0) (plus-split a b h j k)
      ∙ get_or_at (blocks.plus (level a b j)) (size (level a b j)) (tail a b h j) 0 (plus_to a b j) refl

  -- ---- sign 0
  free-run : (i : ℕ) → i < a → free (from (suc (2 ^ i)) (2 ^ i - 1)) ≡ from (suc (2 ^ i)) (2 ^ i - 1)
  free-run i k =
      let s = size-twos-of a b h i (omega arith) in
      let t = size-twos-of a b h (suc i) k in
      let p = pow-succ' 2 i in
      let z = pow_pos a b h i in
      let e = all_left (λ y. true) (λ y. refl) (from (suc (2 ^ i)) (2 ^ i - 1)) in
      ap free (sym e)
      ∙ run-left (others (moduli a b)) (λ y. true) (suc (2 ^ i)) (2 ^ i - 1) (λ y l m q. ap not (no-unit-two a b h i y k (rw s (omega arith)) (rw t (omega arith))))
      ∙ e

  free-low-next : (i : ℕ) → i < a → free (from 0 (2 ^ suc i)) ≡ free (from 0 (2 ^ i)) ++ from (suc (2 ^ i)) (2 ^ i - 1)
  free-low-next i k =
      ap free (low-split a b h i (pow_pos a b h i)) ∙ free-unit (from 0 (2 ^ i)) (2 ^ i) (from (suc (2 ^ i)) (2 ^ i - 1)) (unit-low a b h i k) (free-run i k)

  free-low : (i : ℕ) → i ≤ a → length (free (from 0 (2 ^ i))) + i + 1 ≡ 2 ^ i
  unfolding from select
  free-low zero k = refl
  free-low (suc i) k =
      let r = free-low i (omega arith) in
      let p = pow_pos a b h i in
      let f = ap length (free-low-next i k) ∙ length-append (free (from 0 (2 ^ i))) (from (suc (2 ^ i)) (2 ^ i - 1)) in
      let l = length_from (2 ^ i - 1) (suc (2 ^ i)) in
      omega (arith, pow-succ' 2 i)

  free-high : free (high a b h) ≡ high a b h
  unfolding high
  free-high =
      let n = size (level a b b) in
      let s = size_low a b h in
      let r = size-rises a b h b (omega arith) in
      run-left (others (moduli a b)) (in_even (level a b b)) (2 ^ a) (n - 2 ^ a)
      (λ y l m e.
      let k : y < n = omega arith in
      ap not (even-unit a b h b y (omega arith) (omega arith) k (sign-level a b b y k ∙ eqb-true (sign_at (level a b b) y) 0 e)))

  pub even-all-split : blocks.even (moduli a b) ≡ from 0 (2 ^ a) ++ high a b h
  even-all-split = sym (even-all a b) ∙ even-split a b h

  free-even : free (blocks.even (moduli a b)) ≡ free (from 0 (2 ^ a)) ++ high a b h
  free-even =
      ap free even-all-split ∙ select-append (others (moduli a b)) (from 0 (2 ^ a)) (high a b h)
      ∙ ap (λ (r : List ℕ). free (from 0 (2 ^ a)) ++ r) free-high

  -- below 2^a every number is even
  low_first : (i k : ℕ) → i + k ≤ a → (rest : List ℕ) × (from 0 (2 ^ (i + k)) ≡ from 0 (2 ^ i) ++ rest)
  low_first i k l =
      let p = pow-rises a b h i k in
      let n : 2 ^ (i + k) ≡ 2 ^ i + (2 ^ (i + k) - 2 ^ i) = omega arith in
      (from (0 + 2 ^ i) (2 ^ (i + k) - 2 ^ i), ap (from 0) n ∙ from-append 0 (2 ^ i) (2 ^ (i + k) - 2 ^ i))

  -- below 2^a the index is the number, and is not left out between two units
  low-at : (i k : ℕ) → i < a → 2 ^ i < k → k < 2 ^ suc i → get_or (free (from 0 (2 ^ a)) ++ high a b h) (k - suc (suc i)) 0 ≡ k
  low-at i k l lo hi =
      let m = k - suc (2 ^ i) in
      let n = k - suc (suc i) in
      let z = free-low i (omega arith) in
      let y = free-low (suc i) l in
      let x = free-low a (omega arith) in
      let e : suc i + (a - suc i) ≡ a = omega arith in
      let r : 2 ^ suc i + (a - suc i) ≤ 2 ^ a = subst (λ (j : ℕ). 2 ^ suc i + (a - suc i) ≤ 2 ^ j) e (pow-rises a b h (suc i) (a - suc i)) in
      let u = low_first (suc i) (a - suc i) (omega arith) in
      let w : from 0 (2 ^ a) ≡ from 0 (2 ^ suc i) ++ u.0 = ap (λ (j : ℕ). from 0 (2 ^ j)) (sym e) ∙ u.1 in
      let p = pow-succ' 2 i in
      let q : n ≡ length (free (from 0 (2 ^ i))) + m = omega arith in
      let n1 : n < length (free (from 0 (2 ^ a))) = omega arith in
      let n2 : n < length (free (from 0 (2 ^ suc i))) = omega arith in
      get_or-append (free (from 0 (2 ^ a))) (high a b h) 0 n n1
      ∙ ap (λ (r : List ℕ). get_or (free r) n 0) w
      ∙ ap (λ (r : List ℕ). get_or r n 0) (select-append (others (moduli a b)) (from 0 (2 ^ suc i)) u.0)
      ∙ get_or-append (free (from 0 (2 ^ suc i))) (free u.0) 0 n n2
      ∙ ap₂ (λ (r : List ℕ) (j : ℕ). get_or r j 0) (free-low-next i l) q
      ∙ get_or-append-add (free (from 0 (2 ^ i))) (from (suc (2 ^ i)) (2 ^ i - 1)) m 0
      ∙ get_or-from (2 ^ i - 1) (suc (2 ^ i)) m (omega arith)
      ∙ omega arith

  -- zero and c units are at most k, where they stand before it
  pub enough : (c k : ℕ) → Past Zero a b c k → 0 < k → suc c ≤ k
  enough zero k s z = omega arith
  enough (suc i) k s z =
      let e : 0 + i ≡ i = omega arith in
      let r : 2 ^ 0 + i ≤ 2 ^ i = subst (λ (j : ℕ). 2 ^ 0 + i ≤ 2 ^ j) e (pow-rises a b h 0 i) in
      omega (arith, s.last i refl)

  pub rises : (c : ℕ) → c ≤ a → 2 ^ c + (a - c) ≤ 2 ^ a
  rises c l = let e : c + (a - c) ≡ a = omega arith in subst (λ (j : ℕ). 2 ^ c + (a - c) ≤ 2 ^ j) e (pow-rises a b h c (a - c))

  even-at : (c k : ℕ) → Past Zero a b c k → 0 < k → Dec (k < 2 ^ a) → get_or (free (from 0 (2 ^ a)) ++ high a b h) (k - suc c) 0 ≡ get_or (from 0 (2 ^ a) ++ high a b h) k 0
  even-at zero k s z (yes l) = absurd (none (dec_lt 0 a))
    where
      none : Dec (0 < a) → ⊥
      none (yes y) = omega (arith, s.next y)
      none (no n) = let e : a ≡ 0 = omega arith in let f : 2 ^ a ≡ 2 ^ 0 = ap (λ (j : ℕ). 2 ^ j) e in omega arith
  even-at (suc i) k s z (yes l) =
      let m = s.most in
      let n = length_from (2 ^ a) 0 in
      low-at i k (omega arith) (s.last i refl) (hi (dec_lt (suc i) a))
      ∙ sym (get_or-append (from 0 (2 ^ a)) (high a b h) 0 k (omega arith) ∙ get_or-from (2 ^ a) 0 k l ∙ omega arith)
    where
      hi : Dec (suc i < a) → k < 2 ^ suc i
      hi (yes y) = s.next y
      hi (no n) = let m = s.most in let e : a ≡ suc i = omega arith in subst (λ (j : ℕ). k < 2 ^ j) e l
  even-at c k s z (no l) =
      let e : c ≡ a = at_last (dec_lt c a) in
      let m = k - 2 ^ a in
      let n = length_from (2 ^ a) 0 in
      let x = free-low a (omega arith) in
      let q : k - suc c ≡ length (free (from 0 (2 ^ a))) + m = omega arith in
      let r : k ≡ length (from 0 (2 ^ a)) + m = omega arith in
      ap (λ (j : ℕ). get_or (free (from 0 (2 ^ a)) ++ high a b h) j 0) q ∙ get_or-append-add (free (from 0 (2 ^ a))) (high a b h) m 0
      ∙ sym (ap (λ (j : ℕ). get_or (from 0 (2 ^ a) ++ high a b h) j 0) r ∙ get_or-append-add (from 0 (2 ^ a)) (high a b h) m 0)
    where
      at_last : Dec (c < a) → c ≡ a
      at_last (yes y) = let r = rises c s.most in absurd (omega (arith, s.next y))
      at_last (no n) = omega (arith, s.most)

  -- index k of the numbers of sign 0 is index k − c − 1 of the singles, where zero and c units stand before it
  pub single-at : (c k : ℕ) → Past Zero a b c k → 0 < k → k < length (blocks.even (moduli a b))
      → (k - suc c < length (singles (moduli a b))) × (get_or (singles (moduli a b)) (k - suc c) (zeros (moduli a b)) ≡ element (moduli a b) (get_or (blocks.even (moduli a b)) k 0))
  single-at c k s z l =
      let ms = moduli a b in
      let m : length (blocks.even ms) ≡ even_to a b b = ap length (sym (even-all a b)) in
      let f : get_or (free (blocks.even ms)) (k - suc c) 0 ≡ get_or (blocks.even ms) k 0 =
      ap (λ (r : List ℕ). get_or r (k - suc c) 0) free-even ∙ even-at c k s z (dec_lt k (2 ^ a)) ∙ ap (λ (r : List ℕ). get_or r k 0) (sym even-all-split) in (
        few (dec_lt c a),
        ap (λ xs. get_or xs (k - suc c) (zeros ms)) (sym (singles-members ms)) ∙ at-member ms (free (blocks.even ms)) (k - suc c) ∙ ap (element ms) f,
      )
    where
      few : Dec (c < a) → k - suc c < length (singles (moduli a b))
      few (yes y) =
          let n = (message-counts a b h).0 in
          let r = rises c s.most in
          let t = pow-rises a b h a b in
          let e = even_power a b h b (omega arith) in
          let i = enough c k s z in
          omega (arith, s.next y)
      few (no y) =
          let n = (message-counts a b h).0 in
          let i = enough c k s z in
          let m : length (blocks.even (moduli a b)) ≡ even_to a b b = ap length (sym (even-all a b)) in
          omega (arith, s.most)

  -- ---- the places of the message
  pub length-plus : length (blocks.plus (moduli a b)) ≡ plus_to a b b
  length-plus = ap length (sym (plus-all a b))

  length-even : length (blocks.even (moduli a b)) ≡ even_to a b b
  length-even = ap length (sym (even-all a b))

  pub singles-small : length (singles (moduli a b)) < 2 ^ 24
  singles-small =
      let n = (message-counts a b h).0 in
      let e = even_power a b h b (omega arith) in
      let q : 2 ^ (a + b) ≤ 2 ^ 24 = pow_mono {i = a + b} {j = 24} (omega arith) in
      omega arith

  -- a single, by its index among the elements of sign 0
  pub single-element : (i k : ℕ) → i < length (singles (moduli a b)) → i + 1 ≤ k → Past Zero a b (k - (i + 1)) k
      → (k < length (blocks.even (moduli a b))) × (standing Zero (moduli a b) k ≡ element_at (moduli a b) (i + 1))
  single-element i k l m s =
      let ms = moduli a b in
      let n = (message-counts a b h).0 in
      let e = length-even in
      let t = s.most in
      let q : k < length (blocks.even ms) = omega arith in
      let c : k - suc (k - (i + 1)) ≡ i = omega arith in
      let z : i + 1 ≡ suc i = omega arith in (
        q,
        times-one ms (element ms (get_or (blocks.even ms) k 0)) (valid-element ms (get_or (blocks.even ms) k 0))
            ∙ sym (single-at (k - (i + 1)) k s (omega arith) q).1
            ∙ ap (λ (j : ℕ). get_or (singles ms) j (zeros ms)) c
            ∙ sym (ap (element_at ms) z ∙ at-single ms i l),
      )

  -- the two places of a pair, by its index among the elements of sign 1
  pub pair-element : (j k : ℕ) → j < length (pairs (moduli a b)) → j ≤ k → Past One a b (k - j) k
      → (k < length (blocks.plus (moduli a b)))
      × (standing Three (moduli a b) k ≡ element_at (moduli a b) (suc (length (singles (moduli a b)) + 2 * j)))
      × (standing One (moduli a b) k ≡ element_at (moduli a b) (suc (length (singles (moduli a b)) + suc (2 * j))))
  pair-element j k l m s =
      let ms = moduli a b in
      let c = k - j in
      let z = element ms (get_or (blocks.plus ms) k 0) in
      let t = s.most in
      let y = length-plus in
      let u = inside (dec_lt c b) in
      let q : k - c ≡ j = omega arith in
      let w : get_or (pairs ms) j (zeros ms) ≡ z = ap (λ (i : ℕ). get_or (pairs ms) i (zeros ms)) (sym q) ∙ (pair-at c k s u).1 in
      let p = at_pair ms j l in (
        omega arith,
        times-three ms z ∙ ap (negative ms) (sym w) ∙ sym p.0,
        times-one ms z (valid-element ms (get_or (blocks.plus ms) k 0)) ∙ sym w ∙ sym p.1,
      )
    where
      inside : Dec (k - j < b) → k < plus_to a b b
      inside (yes y) =
          let c = k - j in
          let e : c + (b - c) ≡ b = omega arith in
          let r : plus_to a b c + (b - c) ≤ plus_to a b b = subst (λ (i : ℕ). plus_to a b c + (b - c) ≤ plus_to a b i) e (plus-rises a b h c (b - c) (omega arith)) in
          omega (arith, s.next y)
      inside (no n) = let d = (message-counts a b h).1 in omega (arith, s.most)

  -- the one that the place's half asks
  pub pair-half : (i x k : ℕ) (f : Sign) → x ≡ length (singles (moduli a b)) → x ≤ i → i < x + 2 * length (pairs (moduli a b)) → (i - x) / 2 ≤ k
      → Past One a b (k - (i - x) / 2) k → digit_of f + 2 * ((i - x) % 2) ≡ 3
      → (k < length (numbers (kind_of f) (moduli a b))) × (standing f (moduli a b) k ≡ element_at (moduli a b) (i + 1))
  pair-half i x k f e l m o s g = go f g
    where
      p : (k < length (blocks.plus (moduli a b)))
          × (standing Three (moduli a b) k ≡ element_at (moduli a b) (suc (length (singles (moduli a b)) + 2 * ((i - x) / 2))))
          × (standing One (moduli a b) k ≡ element_at (moduli a b) (suc (length (singles (moduli a b)) + suc (2 * ((i - x) / 2)))))
      p = pair-element ((i - x) / 2) k (omega arith) o s

      go : (f : Sign) → digit_of f + 2 * ((i - x) % 2) ≡ 3 → (k < length (numbers (kind_of f) (moduli a b))) × (standing f (moduli a b) k ≡ element_at (moduli a b) (i + 1))
      go Zero q = absurd (omega arith)
      go One q = let n : suc (length (singles (moduli a b)) + suc (2 * ((i - x) / 2))) ≡ i + 1 = omega arith in (p.0, p.2 ∙ ap (element_at (moduli a b)) n)
      go Three q = let n : suc (length (singles (moduli a b)) + 2 * ((i - x) / 2)) ≡ i + 1 = omega arith in (p.0, p.1 ∙ ap (element_at (moduli a b)) n)
