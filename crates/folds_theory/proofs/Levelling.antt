-- For the loop of `levels`: what is left of the sum over the numbers of sign 1 at each level. Assumes nothing.
use mathlib.Core.Path.{◌≡◌, refl, sym, ap, ap₂, subst, ◌∙◌}
use mathlib.Core.List.{List, [], ◌∷◌, ◌++◌, append_assoc}
use Prim.Native.Nat.{ℕ, zero, suc, ◌+◌, ◌-◌, ◌*◌, ◌/◌, ◌%◌, ◌^◌, ◌<◌, ◌≤◌}
use native.Mathlib.Nat.{pow-succ', pow-le-pow_right}
use native.Mathlib.Decide.{dec_lt}
use native.Mathlib.Omega.{arith}
use lib.ListN.{length, take, drop, set, length-set, length-append}
use lib.Pow.{pow_mono}
use lib.Seq.{take_at, length-take-le, drop-cons, drop-set-lt, append_snoc, lt-length-set, get_or-set_same}
use Rattle.group_theory.specs.Group.{Modulus, moduli, sum, times, element, size}
use Rattle.group_theory.specs.Weights.{weigh_on, shifted, total}
use Rattle.group_theory.proofs.Unit.{size-in-use}
use Rattle.blocks_theory.specs.Blocks as blocks
use Rattle.blocks_theory.specs.Blocks.{level, even_to}
use Rattle.blocks_theory.proofs.Blocks.{next, plus-blocks, low-blocks}
use Rattle.blocks_theory.proofs.Levels.{below-plus, below-low, level-next, level-none, plus_none, size-next, even-next, level-counts, size-twos}
use Rattle.folds_theory.specs.Folds.{widest, room, Holds, twice, both, next_plus, plus_tops, next_low, low_tops, stride, Doubling, Halved}
use Rattle.folds_theory.proofs.Twice.{length-twice, below-twice, twice_two, twice-four, low-two}
use Rattle.folds_theory.proofs.Offs.{four-lengths, level-off, length-plus, length-low}
use Rattle.folds_theory.proofs.Halving.{last-two, stride-two}

-- weights beyond the numbers count for nothing
pub on-take : (ms : List Modulus) (xs v : List ℕ) (k : ℕ) → length xs ≤ k → weigh_on ms xs (take k v) ≡ weigh_on ms xs v
unfolding weigh_on
on-take ms [] v k h = refl
on-take ms (x ∷ xs) v zero h = absurd (omega arith)
on-take ms (x ∷ xs) [] (suc k) h = refl
on-take ms (x ∷ xs) (d ∷ v) (suc k) h = ap (sum ms (times ms d (element ms x))) (on-take ms xs v k (omega arith))

-- ---- how many numbers there are
module _ (a b : ℕ) (few : a + 2 * b ≤ widest) where
  pub twelve : a + b ≤ 12
  twelve = omega arith

  pub size-level : (j : ℕ) → j ≤ b → size (level a b j) ≡ 2 ^ (a + 2 * j)
  size-level zero h =
      let e : a + 2 * 0 ≡ a = omega arith in
      ap size (level-none a b) ∙ size-twos a a (omega arith) (omega arith) ∙ ap (λ (k : ℕ). 2 ^ k) (sym e)
  size-level (suc j) h =
      let e : a + 2 * suc j ≡ suc (suc (a + 2 * j)) = omega arith in
      let i = size-level j (omega arith) in
      let n = size-next a b twelve j (omega arith) in
      let p = pow-succ' 2 (a + 2 * j) in
      let q = pow-succ' 2 (suc (a + 2 * j)) in
      let t : size (level a b (suc j)) ≡ 2 ^ suc (suc (a + 2 * j)) = omega arith in
      t ∙ ap (λ (k : ℕ). 2 ^ k) (sym e)

  -- a level has no more numbers than the whole
  pub size_fits : (j : ℕ) → j ≤ b → size (level a b j) ≤ size (moduli a b)
  size_fits j h = rw (sym (size-in-use a b), size-level j h, size-level b (omega arith)) (pow-le-pow_right (omega arith) (omega arith))

  -- an array of 2^t weights has one for each element of the codes up to t
  size-within : (t : ℕ) → a + 2 * b ≤ t → size (moduli a b) ≤ 2 ^ t
  size-within t h = rw (sym (size-in-use a b), size-level b (omega arith)) (pow_mono {i = a + 2 * b} {j = t} h)

  -- the code's p and m
  pub blocks_at : (j : ℕ) → j ≤ b → (n e : ℕ) → n ≡ size (level a b j) → e ≡ even_to a b j
      → (length (twice (blocks.plus (level a b j))) ≡ n - e) × (length (twice (blocks.low (level a b j))) ≡ n + e) × (e ≤ n)
  blocks_at j h n e x y =
      let c = level-counts a b twelve j h in
      let c0 = c.0 in
      let c1 = c.1 in
      let l = length-twice (blocks.plus (level a b j)) in
      let m = length-twice (blocks.low (level a b j)) in
      (omega arith, omega arith, omega arith)

  pub length_both : (j : ℕ) → j ≤ b → length (both a b j) ≡ 2 * size (level a b j)
  length_both j h =
      let c = level-counts a b twelve j h in
      let c0 = c.0 in
      let c1 = c.1 in
      let l = length-twice (blocks.plus (level a b j)) in
      let m = length-twice (blocks.low (level a b j)) in
      length-append (twice (blocks.plus (level a b j))) (twice (blocks.low (level a b j))) ∙ omega arith

pub holds-within : (t a b k : ℕ) → t ≤ widest → a + 2 * b ≤ t → 2 ^ t ≤ k → k ≤ room → Holds a b k
holds-within t a b k l h e m =
    let few : a + 2 * b ≤ widest = omega arith in
    let s = size-within a b few t h in
    record { few = few; enough = omega arith; most = m }

-- an array that holds a weight for each element has 2^(a + 2 b), and one with so many holds them
pub holds-power : (a b k : ℕ) → Holds a b k → 2 ^ (a + 2 * b) ≤ k
holds-power a b k h =
    let few = h.few in
    let enough = h.enough in
    let e : size (moduli a b) ≡ 2 ^ (a + 2 * b) = sym (size-in-use a b) ∙ size-level a b few b (omega arith) in
    omega arith

pub holds-room : (a b k : ℕ) → 2 ^ (a + 2 * b) ≤ k → k ≤ room → Holds a b k
holds-room a b k e m = holds-within (a + 2 * b) a b k (go (dec_lt widest (a + 2 * b))) (omega arith) e m
  where
    go : Dec (widest < a + 2 * b) → a + 2 * b ≤ widest
    go (yes l) = let p = pow_mono {i = suc widest} {j = a + 2 * b} l in absurd (omega arith)
    go (no l) = omega arith

-- ---- the blocks of one level, each number twice
module _ (ms : List Modulus) where
  pub plus-twice : twice (blocks.plus (next ms))
      ≡ shifted (size ms * 0) (twice (blocks.plus ms)) ++ (shifted (size ms * 1) (twice (blocks.low ms)) ++ (shifted (size ms * 2) (twice (blocks.plus ms)) ++ shifted (size ms * 3) (twice (blocks.plus ms))))
  plus-twice =
      ap twice (plus-blocks ms)
      ∙ twice-four (size ms * 0) (size ms * 1) (size ms * 2) (size ms * 3) (blocks.plus ms) (blocks.low ms) (blocks.plus ms) (blocks.plus ms)

  pub low_twice : twice (blocks.low (next ms))
      ≡ shifted (size ms * 0) (twice (blocks.low ms)) ++ (shifted (size ms * 1) (twice (blocks.low ms)) ++ (shifted (size ms * 2) (twice (blocks.low ms)) ++ shifted (size ms * 3) (twice (blocks.plus ms))))
  low_twice =
      ap twice (low-blocks ms)
      ∙ twice-four (size ms * 0) (size ms * 1) (size ms * 2) (size ms * 3) (blocks.low ms) (blocks.low ms) (blocks.low ms) (blocks.plus ms)

-- a component written in front of those that are there
pub drop-written : (r : List ℕ) (i d : ℕ) → i < length r → drop i (set r i d) ≡ d ∷ drop (suc i) r
drop-written r i d h =
    drop-cons (set r i d) i 0 (lt-length-set r i d h)
    ∙ ap₂ {C = List ℕ} ◌∷◌ (get_or-set_same r i d 0 h) (drop-set-lt (suc i) r i d (omega arith))

-- ---- the loop
pub record Levelling (a b top : ℕ) (v₀ x v r : List ℕ) (n e j : ℕ) : Type 0 where
  pub holds : Holds a b (length v₀)
  pub under : top < b
  pub within : j ≤ top
  pub full : length r ≡ 12
  pub count : n ≡ size (level a b j)
  pub evens : e ≡ even_to a b j
  pub long : length v ≡ length v₀
  pub left : weigh_on (level a b j) (both a b j) v ++ drop (a + j) r ≡ weigh_on (level a b top) (both a b top) v₀ ++ drop (a + top) x

pub levelling-start : (a b top : ℕ) (v x : List ℕ) (n e : ℕ)
    → Holds a b (length v) × (top < b) × (n ≡ size (level a b top)) × (e ≡ even_to a b top) → length x ≡ 12
    → Levelling a b top v x v x n e top
levelling-start a b top v x n e h l =
    record { holds = h.0; under = h.1; within = omega arith; full = l; count = h.2; evens = h.3; long = refl; left = refl }

-- what one level asks
pub record Round (a b j n e : ℕ) : Type 0 where
  pub below : j < b
  pub count : n / 4 ≡ size (level a b j)
  pub evens : e / 2 ≡ even_to a b j
  pub fewer : e / 2 ≤ n / 4
  pub whole : n ≡ 4 * (n / 4)
  pub fits : 4 * (n / 4 - e / 2) + 4 * (n / 4 + e / 2) ≤ size (moduli a b)
  pub some : n ≤ size (moduli a b)

pub round : (a b top : ℕ) (v₀ x v r : List ℕ) (n e j : ℕ) → Levelling a b top v₀ x v r n e j → 0 < j → Round a b (j - 1) n e
round a b top v₀ x v r n e zero f h = absurd (omega arith)
round a b top v₀ x v r n e (suc j) f h =
    let few = f.holds.few in
    let under = f.under in
    let wi = f.within in
    let co = f.count in
    let ev = f.evens in
    let z : suc j - 1 ≡ j = omega arith in
    let s = size-next a b (twelve a b few) j (omega arith) in
    let t = even-next a b (twelve a b few) j (omega arith) in
    let q = size_fits a b few (suc (suc j)) (omega arith) in
    let u = size-next a b (twelve a b few) (suc j) (omega arith) in
    let c1 : n / 4 ≡ size (level a b j) = omega arith in
    let c2 : e / 2 ≡ even_to a b j = omega arith in
    let c = (blocks_at a b few j (omega arith) (n / 4) (e / 2) c1 c2).2 in
    rw z
    (record {
      below = omega arith;
      count = c1;
      evens = c2;
      fewer = c;
      whole = omega arith;
      fits = omega arith;
      some = omega arith;
    })

pub levelling-step : (a b top : ℕ) (v₀ x v r : List ℕ) (n e j : ℕ) → Levelling a b top v₀ x v r n e j → 0 < j → (c : ℕ) (w : List ℕ)
    → (c ≡ (total (plus_tops (n / 4 - e / 2) (n / 4 + e / 2) v) + total (low_tops (n / 4 - e / 2) (n / 4 + e / 2) v)) % 4)
    × (w ≡ next_plus (n / 4 - e / 2) (n / 4 + e / 2) v ++ (next_low (n / 4 - e / 2) (n / 4 + e / 2) v ++ drop (n / 4 - e / 2 + (n / 4 + e / 2)) v))
    → length w ≡ length v → Levelling a b top v₀ x w (set r (a + (j - 1)) c) (n / 4) (e / 2) (j - 1)
levelling-step a b top v₀ x v r n e zero f h c w g l = absurd (omega arith)
levelling-step a b top v₀ x v r n e (suc j) f h c w g l =
    let few = f.holds.few in
    let en = f.holds.enough in
    let under = f.under in
    let wi = f.within in
    let lo = f.long in
    let fu = f.full in
    let z : suc j - 1 ≡ j = omega arith in
    let R : Round a b j n e = subst (λ (i : ℕ). Round a b i n e) z (round a b top v₀ x v r n e (suc j) f h) in
    let i = R.fits in
    let B = blocks_at a b few j (omega arith) (n / 4) (e / 2) R.count R.evens in
    let p = n / 4 - e / 2 in
    let m = n / 4 + e / 2 in
    let ms = level a b j in
    let X = twice (blocks.plus ms) in
    let Y = twice (blocks.low ms) in
    let v4 : 4 * p + 4 * m ≤ length v = omega arith in
    let L = level-next a b j (twelve a b few) R.below in
    let off = level-off ms X Y (twice (blocks.plus (next ms))) (twice (blocks.low (next ms))) p m B.0 B.1
    (below-twice (size ms) (blocks.plus ms) (below-plus ms)) (below-twice (size ms) (blocks.low ms) (below-low ms)) (plus-twice ms) (low_twice ms) v v4 in
    let lp : length (next_plus p m v) ≡ p = length-plus p m v v4 in
    let ll : length (next_low p m v) ≡ m = length-low p m v v4 in
    let lf : length (next_plus p m v ++ next_low p m v) ≡ p + m = length-append (next_plus p m v) (next_low p m v) ∙ ap₂ ◌+◌ lp ll in
    let tw : take (p + m) w ≡ next_plus p m v ++ next_low p m v =
    ap (take (p + m)) (g.1 ∙ sym (append_assoc (next_plus p m v) (next_low p m v) (drop (p + m) v)))
    ∙ take_at (next_plus p m v ++ next_low p m v) (drop (p + m) v) (p + m) lf in
    let D : drop (a + j) (set r (a + j) c) ≡ c ∷ drop (suc (a + j)) r = drop-written r (a + j) c (omega arith) in
    let lb : length (X ++ Y) ≡ p + m = length-append X Y ∙ ap₂ ◌+◌ B.0 B.1 in
    let sa : a + suc j ≡ suc (a + j) = omega arith in
    let lb4 : length (twice (blocks.plus (next ms)) ++ twice (blocks.low (next ms))) ≤ 4 * p + 4 * m = whole_length ms p m B.0 B.1 in
    rw z
    (record {
      holds = f.holds;
      under = under;
      within = omega arith;
      full = length-set r (a + j) c ∙ fu;
      count = R.count;
      evens = R.evens;
      long = l ∙ lo;
      left = ap₂ (λ (y t : List ℕ). y ++ t) (sym (on-take ms (X ++ Y) w (p + m) (omega arith)) ∙ ap (weigh_on ms (X ++ Y)) tw) D
          ∙ ap (λ (t : ℕ). weigh_on ms (X ++ Y) (next_plus p m v ++ next_low p m v) ++ t ∷ drop (suc (a + j)) r) g.0
          ∙ sym (append_snoc (weigh_on ms (X ++ Y) (next_plus p m v ++ next_low p m v)) ((total (plus_tops p m v) + total (low_tops p m v)) % 4) (drop (suc (a + j)) r))
          ∙ ap (λ (y : List ℕ). y ++ drop (suc (a + j)) r) (sym off ∙ on-take (next ms) (twice (blocks.plus (next ms)) ++ twice (blocks.low (next ms))) v (4 * p + 4 * m) lb4)
          ∙ ap₂ (λ (y : List Modulus) (t : ℕ). weigh_on y (twice (blocks.plus y) ++ twice (blocks.low y)) v ++ drop t r) (sym L) (sym sa)
          ∙ f.left;
    })
  where
    whole_length : (ms : List Modulus) (p m : ℕ) → length (twice (blocks.plus ms)) ≡ p → length (twice (blocks.low ms)) ≡ m
        → length (twice (blocks.plus (next ms)) ++ twice (blocks.low (next ms))) ≤ 4 * p + 4 * m
    whole_length ms p m x y =
        let e = ap length (plus-twice ms) ∙ four-lengths (size ms) (twice (blocks.plus ms)) (twice (blocks.low ms)) (twice (blocks.plus ms)) (twice (blocks.plus ms)) in
        let g = ap length (low_twice ms) ∙ four-lengths (size ms) (twice (blocks.low ms)) (twice (blocks.low ms)) (twice (blocks.low ms)) (twice (blocks.plus ms)) in
        let h = length-append (twice (blocks.plus (next ms))) (twice (blocks.low (next ms))) in
        omega arith

-- ---- the end: numbers without quaternary components
low-doubles : (a b : ℕ) → a + b ≤ 12 → Doubling a b a (λ i. twice (blocks.low (take i (moduli a b))))
low-doubles a b h =
    record {
      below = λ i k. below-twice (size (take i (moduli a b))) (blocks.low (take i (moduli a b))) (below-low (take i (moduli a b)));
      grows = λ i k. grow i k;
    }
  where
    grow : (i : ℕ) → i < a → twice (blocks.low (take (suc i) (moduli a b)))
        ≡ shifted (size (take i (moduli a b)) * 0) (twice (blocks.low (take i (moduli a b)))) ++ shifted (size (take i (moduli a b)) * stride a i) (twice (blocks.low (take i (moduli a b))))
    grow i k =
        let ms = take i (moduli a b) in
        ap (λ (y : List Modulus). twice (blocks.low y)) (last-two a b i h (omega arith) k)
        ∙ ap twice (low-two ms)
        ∙ twice_two (size ms * 0) (size ms * 1) (blocks.low ms) (blocks.low ms)
        ∙ ap (λ (y : ℕ). shifted (size ms * 0) (twice (blocks.low ms)) ++ shifted (size ms * y) (twice (blocks.low ms))) (sym (stride-two a i k))

pub levelling-asks : (a b top : ℕ) (v₀ x v r : List ℕ) (n e j : ℕ) → Levelling a b top v₀ x v r n e j → j ≤ 0
    → (a + b ≤ 12) × (a ≤ a + b) × (2 * n ≤ length v)
levelling-asks a b top v₀ x v r n e (suc j) f h = absurd (omega arith)
levelling-asks a b top v₀ x v r n e zero f h =
    let few = f.holds.few in
    let en = f.holds.enough in
    let under = f.under in
    let co = f.count in
    let lo = f.long in
    let s = size-next a b (twelve a b few) 0 (omega arith) in
    let q = size_fits a b few 1 (omega arith) in
    (twelve a b few, omega arith, omega arith)

pub levelling-done : (a b top : ℕ) (v₀ x v r : List ℕ) (n e j : ℕ) → Levelling a b top v₀ x v r n e j → j ≤ 0 → (s y : List ℕ) → s ≡ take (2 * n) v
    → Halved a b a s r y → y ≡ weigh_on (level a b top) (both a b top) v₀ ++ drop (a + top) x
unfolding twice
levelling-done a b top v₀ x v r n e (suc j) f h s y es g = absurd (omega arith)
levelling-done a b top v₀ x v r n e zero f h s y es g =
    let few = f.holds.few in
    let co = f.count in
    let z : a + 0 ≡ a = omega arith in
    let L : ℕ → List ℕ = λ i. twice (blocks.low (take i (moduli a b))) in
    let ms = level a b 0 in
    let nothing : both a b 0 ≡ twice (blocks.low ms) = ap (λ (t : List ℕ). twice t ++ twice (blocks.low ms)) (plus_none a b) ∙ none (twice (blocks.low ms)) in
    let l0 : length (L (a + 0)) ≡ 2 * n = sym (ap length nothing) ∙ length_both a b few 0 (omega arith) ∙ ap (λ (t : ℕ). 2 * t) (sym co) in
    let l1 : length (L a) ≡ 2 * n = subst (λ (t : ℕ). length (L t) ≡ 2 * n) z l0 in
    let ls : length s ≡ 2 * n = ap length es ∙ length-take-le (2 * n) v (levelling-asks a b top v₀ x v r n e zero f h).2 in
    g L (low-doubles a b (twelve a b few)) (l1 ∙ sym ls)
    ∙ ap₂ (λ (t : ℕ) (u : List ℕ). weigh_on (take t (moduli a b)) (L t) u ++ drop t r) (sym z) es
    ∙ ap (λ (t : List ℕ). t ++ drop (a + 0) r) (on-take ms (L (a + 0)) v (2 * n) (omega arith) ∙ ap (λ (t : List ℕ). weigh_on ms t v) (sym nothing))
    ∙ f.left
  where
    none : (t : List ℕ) → twice [] ++ t ≡ t
    none t = refl
