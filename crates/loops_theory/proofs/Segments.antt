-- Where the units stand among the numbers of a sign: the weights of a message in segments between them. Assumes nothing.
use mathlib.Core.Path.{◌≡◌, refl, sym, ap, ap₂, ◌∙◌}
use mathlib.Core.Bool.{Bool, true, false, not}
use mathlib.Core.List.{List, [], ◌∷◌, ◌++◌, map}
use Prim.Native.Nat.{ℕ, zero, suc, ◌+◌, ◌-◌, ◌*◌, ◌^◌, ◌<◌, ◌≤◌}
use native.Mathlib.Nat.{pow-succ'}
use native.Mathlib.Omega.{arith}
use borrow.Author.Tests.{eqb-true}
use lib.ListN.{length, take, drop, length-append}
use Rattle.group_theory.specs.Group.{moduli, sum, size}
use Rattle.group_theory.specs.Weights.{weigh_on}
use Rattle.group_theory.proofs.Laws.{sum_comm}
use Rattle.group_theory.proofs.Weights.{on-append}
use Rattle.group_theory.proofs.Numbers.{size-pos}
use Rattle.layout_theory.specs.Layout.{single, pair, from, singles, pairs, message, places}
use Rattle.layout_theory.proofs.Lists.{length_from}
use Rattle.layout_theory.proofs.Cover.{places-singles}
use Rattle.blocks_theory.specs.Blocks as blocks
use Rattle.blocks_theory.specs.Blocks.{select, sign_at, in_plus, in_even, skips, others, level, plus_to, even_to}
use Rattle.blocks_theory.proofs.Blocks.{select_no, select-append}
use Rattle.blocks_theory.proofs.Levels.{all_left, size-next, plus_none}
use Rattle.blocks_theory.proofs.Members.{pairs-members, singles-members, plus-all, even-all, sign-level}
use Rattle.blocks_theory.proofs.Splits.{unit-four, no-unit-four, no-unit-two, tail, plus-split, pair-counts, size-twos-of, low-split, pow_pos, unit-low, even-unit, high, size_low, size-rises, even-split}
use Rattle.folds_theory.specs.Folds.{Holds, twice, weight_order, weighted_for}
use Rattle.folds_theory.proofs.Levelling.{on-take}
use Rattle.folds_theory.proofs.Wholes.{with-room, order-fits}
use Rattle.words_theory.specs.Syndrome.{syndrome_over}
use Rattle.words_theory.proofs.Syndromes.{syndrome-parts}
use Rattle.loops_theory.specs.Spread.{spread, row}
use Rattle.loops_theory.proofs.Spreads.{free, spread-yes, spread-append, spread_row, on-spread, length-spread}

-- ---- the weights make the message's sum
pub weights-sum : (n a b part count : ℕ) (v w : List ℕ) → Holds a b n → part ≡ length (singles (moduli a b)) → count ≡ size (moduli a b)
    → take count v ≡ spread true (moduli a b) (blocks.plus (level a b b)) (drop part w) ++ spread false (moduli a b) (blocks.even (level a b b)) w
    → weighted_for n a b v ≡ syndrome_over (moduli a b) (message (moduli a b)) w
unfolding message weight_order
weights-sum n a b part count v w within h z e =
    let ms = moduli a b in
    let l : length (places ms (map single (singles ms))) ≡ length (singles ms) = ap length (places-singles ms (singles ms)) in
    let x : weigh_on ms (twice (blocks.plus ms)) (spread true ms (blocks.plus ms) (drop part w)) ≡ syndrome_over ms (map pair (pairs ms)) (drop part w) =
    on-spread true ms (blocks.plus ms) (drop part w) ∙ ap (λ (xs : List (List ℕ)). syndrome_over ms (map pair xs) (drop part w)) (pairs-members ms) in
    let y : weigh_on ms (blocks.even ms) (spread false ms (blocks.even ms) w) ≡ syndrome_over ms (map single (singles ms)) w =
    on-spread false ms (blocks.even ms) w ∙ ap (λ (xs : List (List ℕ)). syndrome_over ms (map single xs) w) (singles-members ms) in
    let g : take count v ≡ spread true ms (blocks.plus ms) (drop part w) ++ spread false ms (blocks.even ms) w =
    e ∙ ap₂ (λ (xs ys : List ℕ). spread true ms xs (drop part w) ++ spread false ms ys w) (plus-all a b) (even-all a b) in
    with-room n a b v within
    ∙ sym (on-take ms (weight_order ms) v count (rw z (order-fits a b within.few)))
    ∙ ap (weigh_on ms (twice (blocks.plus ms) ++ blocks.even ms)) g
    ∙ on-append ms (twice (blocks.plus ms)) (blocks.even ms) (spread true ms (blocks.plus ms) (drop part w)) (spread false ms (blocks.even ms) w)
    (length-spread true ms (blocks.plus ms) (drop part w))
    ∙ ap₂ (sum ms) x y
    ∙ sum_comm ms (syndrome_over ms (map pair (pairs ms)) (drop part w)) (syndrome_over ms (map single (singles ms)) w)
    ∙ ap (λ (k : ℕ). sum ms (syndrome_over ms (map single (singles ms)) w) (syndrome_over ms (map pair (pairs ms)) (drop k w))) (h ∙ sym l)
    ∙ sym (syndrome-parts ms (map single (singles ms)) (map pair (pairs ms)) w)

module _ (a b : ℕ) (h : a + b ≤ 12) where
  tail-row : (j : ℕ) → j < b → (w : List ℕ) → (spread true (moduli a b) (tail a b h j) w ≡ row true (length (tail a b h j)) w) × (free (moduli a b) (tail a b h j) ≡ length (tail a b h j))
  unfolding tail
  tail-row j k w =
      let n = size (level a b j) in
      let p = size-pos (level a b j) in
      let z = size-next a b h j k in
      spread_row true (moduli a b) (in_plus (level a b (suc j))) (suc n) (n * 3 - 1) w (λ y l q e. no-unit-four a b h j y k l (omega arith))

  free-append : (xs : List ℕ) (x : ℕ) (ys : List ℕ) → skips (moduli a b) x ≡ true → free (moduli a b) (xs ++ x ∷ ys) ≡ free (moduli a b) xs + free (moduli a b) ys
  free-append xs x ys e =
      ap length (select-append (others (moduli a b)) xs (x ∷ ys)) ∙ length-append (select (others (moduli a b)) xs) (select (others (moduli a b)) (x ∷ ys))
      ∙ ap (λ (r : List ℕ). free (moduli a b) xs + length r) (select_no (others (moduli a b)) x ys (ap not e))

  pub free-plus : (j : ℕ) → j ≤ b → free (moduli a b) (blocks.plus (level a b j)) + j ≡ plus_to a b j
  unfolding select
  free-plus zero k = let e = plus_none a b in rw e refl
  free-plus (suc j) k =
      let i = free-plus j (omega arith) in
      let u = unit-four a b h j (omega arith) in
      let c = pair-counts a b h j (omega arith) in
      let t = (tail-row j (omega arith) []).1 in
      let f : free (moduli a b) (blocks.plus (level a b (suc j))) ≡ free (moduli a b) (blocks.plus (level a b j)) + free (moduli a b) (tail a b h j) =
      ap (free (moduli a b)) (plus-split a b h j (omega arith)) ∙ free-append (blocks.plus (level a b j)) (size (level a b j)) (tail a b h j) u in
      omega arith

  pub pair-segment : (j : ℕ) → j < b → (n at : ℕ) → n + 1 + plus_to a b j ≡ plus_to a b (suc j) → at + 2 * j ≡ 2 * plus_to a b j → (w : List ℕ)
      → spread true (moduli a b) (blocks.plus (level a b (suc j))) w
      ≡ spread true (moduli a b) (blocks.plus (level a b j)) w ++ 0 ∷ 0 ∷ row true n (drop at w)
  pair-segment j k n at e f w =
      let u = moduli a b in
      let xs = blocks.plus (level a b j) in
      let c = pair-counts a b h j k in
      let i = free-plus j (omega arith) in
      let l : length (tail a b h j) ≡ n = omega arith in
      let m : 2 * free u xs ≡ at = omega arith in
      ap (λ (r : List ℕ). spread true u r w) (plus-split a b h j k)
      ∙ spread-append true u xs (size (level a b j) ∷ tail a b h j) w
      ∙ ap (λ (r : List ℕ). spread true u xs w ++ r)
      (ap (λ (t : ℕ). spread true u (size (level a b j) ∷ tail a b h j) (drop t w)) m
      ∙ spread-yes true u (size (level a b j)) (tail a b h j) (drop at w) (unit-four a b h j k)
      ∙ ap {B = List ℕ} (λ (r : List ℕ). 0 ∷ 0 ∷ r) ((tail-row j k (drop at w)).0 ∙ ap (λ (t : ℕ). row true t (drop at w)) l))

  -- ---- singles: one binary component more, then the others
  abbrev always : ℕ → Bool
  always x = true

  low-row : (i : ℕ) → i < a → (w : List ℕ)
      → (spread false (moduli a b) (from (suc (2 ^ i)) (2 ^ i - 1)) w ≡ row false (2 ^ i - 1) w) × (free (moduli a b) (from (suc (2 ^ i)) (2 ^ i - 1)) ≡ 2 ^ i - 1)
  low-row i k w =
      let s = size-twos-of a b h i (omega arith) in
      let t = size-twos-of a b h (suc i) k in
      let p2 = pow-succ' 2 i in
      let f = all_left always (λ y. refl) (from (suc (2 ^ i)) (2 ^ i - 1)) in
      let l = length_from (2 ^ i - 1) (suc (2 ^ i)) in
      let r = spread_row false (moduli a b) always (suc (2 ^ i)) (2 ^ i - 1) w (λ y x q e. no-unit-two a b h i y k (rw s x) (rw t (omega arith))) in
      let r0 : spread false (moduli a b) (from (suc (2 ^ i)) (2 ^ i - 1)) w ≡ row false (length (from (suc (2 ^ i)) (2 ^ i - 1))) w = rw f at r.0 in
      let r1 : free (moduli a b) (from (suc (2 ^ i)) (2 ^ i - 1)) ≡ length (from (suc (2 ^ i)) (2 ^ i - 1)) = rw f at r.1 in
      (r0 ∙ ap (λ (n : ℕ). row false n w) l, r1 ∙ l)

  pub free-low : (i : ℕ) → i ≤ a → free (moduli a b) (from 0 (2 ^ i)) + i + 1 ≡ 2 ^ i
  unfolding from select
  free-low zero k = refl
  free-low (suc i) k =
      let r = free-low i (omega arith) in
      let p = pow_pos a b h i in
      let l = (low-row i (omega arith) []).1 in
      let f : free (moduli a b) (from 0 (2 ^ suc i)) ≡ free (moduli a b) (from 0 (2 ^ i)) + free (moduli a b) (from (suc (2 ^ i)) (2 ^ i - 1)) =
      ap (free (moduli a b)) (low-split a b h i p) ∙ free-append (from 0 (2 ^ i)) (2 ^ i) (from (suc (2 ^ i)) (2 ^ i - 1)) (unit-low a b h i (omega arith)) in
      omega (arith, pow-succ' 2 i)

  pub low-segment : (i : ℕ) → i < a → (at : ℕ) → at + i + 1 ≡ 2 ^ i → (w : List ℕ)
      → spread false (moduli a b) (from 0 (2 ^ suc i)) w ≡ spread false (moduli a b) (from 0 (2 ^ i)) w ++ 0 ∷ row false (2 ^ i - 1) (drop at w)
  low-segment i k at e w =
      let u = moduli a b in
      let r = free-low i (omega arith) in
      let m : 1 * free u (from 0 (2 ^ i)) ≡ at = omega arith in
      ap (λ (r : List ℕ). spread false u r w) (low-split a b h i (pow_pos a b h i))
      ∙ spread-append false u (from 0 (2 ^ i)) (2 ^ i ∷ from (suc (2 ^ i)) (2 ^ i - 1)) w
      ∙ ap (λ (r : List ℕ). spread false u (from 0 (2 ^ i)) w ++ r)
      (ap (λ (t : ℕ). spread false u (2 ^ i ∷ from (suc (2 ^ i)) (2 ^ i - 1)) (drop t w)) m
      ∙ spread-yes false u (2 ^ i) (from (suc (2 ^ i)) (2 ^ i - 1)) (drop at w) (unit-low a b h i k)
      ∙ ap {B = List ℕ} (λ (r : List ℕ). 0 ∷ r) (low-row i k (drop at w)).0)

  pub even-segment : (n at : ℕ) → n + 2 ^ a ≡ even_to a b b → at + a + 1 ≡ 2 ^ a → (w : List ℕ)
      → spread false (moduli a b) (blocks.even (level a b b)) w ≡ spread false (moduli a b) (from 0 (2 ^ a)) w ++ row false n (drop at w)
  unfolding high
  even-segment n at e f w =
      let u = moduli a b in
      let r = free-low a (omega arith) in
      let m : 1 * free u (from 0 (2 ^ a)) ≡ at = omega arith in
      let c : even_to a b b ≡ length (from 0 (2 ^ a)) + length (high a b h) = ap length (even-split a b h) ∙ length-append (from 0 (2 ^ a)) (high a b h) in
      let k = length_from (2 ^ a) 0 in
      let l : length (high a b h) ≡ n = omega arith in
      let z = size-rises a b h b (omega arith) in
      let s = size_low a b h in
      let t = spread_row false u (in_even (level a b b)) (2 ^ a) (size (level a b b) - 2 ^ a) (drop at w)
      (λ y x q g. even-unit a b h b y (omega arith) (omega arith) (omega arith) (sign-level a b b y (omega arith) ∙ eqb-true (sign_at (level a b b) y) 0 g)) in
      ap (λ (r : List ℕ). spread false u r w) (even-split a b h)
      ∙ spread-append false u (from 0 (2 ^ a)) (high a b h) w
      ∙ ap (λ (r : List ℕ). spread false u (from 0 (2 ^ a)) w ++ r)
      (ap (λ (t : ℕ). spread false u (high a b h) (drop t w)) m ∙ t.0 ∙ ap (λ (k : ℕ). row false k (drop at w)) l)

  pub spread-zero : (w : List ℕ) → spread false (moduli a b) (from 0 (2 ^ 0)) w ≡ 0 ∷ []
  unfolding from spread
  spread-zero w = refl

  pub spread_none : (w : List ℕ) → spread true (moduli a b) (blocks.plus (level a b 0)) w ≡ []
  unfolding spread
  spread_none w = ap (λ (r : List ℕ). spread true (moduli a b) r w) (plus_none a b)
