-- For `pairs`, `both` and `weighted`: the first level, and the two sums put together. Assumes nothing.
use mathlib.Core.Path.{◌≡◌, refl, sym, ap, ap₂, subst, ◌∙◌}
use mathlib.Core.Bool.{Bool, true, false, ◌&&◌}
use mathlib.Core.List.{List, [], ◌∷◌, ◌++◌}
use Prim.Native.Nat.{ℕ, zero, suc, ◌+◌, ◌-◌, ◌*◌, ◌/◌, ◌%◌, ◌^◌, ◌<◌, ◌≤◌}
use native.Mathlib.Decide.{dec_lt, dec_le}
use native.Mathlib.Omega.{arith}
use borrow.Author.Tests.{le-leb, lt-leb}
use lib.Dec.{leb}
use lib.Pow.{pow_mono, pow-lt}
use lib.ListN.{length, take, drop, set, length-append, take-append-drop}
use lib.Seq.{take_at, drop_at, take-add, append_snoc, length-take-le}
use Rattle.std.specs.Cmp.Derive.{both_true}
use Rattle.group_theory.specs.Group.{Modulus, moduli, zeros, sum, size}
use Rattle.group_theory.specs.Weights.{weigh_on, shifted, total, Below}
use Rattle.group_theory.proofs.Laws.{sum_comm}
use Rattle.group_theory.proofs.Fill.{length-moduli, length-zeros}
use Rattle.group_theory.proofs.Unit.{size-in-use}
use Rattle.group_theory.proofs.Weights.{on-append, on-behind}
use Rattle.blocks_theory.specs.Blocks as blocks
use Rattle.blocks_theory.specs.Blocks.{level, even_to}
use Rattle.blocks_theory.proofs.Blocks.{next, even-blocks}
use Rattle.blocks_theory.proofs.Levels.{below-plus, below-low, below-even, level-next, size-next}
use Rattle.blocks_theory.proofs.Members.{plus-all, even-all}
use Rattle.blocks_theory.proofs.Splits.{even_power}
use Rattle.folds_theory.specs.Folds.{widest, room, Holds, stretch, twice, both, weight_order, weighted_for, first_plus, first_tops, stride, Doubling, Halved}
use Rattle.folds_theory.proofs.Twice.{below-twice, even-two}
use Rattle.folds_theory.proofs.Offs.{four-lengths, first_off, length-first-plus, length-stretch}
use Rattle.folds_theory.proofs.Halving.{last-two, last-four, stride-two, stride-four}
use Rattle.folds_theory.proofs.Levelling.{on-take, holds-within, holds-power, holds-room, twelve, size-level, size_fits, blocks_at, plus-twice, low_twice, drop-written}

zeros-drop : (i : ℕ) (ms : List Modulus) → zeros (drop i ms) ≡ drop i (zeros ms)
unfolding zeros
zeros-drop zero ms = refl
zeros-drop (suc i) [] = refl
zeros-drop (suc i) (m ∷ ms) = zeros-drop i ms

-- components that are not in use
unused : (a b : ℕ) (xs v : List ℕ) → Below (size (level a b b)) xs → weigh_on (level a b b) xs v ++ drop (a + b) (zeros (moduli a b)) ≡ weigh_on (moduli a b) xs v
unused a b xs v h =
    ap (λ (t : List ℕ). weigh_on (level a b b) xs v ++ t) (sym (zeros-drop (a + b) (moduli a b)))
    ∙ sym (on-behind (level a b b) (drop (a + b) (moduli a b)) xs v h)
    ∙ ap (λ (ms : List Modulus). weigh_on ms xs v) (take-append-drop (a + b) (moduli a b))

-- ---- the first level
pub record First (a b n e : ℕ) : Type 0 where
  pub few : a + 2 * b ≤ widest
  pub some : 0 < b
  pub count : n ≡ size (level a b (b - 1))
  pub evens : e ≡ even_to a b (b - 1)
  pub fewer : e ≤ n
  pub fits : 3 * (n - e) + (n + e) ≤ size (moduli a b)
  pub small : n ≤ size (moduli a b)

pub first : (a b n e : ℕ) → a + 2 * b ≤ widest → 0 < b → n ≡ 2 ^ (a + 2 * (b - 1)) → e ≡ 2 ^ (a + (b - 1)) → First a b n e
first a b n e few some x y =
    let z : suc (b - 1) ≡ b = omega arith in
    let co : n ≡ size (level a b (b - 1)) = x ∙ sym (size-level a b few (b - 1) (omega arith)) in
    let ev : e ≡ even_to a b (b - 1) = y ∙ sym (even_power a b (twelve a b few) (b - 1) (omega arith)) in
    let B = blocks_at a b few (b - 1) (omega arith) n e co ev in
    let b2 = B.2 in
    let q = size_fits a b few b (omega arith) in
    let t = twice-fits a b few some in
    record { few = few; some = some; count = co; evens = ev; fewer = b2; fits = omega arith; small = omega arith }
  where
    twice-fits : (a b : ℕ) → a + 2 * b ≤ widest → 0 < b → size (level a b (b - 1)) * 4 ≤ size (moduli a b)
    twice-fits a b few some =
        let q = size_fits a b few (suc (b - 1)) (omega arith) in
        let n = size-next a b (twelve a b few) (b - 1) (omega arith) in
        omega arith

pub pairs-done : (a b n e : ℕ) → First a b n e → (v u y : List ℕ) (c : ℕ) → size (moduli a b) ≤ length v
    → (c ≡ (total (first_tops (n - e) (n + e) v) + total (stretch (n - e) (n + e) v)) % 4) × (u ≡ first_plus (n - e) (n + e) v ++ drop (n - e) v)
    → (x : List ℕ) → x ≡ zeros (moduli a b) → y ≡ weigh_on (level a b (b - 1)) (both a b (b - 1)) u ++ drop (a + (b - 1)) (set x (a + (b - 1)) c)
    → y ≡ weigh_on (moduli a b) (twice (blocks.plus (moduli a b))) v
pairs-done a b n e f v u y c l g x o h =
    let few = f.few in
    let some = f.some in
    let fits = f.fits in
    let j = b - 1 in
    let z : suc (b - 1) ≡ b = omega arith in
    let p = n - e in
    let m = n + e in
    let ms = level a b j in
    let X = twice (blocks.plus ms) in
    let Y = twice (blocks.low ms) in
    let B = blocks_at a b few j (omega arith) n e f.count f.evens in
    let v4 : 3 * p + m ≤ length v = omega arith in
    let off = first_off ms X Y (twice (blocks.plus (next ms))) (twice (blocks.low (next ms))) p m B.0 B.1
    (below-twice (size ms) (blocks.plus ms) (below-plus ms)) (below-twice (size ms) (blocks.low ms) (below-low ms)) (plus-twice ms) (low_twice ms) v v4 in
    let lp : length (first_plus p m v) ≡ p = length-first-plus p m v v4 in
    let tu : take p u ≡ first_plus p m v = ap (take p) g.1 ∙ take_at (first_plus p m v) (drop p v) p lp in
    let du : drop p u ≡ drop p v = ap (drop p) g.1 ∙ drop_at (first_plus p m v) (drop p v) p lp in
    let tw : take (p + m) u ≡ first_plus p m v ++ stretch p m v = take-add p m u ∙ ap₂ {C = List ℕ} ◌++◌ tu (ap (take m) du) in
    let lz : length x ≡ 12 = ap length o ∙ length-zeros (moduli a b) ∙ length-moduli a b in
    let D : drop (a + j) (set x (a + j) c) ≡ c ∷ drop (suc (a + j)) x = drop-written x (a + j) c (omega arith) in
    let lb : length (X ++ Y) ≡ p + m = length-append X Y ∙ ap₂ ◌+◌ B.0 B.1 in
    let L : level a b b ≡ next ms = subst (λ (i : ℕ). level a b i ≡ next ms) z (level-next a b j (twelve a b few) (omega arith)) in
    let sa : suc (a + j) ≡ a + b = omega arith in
    let b0 = B.0 in
    let b1 = B.1 in
    let lx : length (twice (blocks.plus (next ms))) ≤ 3 * p + m =
    let t = ap length (plus-twice ms) ∙ four-lengths (size ms) X Y X X in omega arith in
    h
    ∙ ap₂ (λ (s t : List ℕ). s ++ t) (sym (on-take ms (X ++ Y) u (p + m) (omega arith)) ∙ ap (weigh_on ms (X ++ Y)) tw) D
    ∙ ap (λ (t : ℕ). weigh_on ms (X ++ Y) (first_plus p m v ++ stretch p m v) ++ t ∷ drop (suc (a + j)) x) g.0
    ∙ sym (append_snoc (weigh_on ms (X ++ Y) (first_plus p m v ++ stretch p m v)) ((total (first_tops p m v) + total (stretch p m v)) % 4) (drop (suc (a + j)) x))
    ∙ ap (λ (t : List ℕ). t ++ drop (suc (a + j)) x) (sym off ∙ on-take (next ms) (twice (blocks.plus (next ms))) v (3 * p + m) lx)
    ∙ ap₂ (λ (s : List Modulus) (t : ℕ). weigh_on s (twice (blocks.plus s)) v ++ drop t x) (sym L) sa
    ∙ ap (λ (t : List ℕ). weigh_on (level a b b) (twice (blocks.plus (level a b b))) v ++ drop (a + b) t) o
    ∙ unused a b (twice (blocks.plus (level a b b))) v (below-twice (size (level a b b)) (blocks.plus (level a b b)) (below-plus (level a b b)))
    ∙ ap (λ (t : List ℕ). weigh_on (moduli a b) (twice t) v) (plus-all a b)

-- ---- the sum over the numbers of sign 0
evens-double : (a b : ℕ) → a + b ≤ 12 → Doubling a b (a + b) (λ i. blocks.even (take i (moduli a b)))
evens-double a b h = record { below = λ i k. below-even (take i (moduli a b)); grows = λ i k. grow i k (dec_lt i a) }
  where
    grow : (i : ℕ) → i < a + b → Dec (i < a) → blocks.even (take (suc i) (moduli a b))
        ≡ shifted (size (take i (moduli a b)) * 0) (blocks.even (take i (moduli a b))) ++ shifted (size (take i (moduli a b)) * stride a i) (blocks.even (take i (moduli a b)))
    grow i k (yes t) =
        let ms = take i (moduli a b) in
        ap blocks.even (last-two a b i h k t) ∙ even-two ms
        ∙ ap (λ (y : ℕ). shifted (size ms * 0) (blocks.even ms) ++ shifted (size ms * y) (blocks.even ms)) (sym (stride-two a i t))
    grow i k (no t) =
        let ms = take i (moduli a b) in
        ap blocks.even (last-four a b i h k (omega arith)) ∙ even-blocks ms
        ∙ ap (λ (y : ℕ). shifted (size ms * 0) (blocks.even ms) ++ shifted (size ms * y) (blocks.even ms)) (sym (stride-four a i (omega arith)))

-- how many numbers there are of each sign
pub record Shares (a b n e : ℕ) : Type 0 where
  pub few : a + 2 * b ≤ widest
  pub evens : length (blocks.even (level a b b)) ≡ e
  pub pairs : length (twice (blocks.plus (moduli a b))) ≡ n - e
  pub fewer : e ≤ n
  pub fits : n ≤ size (moduli a b)

pub shares : (a b n e : ℕ) → a + 2 * b ≤ widest → n ≡ 2 ^ (a + 2 * b) → e ≡ 2 ^ (a + b) → Shares a b n e
shares a b n e few x y =
    let co : n ≡ size (level a b b) = x ∙ sym (size-level a b few b (omega arith)) in
    let ev : e ≡ even_to a b b = y ∙ sym (even_power a b (twelve a b few) b (omega arith)) in
    let B = blocks_at a b few b (omega arith) n e co ev in
    let q = size_fits a b few b (omega arith) in
    record { few = few; evens = sym ev; pairs = ap (λ (t : List ℕ). length (twice t)) (sym (plus-all a b)) ∙ B.0; fewer = B.2; fits = omega arith }

module _ (a b n e : ℕ) (f : Shares a b n e) (v : List ℕ) (l : size (moduli a b) ≤ length v) where
  abbrev ms : List Modulus
  ms = moduli a b

  abbrev X : List ℕ
  X = twice (blocks.plus ms)

  singles-sum : (s x none : List ℕ) → none ≡ zeros ms → s ≡ take (n - (n - e)) (drop (n - e) v) → Halved a b (a + b) s none x → x ≡ weigh_on ms (blocks.even ms) (drop (n - e) v)
  singles-sum s x none o es g =
      let ev = f.evens in
      let fe = f.fewer in
      let fi = f.fits in
      let ne : n - (n - e) ≡ e = omega arith in
      let te : s ≡ stretch (n - e) e v = es ∙ ap (λ (k : ℕ). take k (drop (n - e) v)) ne in
      let ls : length s ≡ e = ap length te ∙ length-stretch (n - e) e v (omega arith) in
      g (λ i. blocks.even (take i ms)) (evens-double a b (twelve a b f.few)) (ev ∙ sym ls)
      ∙ ap (λ (t : List ℕ). weigh_on (level a b b) (blocks.even (level a b b)) t ++ drop (a + b) none) te
      ∙ ap₂ (λ (s t : List ℕ). s ++ drop (a + b) t) (on-take (level a b b) (blocks.even (level a b b)) (drop (n - e) v) e (omega arith)) o
      ∙ unused a b (blocks.even (level a b b)) (drop (n - e) v) (below-even (level a b b))
      ∙ ap (λ (t : List ℕ). weigh_on ms t (drop (n - e) v)) (even-all a b)

  order-sum : weigh_on ms (weight_order ms) v ≡ sum ms (weigh_on ms X v) (weigh_on ms (blocks.even ms) (drop (n - e) v))
  unfolding weight_order
  order-sum =
      let p = f.pairs in
      let fe = f.fewer in
      let fi = f.fits in
      let k : length (take (n - e) v) ≡ length X = length-take-le (n - e) v (omega arith) ∙ sym p in
      ap (weigh_on ms (X ++ blocks.even ms)) (sym (take-append-drop (n - e) v))
      ∙ on-append ms X (blocks.even ms) (take (n - e) v) (drop (n - e) v) k
      ∙ ap (λ (t : List ℕ). sum ms t (weigh_on ms (blocks.even ms) (drop (n - e) v))) (on-take ms X v (n - e) (omega arith))

  -- s is the part of v with the weights of sign 0, and w what v becomes
  pub both-sum : (s w x y z none u : List ℕ) → none ≡ zeros ms → s ≡ take (n - (n - e)) (drop (n - e) v) → Halved a b (a + b) s none x → w ≡ take (n - e) v ++ u
      → y ≡ weigh_on ms X w → z ≡ sum ms x y → z ≡ weigh_on ms (weight_order ms) v
  both-sum s w x y z none u o es g ew h k =
      let p = f.pairs in
      let fe = f.fewer in
      let fi = f.fits in
      let t : take (n - e) w ≡ take (n - e) v = ap (take (n - e)) ew ∙ take_at (take (n - e) v) u (n - e) (length-take-le (n - e) v (omega arith)) in
      let q : y ≡ weigh_on ms X v = h ∙ sym (on-take ms X w (n - e) (omega arith)) ∙ ap (weigh_on ms X) t ∙ on-take ms X v (n - e) (omega arith) in
      k ∙ ap₂ (sum ms) (singles-sum s x none o es g) q ∙ sum_comm ms (weigh_on ms (blocks.even ms) (drop (n - e) v)) (weigh_on ms X v) ∙ sym order-sum

-- without quaternary components there are none of sign 1
pub singles-only : (a b n e : ℕ) → Shares a b n e → b ≡ 0 → n ≡ 2 ^ (a + 2 * b) → e ≡ 2 ^ (a + b) → (v s x none : List ℕ) → size (moduli a b) ≤ length v
    → none ≡ zeros (moduli a b) → s ≡ take (n - (n - e)) (drop (n - e) v) → Halved a b (a + b) s none x → x ≡ weigh_on (moduli a b) (weight_order (moduli a b)) v
unfolding weight_order twice
singles-only a b n e f z p q v s x none l o es g =
    let ms = moduli a b in
    let h = f.pairs in
    let y : a + 2 * b ≡ a + b = omega arith in
    let t : n ≡ e = p ∙ ap (λ (k : ℕ). 2 ^ k) y ∙ sym q in
    let k : n - e ≡ 0 = omega arith in
    singles-sum a b n e f v l s x none o es g
    ∙ ap (λ (t : ℕ). weigh_on ms (blocks.even ms) (drop t v)) k
    ∙ ap (λ (t : List ℕ). weigh_on ms (t ++ blocks.even ms) v) (sym (nothing (twice (blocks.plus ms)) (omega arith)))
  where
    nothing : (t : List ℕ) → length t ≡ 0 → t ≡ []
    nothing [] h = refl
    nothing (y ∷ t) h = absurd (omega arith)

-- the test of the room for 2^t weights, with a division
pub half-leb : (a b t : ℕ) → a ≤ t → leb b ((t - a) / 2) ≡ leb (a + 2 * b) t
half-leb a b t h = go (dec_lt ((t - a) / 2) b)
  where
    go : Dec ((t - a) / 2 < b) → leb b ((t - a) / 2) ≡ leb (a + 2 * b) t
    go (yes l) = lt-leb b ((t - a) / 2) l ∙ sym (lt-leb (a + 2 * b) t (omega arith))
    go (no l) = le-leb b ((t - a) / 2) (omega arith) ∙ sym (le-leb (a + 2 * b) t (omega arith))

-- ---- what is answered, with room and without
-- the test of the room, by what is answered either way
abbrev pub chosen : ℕ → ℕ → List ℕ → Bool → List ℕ
chosen a b v t = elim t as (λ _. List ℕ) [ true ↦ weigh_on (moduli a b) (weight_order (moduli a b)) v | false ↦ zeros (moduli a b) ]

pub with-room : (n a b : ℕ) (v : List ℕ) → Holds a b n → weighted_for n a b v ≡ weigh_on (moduli a b) (weight_order (moduli a b)) v
unfolding weighted_for
with-room n a b v h =
    let e : 2 ^ (a + 2 * b) ≤ n = holds-power a b n h in
    let m = h.most in
    ap (chosen a b v) (both_true (le-leb (2 ^ (a + 2 * b)) n e) (le-leb n room m))

pub without-room : (n a b : ℕ) (v : List ℕ) → (Holds a b n → ⊥) → weighted_for n a b v ≡ zeros (moduli a b)
unfolding weighted_for
without-room n a b v h = ap (chosen a b v) (go (dec_le (2 ^ (a + 2 * b)) n) (dec_le n room))
  where
    go : Dec (2 ^ (a + 2 * b) ≤ n) → Dec (n ≤ room) → (leb (2 ^ (a + 2 * b)) n && leb n room) ≡ false
    go (no e) m = ap (λ t. t && leb n room) (lt-leb (2 ^ (a + 2 * b)) n (omega arith))
    go (yes e) (no m) = ap₂ ◌&&◌ (le-leb (2 ^ (a + 2 * b)) n e) (lt-leb n room (omega arith))
    go (yes e) (yes m) = absurd (h (holds-room a b n e m))

-- Room by t: for the codes up to t, and for no others.
module _ (a b : ℕ) (v : List ℕ) where
  abbrev pub up-to : ℕ → List ℕ
  up-to t = chosen a b v (leb (a + 2 * b) t)

  pub with-room-up-to : (t : ℕ) → a + 2 * b ≤ t → up-to t ≡ weigh_on (moduli a b) (weight_order (moduli a b)) v
  with-room-up-to t h = ap (chosen a b v) (le-leb (a + 2 * b) t h)

  pub without-room-up-to : (t : ℕ) → t < a + 2 * b → up-to t ≡ zeros (moduli a b)
  without-room-up-to t h = ap (chosen a b v) (lt-leb (a + 2 * b) t h)

  -- 2^t weights have that room, 64, 1,024 and 4,096 of them among these, the lengths in use
  pub at-length : (t : ℕ) → t ≤ widest → weighted_for (2 ^ t) a b v ≡ up-to t
  at-length t h = go (dec_le (a + 2 * b) t)
    where
      go : Dec (a + 2 * b ≤ t) → weighted_for (2 ^ t) a b v ≡ up-to t
      go (yes k) =
          with-room (2 ^ t) a b v (holds-within t a b (2 ^ t) h k (omega arith) (pow_mono {i = t} {j = widest} h))
          ∙ ap (chosen a b v) (sym (le-leb (a + 2 * b) t k))
      go (no k) =
          without-room (2 ^ t) a b v (λ H. absurd (beyond (holds-power a b (2 ^ t) H)))
          ∙ ap (chosen a b v) (sym (lt-leb (a + 2 * b) t (omega arith)))
        where
          beyond : 2 ^ (a + 2 * b) ≤ 2 ^ t → ⊥
          beyond l = let p = pow-lt {i = t} {j = a + 2 * b} (omega arith) in omega arith

  pub at-64 : weighted_for 64 a b v ≡ up-to 6
  at-64 = at-length 6 (omega arith)

  pub at-1024 : weighted_for 1024 a b v ≡ up-to 10
  at-1024 = at-length 10 (omega arith)

  pub at-4096 : weighted_for 4096 a b v ≡ up-to 12
  at-4096 = at-length 12 (omega arith)

-- there is a weight for each element
pub order-fits : (a b : ℕ) → a + 2 * b ≤ widest → length (weight_order (moduli a b)) ≤ size (moduli a b)
unfolding weight_order
order-fits a b few =
    let ms = moduli a b in
    let S = shares a b (2 ^ (a + 2 * b)) (2 ^ (a + b)) few refl refl in
    let p = S.pairs in
    let f = S.fewer in
    let e : length (blocks.even ms) ≡ 2 ^ (a + b) = ap length (sym (even-all a b)) ∙ S.evens in
    let z : size ms ≡ 2 ^ (a + 2 * b) = sym (size-in-use a b) ∙ size-level a b few b (omega arith) in
    let l = length-append (twice (blocks.plus ms)) (blocks.even ms) in
    omega arith
