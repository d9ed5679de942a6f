-- For the loops that lay the message out as weights, singles and pairs each in a part of their own. Assumes nothing.
use mathlib.Core.Path.{◌≡◌, refl, sym, ap, ap₂, subst, ◌∙◌}
use mathlib.Core.Bool.{Bool, true, false}
use mathlib.Core.List.{List, [], ◌∷◌, ◌++◌, append-nil}
use Prim.Native.Nat.{ℕ, suc, ◌+◌, ◌-◌, ◌*◌, ◌/◌, ◌^◌, ◌<◌, ◌≤◌}
use native.Mathlib.Nat.{pow-succ'}
use native.Mathlib.Omega.{arith}
use borrow.Rule.Slice.PartMut.{put_mid, same_len_mid}
use lib.ListN.{length, take, drop, set, length-set, length-drop, drop_of_length-le}
use lib.Seq.{take-suc-set, length-take-le}
use Rattle.std.proofs.lemmas.Slice.{take-put_mid}
use Rattle.group_theory.specs.Group.{moduli}
use Rattle.layout_theory.specs.Layout.{from}
use Rattle.blocks_theory.specs.Blocks as blocks
use Rattle.blocks_theory.specs.Blocks.{level, plus_to, even_to}
use Rattle.blocks_theory.proofs.Splits.{pow_pos, pow-rises, even_power}
use Rattle.folds_theory.specs.Folds.{room}
use Rattle.folds_theory.proofs.Levelling.{twelve, holds-within}
use Rattle.loops_theory.specs.Spread.{spread, row, HoldsMessage}
use Rattle.loops_theory.specs.Passing.{Says}
use Rattle.loops_theory.proofs.Segments.{low-segment, even-segment, spread-zero}
use Rattle.loops_theory.proofs.Laying.{Pairing, Segment, length-row, shares, pairing-asks, pairing_step}

-- ---- the loop of `singles`, over e weights
pub record Singled (a b e : ℕ) (w v : List ℕ) (n at i : ℕ) : Type 0 where
  pub within : i ≤ a
  pub power : n ≡ 2 ^ i
  pub place : at + i + 1 ≡ n
  pub wide : length v ≡ e
  pub front : take n v ≡ spread false (moduli a b) (from 0 (2 ^ i)) w

-- what its next segment asks
pub record SingleAsks (w : List ℕ) (e n at : ℕ) : Type 0 where
  pub some : 0 < n
  pub bytes : at + (n - 1) ≤ length w
  pub fits : 2 * n ≤ e

module _ (a b count part : ℕ) (w : List ℕ) (L : HoldsMessage a b count part (length w)) (e : ℕ) (z : e ≡ part + a + 1) where
  components : a + b ≤ 12
  components = twelve a b L.few

  -- how many weights there are, and that there is room for the first segments
  pub some-singles : (2 ^ a ≤ e) × (e ≡ even_to a b b) × (e ≤ length w + a + 1)
  some-singles =
      let s = (shares a b count part w L).1 in
      let en = L.enough in
      let fr = L.front in
      let p = even_power a b components b (omega arith) in
      let r = pow-rises a b components a b in
      (omega arith, omega arith, omega arith)

  pub part-room : part ≤ room
  part-room =
      let s = shares a b count part w L in
      let s0 = s.0 in
      let s1 = s.1 in
      let s3 = s.3 in
      let h = (holds-within 12 a b room (omega arith) L.few (omega arith) (omega arith)).enough in
      omega arith

  pub singled-start : (v : List ℕ) → length v ≡ e → Singled a b e w (set v 0 0) 1 0 0
  singled-start v l =
      let s = some-singles.0 in
      let p = pow_pos a b components a in
      record {
        within = omega arith;
        power = refl;
        place = refl;
        wide = length-set v 0 0 ∙ l;
        front = take-suc-set v 0 0 (omega arith) ∙ sym (spread-zero a b components w);
      }

  pub singled-asks : (v : List ℕ) (n at i : ℕ) → Singled a b e w v n at i → i < a → SingleAsks w e n at
  singled-asks v n at i f h =
      let x = f.power in
      let y = f.place in
      let p2 = pow-succ' 2 i in
      let k : suc i + (a - suc i) ≡ a = omega arith in
      let r : 2 ^ suc i + (a - suc i) ≤ 2 ^ a = subst (λ (t : ℕ). 2 ^ suc i + (a - suc i) ≤ 2 ^ t) k (pow-rises a b components (suc i) (a - suc i)) in
      let p = pow_pos a b components i in
      let s = some-singles in
      go (2 ^ suc i) (a - suc i) (2 ^ a) (omega arith) y k r s.0 s.2 (omega arith)
    where
      go : (q k z : ℕ) → q ≡ 2 * n → at + i + 1 ≡ n → suc i + k ≡ a → q + k ≤ z → z ≤ e → e ≤ length w + a + 1 → 0 < n → SingleAsks w e n at
      go q k z x y l r s t p = record { some = p; bytes = omega arith; fits = omega arith }

  pub singled-step : (v u : List ℕ) (n at i : ℕ) → Singled a b e w v n at i → i < a → u ≡ 0 ∷ row false (length (take (2 * n - n) (drop n v)) - 1) (drop at w)
      → Singled a b e w (put_mid n (2 * n - n) v u) (n * 2) (at + (n - 1)) (i + 1)
  singled-step v u n at i f h g =
      let A = singled-asks v n at i f h in
      let x = f.power in
      let y = f.place in
      let wd = f.wide in
      let so = A.some in
      let fi = A.fits in
      let p2 = pow-succ' 2 i in
      let J : i + 1 ≡ suc i = omega arith in
      let d = length-drop n v in
      let m : length (take (2 * n - n) (drop n v)) ≡ n = length-take-le (2 * n - n) (drop n v) (omega arith) ∙ omega arith in
      let U : u ≡ 0 ∷ row false (2 ^ i - 1) (drop at w) = g ∙ ap (λ (t : ℕ). 0 ∷ row false (t - 1) (drop at w)) (m ∙ x) in
      let R = length-row false (2 ^ i - 1) (drop at w) in
      let l : length u ≡ n = ap length U ∙ omega arith in
      rw J
      (record {
        within = omega arith;
        power = omega arith;
        place = omega arith;
        wide = same_len_mid n (2 * n - n) v u (l ∙ sym m) ∙ wd;
        front = take-put_mid n (2 * n - n) v u (n * 2) (omega arith) (omega arith)
            ∙ ap₂ ◌++◌ f.front U
            ∙ sym (low-segment a b components i h at (omega arith) w);
      })

  -- and what the bytes after the last one ask
  pub singled-end : (v : List ℕ) (n at i : ℕ) → Singled a b e w v n at i → a ≤ i → (n ≤ e) × (at + (e - n) ≤ length w)
  singled-end v n at i f h =
      let s = some-singles in
      let s0 = s.0 in
      let s2 = s.2 in
      let wi = f.within in
      let y = f.place in
      let q : i ≡ a = omega arith in
      let x : n ≡ 2 ^ a = f.power ∙ ap (λ (t : ℕ). 2 ^ t) q in
      (omega arith, omega arith)

  pub singled-done : (v u : List ℕ) (n at i : ℕ) → Singled a b e w v n at i → a ≤ i → u ≡ row false (length (take (length v - n) (drop n v))) (drop at w)
      → put_mid n (length v - n) v u ≡ spread false (moduli a b) (blocks.even (level a b b)) w
  singled-done v u n at i f h g =
      let s = some-singles in
      let s0 = s.0 in
      let s1 = s.1 in
      let wi = f.within in
      let x = f.power in
      let y = f.place in
      let wd = f.wide in
      let q : i ≡ a = omega arith in
      let x1 : n ≡ 2 ^ a = x ∙ ap (λ (t : ℕ). 2 ^ t) q in
      let d = length-drop n v in
      let m : length (take (length v - n) (drop n v)) ≡ e - n = length-take-le (length v - n) (drop n v) (omega arith) ∙ omega arith in
      let none : drop (length v - n) (drop n v) ≡ [] = drop_of_length-le (drop n v) {i = length v - n} (omega arith) in
      ap (λ (t : List ℕ). take n v ++ (u ++ t)) none
      ∙ ap₂ ◌++◌ (f.front ∙ ap (λ (t : ℕ). spread false (moduli a b) (from 0 (2 ^ t)) w) q) (append-nil u ∙ g ∙ ap (λ (t : ℕ). row false t (drop at w)) m)
      ∙ sym (even-segment a b components (e - n) at (omega arith) (omega arith) w)

-- ---- the loop of `pairs`: a segment of n pairs, from p to q
module _ (p q n : ℕ) (v : List ℕ) (s : q ≡ p + (n + 1)) (h : 2 * q ≤ length v) where
  abbrev segment : List ℕ
  segment = take (2 * q - 2 * p) (drop (2 * p) v)

  pub length-segment : length segment ≡ 2 + 2 * n
  length-segment = let d = length-drop (2 * p) v in length-take-le (2 * q - 2 * p) (drop (2 * p) v) (omega arith) ∙ omega arith

  module _ (u w : List ℕ) (at : ℕ) (g : u ≡ 0 ∷ 0 ∷ row true (length segment / 2 - 1) (drop at w)) where
    rows : u ≡ 0 ∷ 0 ∷ row true n (drop at w)
    rows = let l = length-segment in let m : length segment / 2 - 1 ≡ n = omega arith in g ∙ ap (λ (t : ℕ). 0 ∷ 0 ∷ row true t (drop at w)) m

    length-rows : length u ≡ 2 + 2 * n
    length-rows = let R = length-row true n (drop at w) in ap length rows ∙ omega arith

    segment-laid : take (2 * p + (2 + 2 * n)) (put_mid (2 * p) (2 * q - 2 * p) v u) ≡ take (2 * p) v ++ 0 ∷ 0 ∷ row true n (drop at w)
    segment-laid =
        let k = length-rows in
        take-put_mid (2 * p) (2 * q - 2 * p) v u (2 * p + (2 + 2 * n)) (omega arith) (omega arith) ∙ ap (λ (r : List ℕ). take (2 * p) v ++ r) rows

    segment-same : length (put_mid (2 * p) (2 * q - 2 * p) v u) ≡ length v
    segment-same = same_len_mid (2 * p) (2 * q - 2 * p) v u (length-rows ∙ sym length-segment)

module _ (a b count part : ℕ) (w : List ℕ) (L : HoldsMessage a b count part (length w)) (v₀ v : List ℕ) (p e at j : ℕ) (f : Pairing a b part w v₀ v p e at j) (h : j < b) where
  asked : Segment a b count part w L p e at j
  asked = pairing-asks a b count part w L v₀ v p e at j f h

  pub in-row : 4 * p + e ≡ p + (3 * p + e - 1 + 1)
  in-row = let s = asked.some in omega arith

  pub in-all : 2 * (4 * p + e) ≤ length v
  in-all = let s = asked.some in let t = asked.fits in let i = f.wide in let k = f.holds.enough in omega arith

  pub pairing-next : (u : List ℕ) → u ≡ 0 ∷ 0 ∷ row true (length (take (2 * (4 * p + e) - 2 * p) (drop (2 * p) v)) / 2 - 1) (drop at w)
      → Pairing a b part w v₀ (put_mid (2 * p) (2 * (4 * p + e) - 2 * p) v u) (4 * p + e) (e * 2) (at + 2 * (4 * p + e - p - 1)) (j + 1)
  pairing-next u g =
      let n = 3 * p + e - 1 in
      let q = 4 * p + e in
      let x : at + 2 * n ≡ at + 2 * (q - p - 1) = omega arith in
      let y : 2 * e ≡ e * 2 = omega arith in
      subst (λ (k : ℕ). Pairing a b part w v₀ (put_mid (2 * p) (2 * q - 2 * p) v u) q k (at + 2 * (q - p - 1)) (j + 1)) y
      (subst (λ (k : ℕ). Pairing a b part w v₀ (put_mid (2 * p) (2 * q - 2 * p) v u) q (2 * e) k (j + 1)) x
      (pairing_step a b count part w L v₀ v p e at j f h _ (segment-same p q n v in-row in-all u w at g) (segment-laid p q n v in-row in-all u w at g)))

  pub pairing-said : (t : Bool) → Says t w at (at + (length (take (2 * (4 * p + e) - 2 * p) (drop (2 * p) v)) - 2)) → Says t w at (at + 2 * (4 * p + e - p - 1))
  pairing-said t k =
      let l = length-segment p (4 * p + e) (3 * p + e - 1) v in-row in-all in
      let z : at + (length (take (2 * (4 * p + e) - 2 * p) (drop (2 * p) v)) - 2) ≡ at + 2 * (4 * p + e - p - 1) = omega arith in
      subst (Says t w at) z k
