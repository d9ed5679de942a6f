-- For the loops that write part after part of a list, each part by itself. Assumes nothing.
use mathlib.Core.Path.{◌≡◌, refl, sym, ap, ap₂, subst, ◌∙◌}
use mathlib.Core.Logic.{◌⊎◌, inl, inr}
use mathlib.Core.Bool.{Bool, true, false}
use mathlib.Core.List.{List, [], ◌∷◌, ◌++◌, append_assoc, append-nil}
use Prim.Native.Nat.{ℕ, zero, suc, ◌+◌, ◌-◌, ◌*◌, ◌/◌, ◌%◌, min, max, ◌<◌, ◌≤◌}
use native.Mathlib.Numerals.{add-one}
use native.Mathlib.Decide.{dec_lt}
use native.Mathlib.Omega.{arith}
use lib.Dec.{leb}
use borrow.Rule.Slice.PartMut.{put_mid}
use lib.ListN.{length, take, drop, get_or, set, length-set, length-append, length-drop, drop_of_length-le}
use lib.Seq.{take-suc, take-suc-set, take_all, take-append_seam, drop-append_seam, drop-drop, length-take-le}
use Rattle.words_theory.specs.Digits.{digit}
use Rattle.words_theory.specs.Words.{zero_word}
use Rattle.shortened_theory.specs.Code.{fill}
use Rattle.loops_theory.specs.Spread.{row}
use Rattle.loops_theory.specs.Passing.{Highest, Says}
use Rattle.loops_theory.proofs.Rows.{row_more, row_cut}
use Rattle.loops_theory.proofs.Passing.{part-at, highest-join, highest-part, highest-says, says-part, says-filled}

-- ---- a loop that writes g over a list as long as it, one number a turn
pub record Laid (g v : List ℕ) (i : ℕ) : Type 0 where
  pub same : length v ≡ length g
  pub front : take i v ≡ take i g

pub laid-start : (g v : List ℕ) → length v ≡ length g → Laid g v 0
laid-start g v e = record { same = e; front = refl }

pub laid-step : (g v : List ℕ) (i x : ℕ) → Laid g v i → i < length v → x ≡ get_or g i 0 → Laid g (set v i x) (i + 1)
laid-step g v i x f h e =
    let s = f.same in
    record {
      same = length-set v i x ∙ s;
      front = ap (λ (k : ℕ). take k (set v i x)) (add-one i) ∙ take-suc-set v i x h
          ∙ ap₂ (λ (r : List ℕ) (z : ℕ). r ++ (z ∷ [])) f.front e
          ∙ sym (take-suc g i 0 (omega arith)) ∙ ap (λ (k : ℕ). take k g) (sym (add-one i));
    }

-- ---- two calls, the first of which writes the first k numbers of v, and the second all behind them
pub put_rest : (k : ℕ) (v x y : List ℕ) → length x ≡ k → put_mid k (length (x ++ drop k v) - k) (x ++ drop k v) y ≡ x ++ y
put_rest k v x y e =
    let u = x ++ drop k v in
    let f : take k u ≡ x = ap (λ (n : ℕ). take n u) (sym e) ∙ take-append_seam x (drop k v) in
    let l : length (drop k u) ≡ length u - k = length-drop k u in
    let none : drop (length u - k) (drop k u) ≡ [] = drop_of_length-le (drop k u) {i = length u - k} (omega arith) in
    ap₂ (λ (r t : List ℕ). r ++ (y ++ t)) f none ∙ ap (λ (t : List ℕ). x ++ t) (append-nil y)

pub length-put : (k : ℕ) (v x : List ℕ) → length x ≡ k → k ≤ length v → length (x ++ drop k v) ≡ length v
length-put k v x e h = let a = length-append x (drop k v) in let d = length-drop k v in omega arith

-- the first writes m, and the second x behind it
pub put_over : (m v c x y : List ℕ) (n : ℕ) → c ≡ m → y ≡ x ++ drop n (take (length (c ++ drop (length m) v) - length m) (drop (length m) (c ++ drop (length m) v)))
    → put_mid (length m) (length (c ++ drop (length m) v) - length m) (c ++ drop (length m) v) y ≡ m ++ (x ++ drop (length m + n) v)
put_over m v c x y n e f =
    let k = length m in
    let u = c ++ drop k v in
    let d : drop k u ≡ drop k v = ap (λ (r : List ℕ). drop k (r ++ drop k v)) e ∙ drop-append_seam m (drop k v) in
    let l : length (drop k u) ≡ length u - k = length-drop k u in
    let t : take (length u - k) (drop k u) ≡ drop k v = take_all (length u - k) (drop k u) (omega arith) ∙ d in
    put_rest k v c y (ap length e) ∙ ap₂ ◌++◌ e (f ∙ ap (λ (r : List ℕ). x ++ drop n r) t ∙ ap (λ (r : List ℕ). x ++ r) (drop-drop n k v))

-- a number, and then all behind it
pub put_first : (v y : List ℕ) (z : ℕ → List ℕ) → 1 ≤ length v → y ≡ z (length (take (length (set v 0 0) - 1) (drop 1 (set v 0 0))))
    → put_mid 1 (length (set v 0 0) - 1) (set v 0 0) y ≡ 0 ∷ z (length v - 1)
put_first [] y z h e = absurd (omega arith)
put_first (b ∷ v) y z h e =
    let n : length (0 ∷ v) - 1 ≡ length v = omega arith in
    let t : take (length v) v ≡ v = take_all (length v) v (omega arith) in
    let d : drop (length v) v ≡ [] = drop_of_length-le v {i = length v} (omega arith) in
    let e' : y ≡ z (length v) = e ∙ ap (λ (i : ℕ). z (length (take i v))) n ∙ ap (λ (l : List ℕ). z (length l)) t in
    rw (n, d) (ap {B = List ℕ} (λ (l : List ℕ). 0 ∷ l) (append-nil y ∙ e'))

-- a call that writes n numbers of v from k on, and then one that writes those before them
pub put_before : (k n : ℕ) (v x y : List ℕ) → k ≤ length v → length x ≡ k → length y ≡ n → take (k + n) (x ++ drop k (put_mid k n v y)) ≡ x ++ y
put_before k n v x y h e f =
    let t = drop n (drop k v) in
    let d : drop k (put_mid k n v y) ≡ y ++ t = ap (λ (i : ℕ). drop i (put_mid k n v y)) (sym (length-take-le k v h)) ∙ drop-append_seam (take k v) (y ++ t) in
    let l : length (x ++ y) ≡ k + n = length-append x y ∙ ap₂ ◌+◌ e f in
    ap (λ (r : List ℕ). take (k + n) (x ++ r)) d
    ∙ ap₂ (λ (i : ℕ) (r : List ℕ). take i r) (sym l) (sym (append_assoc x y t))
    ∙ take-append_seam (x ++ y) t

-- ---- rows of a part of a word
pub row-bytes : (n : ℕ) (w : List ℕ) → n ≤ length w → row false n w ≡ take n w
unfolding row
row-bytes zero w h = refl
row-bytes (suc n) [] h = absurd (omega arith)
row-bytes (suc n) (b ∷ w) h = ap {B = List ℕ} (λ (r : List ℕ). b ∷ r) (row-bytes n w (omega arith))

pub row-part : (m k : ℕ) (w : List ℕ) → 2 * m ≤ k → row true m (take k w) ≡ row true m w
unfolding row
row-part zero k w h = refl
row-part (suc m) zero w h = absurd (omega arith)
row-part (suc m) (suc zero) w h = absurd (omega arith)
row-part (suc m) (suc (suc k)) [] h = refl
row-part (suc m) (suc (suc k)) (b ∷ []) h = refl
row-part (suc m) (suc (suc k)) (b ∷ c ∷ w) h = let e = row-part m k w (omega arith) in rw e refl

-- ---- what is left out as zeros, and then what is kept
module _ (d at : ℕ) (w v x y : List ℕ) (left first kept : ℕ) (e : first ≡ at - d) where
  cut-some : left ≡ min (d - at) (length v) → kept ≡ length v - left → (d - at - left ≡ 0) ⊎ (kept ≡ 0)
  cut-some l k = go (dec_lt 0 kept)
    where
      go : Dec (0 < kept) → (d - at - left ≡ 0) ⊎ (kept ≡ 0)
      go (yes h) = inl (omega arith)
      go (no h) = inr (omega arith)

  pub bytes-kept : left ≡ min (d - at) (length v) → kept ≡ length v - left → at + length v ≤ d + length w → x ≡ zero_word left → y ≡ take (first + kept - first) (drop first w)
      → x ++ y ≡ row false (length v) (drop at (fill d w))
  bytes-kept l k h f g =
      let b : left + kept ≡ length v = omega arith in
      let z : d - at ≡ 1 * left + (d - at - left) = omega arith in
      let o : 1 * left ≡ left = omega arith in
      let n = length-drop first w in
      let r : row false kept (drop first w) ≡ take kept (drop first w) = row-bytes kept (drop first w) (inside (cut-some l k)) in
      let m : first + kept - first ≡ kept = omega arith in
      ap₂ ◌++◌ f (g ∙ ap (λ (i : ℕ). take i (drop first w)) m ∙ sym r)
      ∙ ap₂ (λ (i j : ℕ). zero_word i ++ row false kept (drop j w)) (sym o) e
      ∙ sym (row_cut false d at left kept (d - at - left) w z (cut-some l k))
      ∙ ap (λ (i : ℕ). row false i (drop at (fill d w))) b
    where
      inside : (d - at - left ≡ 0) ⊎ (kept ≡ 0) → kept ≤ length (drop first w)
      inside (inl q) = let n = length-drop first w in omega arith
      inside (inr q) = omega arith

  -- the same of pairs, behind the weight 0 of a unit; pairs are left out whole
  module _ (c : (d - at) % 2 ≡ 0) (p : length v % 2 ≡ 0) (two : 2 ≤ length v) (l : left ≡ min (d - at) (length v - 2)) (k : kept ≡ length v - (2 + left)) where
    abbrev kept-part : List ℕ
    kept-part = take (first + kept - first) (drop first w)

    pub pairs-kept : x ≡ zero_word (2 + left) → y ≡ row true (kept / 2) kept-part → x ++ y ≡ 0 ∷ 0 ∷ row true (length v / 2 - 1) (drop at (fill d w))
    pairs-kept f g =
        let h : 2 + left ≡ suc (suc left) = omega arith in
        let b : left / 2 + kept / 2 ≡ length v / 2 - 1 = omega arith in
        let j : 2 * (left / 2) ≡ left = omega arith in
        let z : d - at ≡ 2 * (left / 2) + (d - at - left) = omega arith in
        ap₂ ◌++◌ (f ∙ ap zero_word h) (g ∙ row-part (kept / 2) (first + kept - first) (drop first w) (omega arith))
        ∙ ap {B = List ℕ} (λ (r : List ℕ). 0 ∷ 0 ∷ r)
        (ap₂ (λ (i j : ℕ). zero_word i ++ row true (kept / 2) (drop j w)) (sym j) e
        ∙ sym (row_cut true d at (left / 2) (kept / 2) (d - at - left) w z some)
        ∙ ap (λ (i : ℕ). row true i (drop at (fill d w))) b)
      where
        some : (d - at - left ≡ 0) ⊎ (kept / 2 ≡ 0)
        some = go (dec_lt 0 kept)
          where
            go : Dec (0 < kept) → (d - at - left ≡ 0) ⊎ (kept / 2 ≡ 0)
            go (yes h) = inl (omega arith)
            go (no h) = inr (omega arith)

    pub pairs-said : at + (length v - 2) ≤ d + length w → (t : Bool) → Says t kept-part 0 (length kept-part) → Says t (fill d w) at (at + (length v - 2))
    pairs-said h t s = says-filled d w t at (at + (length v - 2)) (rw (← e, ← m) (says-part w first (first + kept - first) kept (omega arith) t (subst (λ (i : ℕ). Says t kept-part 0 i) n s)))
      where
        m : first + kept ≡ at + (length v - 2) - d
        m = omega arith

        n : length kept-part ≡ kept
        n = length-take-le (first + kept - first) (drop first w) (let o = length-drop first w in omega arith) ∙ omega arith

-- the digit of two neighbours, by a list of all bytes but the first
pub next-digit : (w : List ℕ) (i d : ℕ) → i + 1 < length w → d ≡ digit (get_or w i 0) (get_or (take (length w - 1) (drop 1 w)) i 0) → d ≡ digit (get_or w (0 + i) 0) (get_or w (0 + i + 1) 0)
next-digit w i d h e =
    let z : 0 + i ≡ i = omega arith in
    let y : 1 + i ≡ i + 1 = omega arith in
    rw z (e ∙ ap (digit (get_or w i 0)) (part-at w 1 (length w - 1) i (omega arith) ∙ ap (λ (k : ℕ). get_or w k 0) y))

-- ---- pairs, the last of which is read alone
module _ (w v : List ℕ) (m : ℕ) (e : length w ≡ length v) (p : length v % 2 ≡ 0) (s : m ≡ length v - 2) (two : 2 ≤ length v) where
  pub rows-last : (x y : List ℕ) → x ≡ row true (m / 2) w → y ≡ row true 1 (take (length w - m) (drop m w)) → x ++ y ≡ row true (length v / 2) w
  rows-last x y f g =
      let i : 2 * (m / 2) ≡ m = omega arith in
      let j : m / 2 + 1 ≡ length v / 2 = omega arith in
      ap₂ ◌++◌ f (g ∙ row-part 1 (length w - m) (drop m w) (omega arith))
      ∙ ap (λ (n : ℕ). row true (m / 2) w ++ row true 1 (drop n w)) (sym i)
      ∙ sym (row_more true (m / 2) 1 w)
      ∙ ap (λ (n : ℕ). row true n w) j

  pub says-last : (x y z : ℕ) → Highest w 0 m x → Highest (take (length w - m) (drop m w)) 0 2 y → z ≡ max x y → Says (leb z 1) w 0 (length w)
  says-last x y z f g h =
      let n : m + 2 ≡ length w = omega arith in
      let l : Highest w m (length w) y = subst (λ (i : ℕ). Highest w m i y) n (highest-part w m (length w - m) 2 y (omega arith) g) in
      highest-says w 0 (length w) z (highest-join w 0 m m (length w) x y z f l (omega arith) (omega arith) (omega arith) h)

row-one : (w : List ℕ) → length w ≡ 2 → row true 1 w ≡ digit (get_or w 0 0) (get_or w 1 0) ∷ 0 ∷ []
unfolding row
row-one [] h = absurd (omega arith)
row-one (b ∷ []) h = absurd (omega arith)
row-one (b ∷ c ∷ w) h = refl

pub no-rows : (v w : List ℕ) → length v ≡ 0 → v ≡ row true (length v / 2) w
unfolding row
no-rows [] w h = refl
no-rows (b ∷ v) w h = absurd (omega arith)

two-set : (v : List ℕ) (x : ℕ) → length v ≡ 2 → set (set v 0 x) 1 0 ≡ x ∷ 0 ∷ []
two-set [] x h = absurd (omega arith)
two-set (b ∷ []) x h = absurd (omega arith)
two-set (b ∷ c ∷ []) x h = refl
two-set (b ∷ c ∷ d ∷ v) x h = absurd (omega arith)

pub two-laid : (v w : List ℕ) (x : ℕ) → length v ≡ 2 → length w ≡ 2 → x ≡ digit (get_or w 0 0) (get_or w 1 0) → set (set v 0 x) 1 0 ≡ row true 1 w
two-laid v w x h k e = two-set v x h ∙ ap (λ (y : ℕ). y ∷ 0 ∷ []) e ∙ sym (row-one w k)
