-- For the loops that lay the message out as weights: weights in a row, and the segments between two units. Assumes nothing.
use mathlib.Core.Path.{◌≡◌, refl, sym, ap, ap₂, subst, ◌∙◌}
use mathlib.Core.Bool.{Bool, true, false}
use mathlib.Core.List.{List, [], ◌∷◌, ◌++◌, append_assoc, append-nil}
use Prim.Native.Nat.{ℕ, zero, suc, ◌+◌, ◌-◌, ◌*◌, ◌%◌, ◌^◌, ◌<◌, ◌≤◌}
use native.Mathlib.Nat.{pow-succ', mod-eq_of_lt}
use native.Mathlib.Numerals.{add-one}
use native.Mathlib.Omega.{arith}
use lib.Bits.{bit_and, and_mask, and_zero_r}
use lib.Dec.{eqb}
use lib.ListN.{length, take, drop, get_or, set, length-set}
use lib.Seq.{take-suc, take-suc-set, take_all, take-set-le, get_or-drop, get_or-set_same, drop-drop}
use Rattle.group_theory.specs.Group.{moduli, hd, tl, size}
use Rattle.layout_theory.specs.Choice.{pick}
use Rattle.layout_theory.specs.Layout.{from, singles, pairs}
use Rattle.blocks_theory.specs.Blocks as blocks
use Rattle.blocks_theory.specs.Blocks.{level, plus_to, even_to}
use Rattle.blocks_theory.proofs.Levels.{plus-next, even-next, even-first, level-counts, plus_none}
use Rattle.blocks_theory.proofs.Splits.{pair-counts, plus-rises, pow_pos, pow-rises, even_power, message-counts}
use Rattle.folds_theory.specs.Folds.{room, Holds}
use Rattle.folds_theory.proofs.Levelling.{twelve}
use Rattle.words_theory.specs.Digits.{digit}
use Rattle.words_theory.proofs.Combining.{digit_lt}
use Rattle.loops_theory.specs.Spread.{width_of, spread, row, HoldsMessage, HoldsPairs}
use Rattle.loops_theory.proofs.Segments.{pair-segment, low-segment, even-segment, spread-zero, spread_none}

-- ---- weights in a row, by index
pub length-row : (p : Bool) (n : ℕ) (w : List ℕ) → length (row p n w) ≡ width_of p * n
unfolding row
length-row true zero w = refl
length-row false zero w = refl
length-row true (suc n) w = let i = length-row true n (tl (tl w)) in omega arith
length-row false (suc n) w = let i = length-row false n (tl w) in omega arith

pub get_or-tl : (w : List ℕ) (i : ℕ) → get_or (tl w) i 0 ≡ get_or w (suc i) 0
get_or-tl [] i = refl
get_or-tl (x ∷ w) i = refl

pub hd-get_or : (w : List ℕ) → hd w ≡ get_or w 0 0
hd-get_or [] = refl
hd-get_or (x ∷ w) = refl

pub byte_at : (n i : ℕ) (w : List ℕ) → i < n → get_or (row false n w) i 0 ≡ get_or w i 0
unfolding row
byte_at zero i w h = absurd (omega arith)
byte_at (suc n) zero w h = hd-get_or w
byte_at (suc n) (suc i) w h = byte_at n i (tl w) (omega arith) ∙ get_or-tl w i

abbrev neighbours : List ℕ → ℕ → ℕ
neighbours w i = pick (eqb (i % 2) 0) (digit (get_or w i 0) (get_or w (i + 1) 0)) 0

pub digit_at : (n i : ℕ) (w : List ℕ) → i < 2 * n → get_or (row true n w) i 0 ≡ neighbours w i
unfolding row
digit_at zero i w h = absurd (omega arith)
digit_at (suc n) zero w h = ap₂ digit (hd-get_or w) (hd-get_or (tl w) ∙ get_or-tl w 0)
digit_at (suc n) (suc zero) w h = refl
digit_at (suc n) (suc (suc i)) w h =
    let e : suc (suc i) % 2 ≡ i % 2 = omega arith in
    let a : suc (suc (i + 1)) ≡ suc (suc i) + 1 = omega arith in
    digit_at n i (tl (tl w)) (omega arith)
    ∙ ap₂ (λ (x y : ℕ). pick (eqb (i % 2) 0) (digit x y) 0) (get_or-tl (tl w) i ∙ get_or-tl w (suc i)) (get_or-tl (tl w) (i + 1) ∙ get_or-tl w (suc (i + 1)) ∙ ap (λ (k : ℕ). get_or w k 0) a)
    ∙ ap (λ (k : ℕ). pick (eqb k 0) (digit (get_or w (suc (suc i)) 0) (get_or w (suc (suc i) + 1) 0)) 0) (sym e)

-- ---- a loop that writes the first i of g behind the first k of v₀
pub record Copying (g v₀ : List ℕ) (k n : ℕ) (v : List ℕ) (i : ℕ) : Type 0 where
  pub within : i ≤ n
  pub enough : n ≤ length g
  pub same : length v ≡ length v₀
  pub fits : k + n ≤ length v₀
  pub front : take (k + i) v ≡ take k v₀ ++ take i g

pub copy_start : (g v : List ℕ) (k n : ℕ) → k + n ≤ length v → n ≤ length g → Copying g v k n v 0
copy_start g v k n h l =
    let e : k + 0 ≡ k = omega arith in
    record { within = omega arith; enough = l; same = refl; fits = h; front = rw e (sym (append-nil (take k v))) }

pub copy_step : (g v₀ : List ℕ) (k n : ℕ) (v : List ℕ) (i x : ℕ) → Copying g v₀ k n v i → i < n → x ≡ get_or g i 0 → Copying g v₀ k n (set v (k + i) x) (i + 1)
copy_step g v₀ k n v i x f h e =
    let s = f.same in
    let l = f.fits in
    let m = f.enough in
    let a : k + (i + 1) ≡ suc (k + i) = omega arith in
    record {
      within = omega arith;
      enough = m;
      same = length-set v (k + i) x ∙ s;
      fits = l;
      front = ap (λ (z : ℕ). take z (set v (k + i) x)) a ∙ take-suc-set v (k + i) x (omega arith)
          ∙ ap₂ (λ (r : List ℕ) (z : ℕ). r ++ (z ∷ [])) f.front e
          ∙ append_assoc (take k v₀) (take i g) (get_or g i 0 ∷ [])
          ∙ ap (λ (r : List ℕ). take k v₀ ++ r) (sym (take-suc g i 0 (omega arith)) ∙ ap (λ (z : ℕ). take z g) (sym (add-one i)));
    }

pub copy_done : (g v₀ : List ℕ) (k n : ℕ) (v : List ℕ) (i : ℕ) → Copying g v₀ k n v i → n ≤ i → take (k + n) v ≡ take k v₀ ++ take n g
copy_done g v₀ k n v i f h =
    let a = f.within in
    let z : i ≡ n = omega arith in
    ap (λ (j : ℕ). take (k + j) v) (sym z) ∙ f.front ∙ ap (λ (j : ℕ). take k v₀ ++ take j g) z

-- what the two loops write
pub byte-write : (w : List ℕ) (at n i : ℕ) → i < n → get_or w (at + i) 0 ≡ get_or (row false n (drop at w)) i 0
byte-write w at n i h = sym (byte_at n i (drop at w) h ∙ get_or-drop at w i 0)

pub digit-write : (w : List ℕ) (at n i : ℕ) → i < 2 * n → pick (eqb (i % 2) 0) (digit (get_or w (at + i) 0) (get_or w (at + i + 1) 0)) 0 ≡ get_or (row true n (drop at w)) i 0
digit-write w at n i h =
    let a : at + (i + 1) ≡ at + i + 1 = omega arith in
    sym (digit_at n i (drop at w) h
    ∙ ap₂ (λ (x y : ℕ). pick (eqb (i % 2) 0) (digit x y) 0) (get_or-drop at w i 0) (get_or-drop at w (i + 1) 0 ∙ ap (λ (k : ℕ). get_or w k 0) a))

pub digit-wrote : (w : List ℕ) (at n i d x : ℕ) → x ≡ pick (eqb (i % 2) 0) (d % 4) 0 → d ≡ digit (get_or w (at + i) 0) (get_or w (at + i + 1) 0) → i < 2 * n
    → x ≡ get_or (row true n (drop at w)) i 0
digit-wrote w at n i d x e f h =
    let l = digit_lt (get_or w (at + i) 0) (get_or w (at + i + 1) 0) in
    e ∙ ap (λ (y : ℕ). pick (eqb (i % 2) 0) y 0) (ap (λ (y : ℕ). y % 4) f ∙ mod-eq_of_lt l) ∙ digit-write w at n i h

-- the mask that keeps every other digit
pub masked : (d o : ℕ) → o < 2 → bit_and d (3 - 3 * o) ≡ pick (eqb o 0) (d % 4) 0
masked d zero k = and_mask d 2
masked d (suc zero) k = and_zero_r d
masked d (suc (suc o)) k = absurd (omega arith)

pub bytes-done : (w v₀ : List ℕ) (at k n : ℕ) (v : List ℕ) (i : ℕ) → Copying (row false n (drop at w)) v₀ k n v i → n ≤ i → take (k + n) v ≡ take k v₀ ++ row false n (drop at w)
bytes-done w v₀ at k n v i f h =
    let l = length-row false n (drop at w) in
    copy_done (row false n (drop at w)) v₀ k n v i f h ∙ ap (λ (r : List ℕ). take k v₀ ++ r) (take_all n (row false n (drop at w)) (omega arith))

-- ---- one segment of singles
single-written : (v u w : List ℕ) (k n at : ℕ) → k < length v → take (k + 1 + n) u ≡ take (k + 1) (set v k 0) ++ row false n (drop at w)
    → take (k + (1 + n)) u ≡ take k v ++ 0 ∷ row false n (drop at w)
single-written v u w k n at h e =
    let a : k + (1 + n) ≡ k + 1 + n = omega arith in
    ap (λ (i : ℕ). take i u) a ∙ e
    ∙ ap (λ (r : List ℕ). r ++ row false n (drop at w)) (ap (λ (i : ℕ). take i (set v k 0)) (add-one k) ∙ take-suc-set v k 0 h)
    ∙ append_assoc (take k v) (0 ∷ []) (row false n (drop at w))

-- the same, as the functions leave it one after the other
pub single-done : (v x u w : List ℕ) (k n at : ℕ) → k < length v → x ≡ set v k 0 → take (k + 1 + n) u ≡ take (k + 1) x ++ row false n (drop at w)
    → take (k + (1 + n)) u ≡ take k v ++ 0 ∷ row false n (drop at w)
single-done v x u w k n at h e f = single-written v u w k n at h (f ∙ ap (λ (q : List ℕ). take (k + 1) q ++ row false n (drop at w)) e)

-- ---- the loop of `pairs`
pub record Pairing (a b part : ℕ) (w v₀ v : List ℕ) (p e at j : ℕ) : Type 0 where
  pub within : j ≤ b
  pub plusses : p ≡ plus_to a b j
  pub evens : e ≡ even_to a b j
  pub place : at + 2 * j ≡ part + 2 * p
  pub rises : j ≤ p
  pub holds : HoldsPairs a b (length v₀)
  pub wide : length v ≡ length v₀
  pub front : take (2 * p) v ≡ spread true (moduli a b) (blocks.plus (level a b j)) (drop part w)

-- ---- the loop of `singles`
pub record Singling (a b start : ℕ) (w v₀ v : List ℕ) (n at i : ℕ) : Type 0 where
  pub within : i ≤ a
  pub power : n ≡ 2 ^ i
  pub place : at + i + 1 ≡ n
  pub holds : Holds a b (length v₀)
  pub wide : length v ≡ length v₀
  pub front : take (start + n) v ≡ take start v₀ ++ spread false (moduli a b) (from 0 (2 ^ i)) w

-- what its next segment asks of the bytes and of the weights, and what the bytes after the last segment ask
abbrev pub SegmentAsks : List ℕ → List ℕ → ℕ → ℕ → ℕ → Type 0
SegmentAsks w v start n at = (0 < n) × (at + (n - 1) ≤ length w) × (start + n + (1 + (n - 1)) ≤ length v) × (length v ≤ room) × (2 * n ≤ room)

abbrev pub RestAsks : List ℕ → List ℕ → ℕ → ℕ → ℕ → ℕ → Type 0
RestAsks w v start e n at = (n ≤ e) × (at + (e - n) ≤ length w) × (start + n + (e - n) ≤ length v) × (length v ≤ room)

module _ (a b count part : ℕ) (w : List ℕ) (L : HoldsMessage a b count part (length w)) where
  components : a + b ≤ 12
  components = twelve a b L.few

  -- how many numbers there are
  pub shares : (count ≡ 2 * plus_to a b b + even_to a b b) × (part + a + 1 ≡ even_to a b b) × (length (pairs (moduli a b)) + b ≡ plus_to a b b) × (count ≤ size (moduli a b))
  shares =
      let t = message-counts a b components in
      let t0 = t.0 in
      let t2 = t.2 in
      let al = L.all in
      let fr = L.front in
      (omega arith, omega arith, t.1, omega arith)

  pub pairing-start : (v : List ℕ) (e : ℕ) → e ≡ 2 ^ a → HoldsPairs a b (length v) → Pairing a b part w v v 0 e part 0
  pairing-start v e h l =
      record {
        within = omega arith;
        plusses = sym (ap length (plus_none a b));
        evens = h ∙ sym (even-first a b components);
        place = omega arith;
        rises = omega arith;
        holds = l;
        wide = refl;
        front = sym (spread_none a b components (drop part w));
      }

  -- what a segment asks
  pub record Segment (p e at j : ℕ) : Type 0 where
    pub next : 4 * p + e ≡ plus_to a b (suc j)
    pub some : 0 < 3 * p + e
    pub bytes : at + 2 * (3 * p + e - 1) ≤ length w
    pub fits : 2 * p + (2 + 2 * (3 * p + e - 1)) ≤ 2 * plus_to a b b
    pub few : e ≤ plus_to a b b

  pub pairing-asks : (v₀ v : List ℕ) (p e at j : ℕ) → Pairing a b part w v₀ v p e at j → j < b → Segment p e at j
  pairing-asks v₀ v p e at j f h =
      let c = components in
      let x = f.plusses in
      let y = f.evens in
      let z = f.place in
      let n = plus-next a b c j h in
      let m = (level-counts a b c j (omega arith)).0 in
      let k : suc j + (b - suc j) ≡ b = omega arith in
      let r : plus_to a b (suc j) + (b - suc j) ≤ plus_to a b b =
      subst (λ (t : ℕ). plus_to a b (suc j) + (b - suc j) ≤ plus_to a b t) k (plus-rises a b c (suc j) (b - suc j) (omega arith)) in
      let q : 4 * p + e ≡ plus_to a b (suc j) = omega arith in
      let u = pair-counts a b c j h in
      let s = shares in
      let s0 = s.0 in
      let s2 = s.2 in
      let s3 = s.3 in
      let en = L.enough in
      let fr = L.front in
      let o : 0 < 3 * p + e = more p e (plus_to a b j) (plus_to a b (suc j)) _ q x u in
      record {
        next = q;
        some = o;
        bytes = reach p e at j (plus_to a b (suc j)) (b - suc j) (plus_to a b b) (length (singles (moduli a b))) (length (pairs (moduli a b))) q z r s2 fr en k o;
        fits = fit p e (plus_to a b (suc j)) (b - suc j) (plus_to a b b) q r o;
        few = small p e (plus_to a b (suc j)) (b - suc j) (plus_to a b b) q r;
      }
    where
      more : (p e x y n : ℕ) → 4 * p + e ≡ y → p ≡ x → y ≡ x + suc n → 0 < 3 * p + e
      more p e x y n q f u = omega arith

      fit : (p e y k z : ℕ) → 4 * p + e ≡ y → y + k ≤ z → 0 < 3 * p + e → 2 * p + (2 + 2 * (3 * p + e - 1)) ≤ 2 * z
      fit p e y k z q r o = omega arith

      small : (p e y k z : ℕ) → 4 * p + e ≡ y → y + k ≤ z → e ≤ z
      small p e y k z q r = omega arith

      reach : (p e at j y k z s t : ℕ) → 4 * p + e ≡ y → at + 2 * j ≡ part + 2 * p → y + k ≤ z → t + b ≡ z → part ≡ s → s + 2 * t ≤ length w → suc j + k ≡ b → 0 < 3 * p + e
          → at + 2 * (3 * p + e - 1) ≤ length w
      reach p e at j y k z s t q f r u g h l o = omega arith

  pub pairing_step : (v₀ v : List ℕ) (p e at j : ℕ) → Pairing a b part w v₀ v p e at j → j < b → (v' : List ℕ) → length v' ≡ length v
      → take (2 * p + (2 + 2 * (3 * p + e - 1))) v' ≡ take (2 * p) v ++ 0 ∷ 0 ∷ row true (3 * p + e - 1) (drop at w)
      → Pairing a b part w v₀ v' (4 * p + e) (2 * e) (at + 2 * (3 * p + e - 1)) (j + 1)
  pairing_step v₀ v p e at j f h v' l g =
      let c = components in
      let s = pairing-asks v₀ v p e at j f h in
      let x = f.plusses in
      let y = f.evens in
      let z = f.place in
      let m = even-next a b c j h in
      let q = s.next in
      let o = s.some in
      let J : j + 1 ≡ suc j = omega arith in
      let n = 3 * p + e - 1 in
      let k : 2 * p + (2 + 2 * n) ≡ 2 * (4 * p + e) = omega arith in
      let i : n + 1 + plus_to a b j ≡ plus_to a b (suc j) = omega arith in
      let g2 = f.rises in
      let o0 : 2 * p - 2 * j + 2 * j ≡ 2 * plus_to a b j = omega arith in
      let o1 : part + (2 * p - 2 * j) ≡ at = omega arith in
      let d : drop (2 * p - 2 * j) (drop part w) ≡ drop at w = drop-drop (2 * p - 2 * j) part w ∙ ap (λ (t : ℕ). drop t w) o1 in
      rw J
      (record {
        within = omega arith;
        plusses = q;
        evens = omega arith;
        place = omega arith;
        rises = omega arith;
        holds = f.holds;
        wide = l ∙ f.wide;
        front = ap (λ (t : ℕ). take t v') (sym k) ∙ g
            ∙ ap₂ (λ (r t : List ℕ). r ++ 0 ∷ 0 ∷ row true n t) f.front (sym d)
            ∙ sym (pair-segment a b c j h n (2 * p - 2 * j) i o0 (drop part w));
      })

  pub pairing-done : (v₀ v : List ℕ) (p e at j : ℕ) → Pairing a b part w v₀ v p e at j → b ≤ j
      → take (2 * plus_to a b b) v ≡ spread true (moduli a b) (blocks.plus (level a b b)) (drop part w)
  pairing-done v₀ v p e at j f h =
      let i = f.within in
      let z : j ≡ b = omega arith in
      ap (λ (t : ℕ). take (2 * t) v) (sym (f.plusses ∙ ap (plus_to a b) z)) ∙ f.front
      ∙ ap (λ (t : ℕ). spread true (moduli a b) (blocks.plus (level a b t)) (drop part w)) z

  -- ---- singles
  pub record SinglesRoom (e start : ℕ) : Type 0 where
    pub evens : e ≡ even_to a b b
    pub pairs : start ≡ 2 * plus_to a b b
    pub whole : start + e ≡ count
    pub fits : count ≤ size (moduli a b)
    pub some : 2 ^ a ≤ e
    pub bytes : e ≤ length w + a + 1
    pub space : start < size (moduli a b)

  pub room_for : (e start : ℕ) → e ≡ part + a + 1 → start ≡ count - e → SinglesRoom e start
  room_for e start x y =
      let s = shares in
      let s0 = s.0 in
      let s1 = s.1 in
      let en = L.enough in
      let fr = L.front in
      let p = even_power a b components b (omega arith) in
      let r = pow-rises a b components a b in
      record { evens = omega arith; pairs = omega arith; whole = omega arith; fits = s.3; some = omega arith; bytes = omega arith; space = space (size (moduli a b)) s0 s1 s.3 x y }
    where
      space : (k : ℕ) → count ≡ 2 * plus_to a b b + even_to a b b → part + a + 1 ≡ even_to a b b → count ≤ k → e ≡ part + a + 1 → start ≡ count - e → start < k
      space k h i l m n = omega arith

  pub singling-start : (start : ℕ) (v u : List ℕ) → Holds a b (length v) → start < size (moduli a b) → u ≡ set v start 0 → Singling a b start w u u 1 0 0
  singling-start start v u l h e =
      let k : length u ≡ length v = ap length e ∙ length-set v start 0 in
      let en = l.enough in
      record {
        within = omega arith;
        power = refl;
        place = refl;
        holds = rw k l;
        wide = refl;
        front = ap (λ (i : ℕ). take i u) (add-one start) ∙ take-suc u start 0 (omega arith)
            ∙ ap (λ (x : ℕ). take start u ++ (x ∷ [])) (ap (λ (q : List ℕ). get_or q start 0) e ∙ get_or-set_same v start 0 0 (omega arith))
            ∙ ap (λ (r : List ℕ). take start u ++ r) (sym (spread-zero a b components w));
      }

  pub singling-asks : (e start : ℕ) → SinglesRoom e start → (v₀ v : List ℕ) (n at i : ℕ) → Singling a b start w v₀ v n at i → i < a
      → SegmentAsks w v start n at
  singling-asks e start R v₀ v n at i f h =
      let x = f.power in
      let y = f.place in
      let wd = f.wide in
      let hl = f.holds in
      let en = hl.enough in
      let p2 = pow-succ' 2 i in
      let k : suc i + (a - suc i) ≡ a = omega arith in
      let r : 2 ^ suc i + (a - suc i) ≤ 2 ^ a = subst (λ (t : ℕ). 2 ^ suc i + (a - suc i) ≤ 2 ^ t) k (pow-rises a b components (suc i) (a - suc i)) in
      let p = pow_pos a b components i in
      let ro = R.whole in
      let rf = R.fits in
      let rs = R.some in
      let rb = R.bytes in
      go n at i (2 ^ suc i) (a - suc i) (2 ^ a) (omega arith) y k r ro (omega arith) rs rb (omega arith) (rw wd hl.most)
    where
      go : (n at i q k z : ℕ) → q ≡ 2 * n → at + i + 1 ≡ n → suc i + k ≡ a → q + k ≤ z → start + e ≡ count → count ≤ length v → z ≤ e → e ≤ length w + a + 1 → 0 < n → length v ≤ room
          → SegmentAsks w v start n at
      go n at i q k z x y l r ro rf rs rb p wd = (p, omega arith, omega arith, wd, omega arith)

  pub singling-step : (e start : ℕ) → SinglesRoom e start → (v₀ v : List ℕ) (n at i : ℕ) → Singling a b start w v₀ v n at i → i < a → (v' : List ℕ) → length v' ≡ length v
      → take (start + n + (1 + (n - 1))) v' ≡ take (start + n) v ++ 0 ∷ row false (n - 1) (drop at w)
      → Singling a b start w v₀ v' (2 * n) (at + (n - 1)) (i + 1)
  singling-step e start R v₀ v n at i f h v' l g =
      let x = f.power in
      let y = f.place in
      let p = pow_pos a b components i in
      let p2 = pow-succ' 2 i in
      let J : i + 1 ≡ suc i = omega arith in
      let k : start + n + (1 + (n - 1)) ≡ start + 2 * n = omega arith in
      let d : n - 1 ≡ 2 ^ i - 1 = omega arith in
      rw J
      (record {
        within = omega arith;
        power = omega arith;
        place = omega arith;
        holds = f.holds;
        wide = l ∙ f.wide;
        front = ap (λ (t : ℕ). take t v') (sym k) ∙ g
            ∙ ap₂ (λ (r : List ℕ) (t : ℕ). r ++ 0 ∷ row false t (drop at w)) f.front d
            ∙ append_assoc (take start v₀) (spread false (moduli a b) (from 0 (2 ^ i)) w) (0 ∷ row false (2 ^ i - 1) (drop at w))
            ∙ ap (λ (r : List ℕ). take start v₀ ++ r) (sym (low-segment a b components i h at (omega arith) w));
      })

  -- after the last unit
  pub singling-end : (e start : ℕ) → SinglesRoom e start → (v₀ v : List ℕ) (n at i : ℕ) → Singling a b start w v₀ v n at i → a ≤ i
      → RestAsks w v start e n at
  singling-end e start R v₀ v n at i f h =
      let wi = f.within in
      let x = f.power in
      let y = f.place in
      let wd = f.wide in
      let z : i ≡ a = omega arith in
      let x1 : n ≡ 2 ^ a = x ∙ ap (λ (t : ℕ). 2 ^ t) z in
      let ro = R.whole in
      let rf = R.fits in
      let rs = R.some in
      let rb = R.bytes in
      let en = f.holds.enough in
      let mo = f.holds.most in
      (omega arith, omega arith, omega arith, omega arith)

  pub singling-done : (e start : ℕ) → SinglesRoom e start → (o v₀ v : List ℕ) (n at i : ℕ) → v₀ ≡ set o start 0 → Singling a b start w v₀ v n at i → a ≤ i → (v' : List ℕ)
      → take (start + n + (e - n)) v' ≡ take (start + n) v ++ row false (e - n) (drop at w)
      → take count v' ≡ take (2 * plus_to a b b) o ++ spread false (moduli a b) (blocks.even (level a b b)) w
  singling-done e start R o v₀ v n at i c f h v' g =
      let wi = f.within in
      let y = f.place in
      let z : i ≡ a = omega arith in
      let x1 : n ≡ 2 ^ a = f.power ∙ ap (λ (t : ℕ). 2 ^ t) z in
      let ro = R.whole in
      let rs = R.some in
      let re = R.evens in
      let k : start + n + (e - n) ≡ count = omega arith in
      let s = even-segment a b components (e - n) at (omega arith) (omega arith) w in
      ap (λ (t : ℕ). take t v') (sym k) ∙ g
      ∙ ap (λ (r : List ℕ). r ++ row false (e - n) (drop at w)) (f.front ∙ ap (λ (t : ℕ). take start v₀ ++ spread false (moduli a b) (from 0 (2 ^ t)) w) z)
      ∙ append_assoc (take start v₀) (spread false (moduli a b) (from 0 (2 ^ a)) w) (row false (e - n) (drop at w))
      ∙ ap₂ (λ (t r : List ℕ). t ++ r) (ap (take start) c ∙ take-set-le start o start 0 (omega arith)) (sym s)
      ∙ ap (λ (t : ℕ). take t o ++ spread false (moduli a b) (blocks.even (level a b b)) w) R.pairs
