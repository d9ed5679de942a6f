-- For the loops over neighbouring bytes: each writes one list over the front of a slice and totals another one modulo 4. Assumes nothing.
use mathlib.Core.Path.{◌≡◌, refl, sym, ap, ap₂, ◌∙◌}
use mathlib.Core.List.{List, [], ◌∷◌, ◌++◌, append-nil}
use Prim.Native.Nat.{ℕ, zero, suc, ◌+◌, ◌-◌, ◌*◌, ◌%◌, ◌^◌, ◌<◌, ◌≤◌}
use native.Mathlib.Omega.{arith}
use native.Mathlib.Numerals.{add-one}
use lib.ListN.{length, take, drop, get_or, set, length-set}
use lib.Seq.{paste, paste-zero, paste-suc, drop-paste, take-suc, take_all, drop-length, get_or-take, get_or-drop, length-take-le}
use Rattle.std.specs.List.{fold}
use Rattle.group_theory.specs.Group.{four, hd, tl}
use Rattle.group_theory.specs.Weights.{added, total}
use Rattle.group_theory.proofs.Fill.{sum-mod}
use Rattle.group_theory.proofs.Weights.{length-added, rest, total-append}
use Rattle.folds_theory.specs.Folds.{stretch, double, triple}
use Rattle.folds_theory.proofs.Offs.{length-stretch}

-- ---- the first i of g are written over the front of s, which makes v; c is the total of the first i of t
pub record Gathering (g t s v : List ℕ) (c i : ℕ) : Type 0 where
  pub within : i ≤ length g
  pub fits : length g ≤ length s
  pub fellows : length t ≡ length g
  pub same : length v ≡ length s
  pub bytes : v ≡ paste s 0 g i
  pub sum : c % 4 ≡ total (take i t) % 4

-- one more in a total that wraps
totalled : (t : List ℕ) (c i y c' : ℕ) → i < length t → c % 4 ≡ total (take i t) % 4 → y % 4 ≡ get_or t i 0 % 4 → c' ≡ (c + y) % 2 ^ 8
    → c' % 4 ≡ total (take (i + 1) t) % 4
unfolding total
totalled t c i y c' h e f g =
    let p : total (take (suc i) t) ≡ total (take i t) + (get_or t i 0 % 4 + 0) = ap total (take-suc t i 0 h) ∙ total-append (take i t) (get_or t i 0 ∷ []) in
    let q : total (take i t) + (get_or t i 0 % 4 + 0) ≡ total (take i t) + get_or t i 0 % 4 = omega arith in
    ap (λ (j : ℕ). j % 4) g
    ∙ wrapped (c + y)
    ∙ rest c (total (take i t)) y (get_or t i 0 % 4) e (f ∙ sym (again (get_or t i 0)))
    ∙ ap (λ (j : ℕ). j % 4) (sym (p ∙ q))
    ∙ ap (λ (j : ℕ). total (take j t) % 4) (sym (add-one i))
  where
    wrapped : (z : ℕ) → z % 2 ^ 8 % 4 ≡ z % 4
    wrapped z = omega arith

    again : (z : ℕ) → z % 4 % 4 ≡ z % 4
    again z = omega arith

module _ (g t s : List ℕ) where
  pub gather-start : length g ≤ length s → length t ≡ length g → Gathering g t s s 0 0
  unfolding total
  gather-start h e = record { within = omega arith; fits = h; fellows = e; same = refl; bytes = paste-zero s 0 g; sum = refl }

  -- what is read is as it was
  pub gather-read : (v : List ℕ) (c i k : ℕ) → Gathering g t s v c i → i ≤ k → get_or v k 0 ≡ get_or s k 0
  gather-read v c i k f h =
      let w = f.within in
      let z : 0 + i + (k - i) ≡ k = omega arith in
      let d : drop (0 + i) v ≡ drop (0 + i) s = ap (drop (0 + i)) f.bytes ∙ drop-paste s 0 g i (omega arith) w in
      ap (λ (n : ℕ). get_or v n 0) (sym z) ∙ sym (get_or-drop (0 + i) v (k - i) 0) ∙ ap (λ (r : List ℕ). get_or r (k - i) 0) d
      ∙ get_or-drop (0 + i) s (k - i) 0 ∙ ap (λ (n : ℕ). get_or s n 0) z

  pub gather-step : (v : List ℕ) (c i : ℕ) → Gathering g t s v c i → i < length g → (x y : ℕ) → x ≡ get_or g i 0 → y % 4 ≡ get_or t i 0 % 4
      → Gathering g t s (set v i x) ((c + y) % 2 ^ 8) (i + 1)
  gather-step v c i f h x y ex ey =
      let l = f.fits in
      let e = f.fellows in
      let z : i ≡ 0 + i = omega arith in
      record {
        within = omega arith;
        fits = l;
        fellows = e;
        same = length-set v i x ∙ f.same;
        bytes = ap₂ (λ (r : List ℕ) (j : ℕ). set r j x) f.bytes z
            ∙ ap (set (paste s 0 g i) (0 + i)) ex
            ∙ paste-suc s 0 g i 0 (omega arith) h
            ∙ ap (paste s 0 g) (sym (add-one i));
        sum = totalled t c i y ((c + y) % 2 ^ 8) (omega arith) f.sum ey refl;
      }

  pub gather-done : (v : List ℕ) (c i n : ℕ) → Gathering g t s v c i → n ≤ i → length g ≡ n → (c % 4 ≡ total t % 4) × (v ≡ g ++ drop n s)
  gather-done v c i n f h l =
      let w = f.within in
      let e = f.fellows in
      let z : 0 + i ≡ n = omega arith in (
        f.sum ∙ ap (λ (r : List ℕ). total r % 4) (take_all i t (omega arith)),
        f.bytes ∙ ap₂ (λ (p q : List ℕ). p ++ q) (take_all i g (omega arith)) (ap (λ (k : ℕ). drop k s) z),
      )

  -- all of s is written
  pub gather-whole : (v : List ℕ) (c i : ℕ) → Gathering g t s v c i → length s ≤ i → length g ≡ length s → (c % 4 ≡ total t % 4) × (v ≡ g)
  gather-whole v c i f h l =
      let d = gather-done v c i (length s) f h l in
      (d.0, d.1 ∙ ap (λ (r : List ℕ). g ++ r) (drop-length s) ∙ append-nil g)

-- ---- by index, modulo 4
pub added-at : (u v : List ℕ) (i : ℕ) → i < length u → get_or (added u v) i 0 ≡ (get_or u i 0 + get_or v i 0) % 4
unfolding added
added-at [] v i h = absurd (omega arith)
added-at (p ∷ u) [] zero h = sum-mod four p 0
added-at (p ∷ u) (q ∷ v) zero h = sum-mod four p q
added-at (p ∷ u) [] (suc i) h = added-at u [] i (omega arith)
added-at (p ∷ u) (q ∷ v) (suc i) h = added-at u v i (omega arith)

pub stretch-at : (k n : ℕ) (v : List ℕ) (i : ℕ) → i < n → get_or (stretch k n v) i 0 ≡ get_or v (k + i) 0
stretch-at k n v i h = get_or-take n (drop k v) i 0 h ∙ get_or-drop k v i 0

-- equal modulo 4
abbrev Same : ℕ → ℕ → Type 0
Same x y = x % 4 ≡ y % 4

less : (x : ℕ) → Same (x % 4) x
less x = omega arith

-- a list has at index i, modulo 4, what x is
abbrev Has : List ℕ → ℕ → ℕ → Type 0
Has u i x = (i < length u) × Same (get_or u i 0) x

module _ (u v : List ℕ) (i x y : ℕ) where
  sum-has : Has u i x → Has v i y → Has (added u v) i (x + y)
  sum-has h k =
      let l = length-added u v in
      let h0 = h.0 in
      (omega arith, ap (λ (z : ℕ). z % 4) (added-at u v i h0) ∙ less (get_or u i 0 + get_or v i 0) ∙ rest (get_or u i 0) x (get_or v i 0) y h.1 k.1)

  -- and exactly, for the sums are made modulo 4
  sum_is : Has u i x → Has v i y → get_or (added u v) i 0 ≡ (x + y) % 4
  sum_is h k = added-at u v i h.0 ∙ rest (get_or u i 0) x (get_or v i 0) y h.1 k.1

double-has : (u : List ℕ) (i x : ℕ) → Has u i x → Has (double u) i (x + x)
double-has u i x h = sum-has u u i x x h h

triple-has : (u : List ℕ) (i x : ℕ) → Has u i x → Has (triple u) i (x + (x + x))
triple-has u i x h = sum-has u (double u) i x (x + x) h (double-has u i x h)

-- a byte of a list
byte-has : (u : List ℕ) (i : ℕ) → i < length u → Has u i (get_or u i 0 % 4)
byte-has u i h = (h, sym (less (get_or u i 0)))

-- a byte read from v, where s still stands
read-has : (g t s v : List ℕ) (c i : ℕ) → Gathering g t s v c i → i < length s → Has s i (get_or v i 0 % 4)
read-has g t s v c i f h =
    (h, ap (λ (y : ℕ). y % 4) (sym (gather-read g t s v c i i f (omega arith))) ∙ sym (less (get_or v i 0)))

-- a byte read from v behind an index, where s still stands
behind-has : (g t s v : List ℕ) (c i k n : ℕ) → Gathering g t s v c i → i < n → k + n ≤ length s → Has (stretch k n s) i (get_or v (k + i) 0 % 4)
behind-has g t s v c i k n f h l =
    let z = length-stretch k n s l in
    (omega arith, ap (λ (y : ℕ). y % 4) (stretch-at k n s i h ∙ sym (gather-read g t s v c i (k + i) f (omega arith))) ∙ sym (less (get_or v (k + i) 0)))

-- ---- the loop of `halve`
abbrev pub InHalves : ℕ → List ℕ → List ℕ → ℕ → ℕ → Type 0
InHalves n s v c i = Gathering (added (take n s) (stretch n n s)) (stretch n n s) s v c i

module _ (n : ℕ) (s : List ℕ) (h : n + n ≤ length s) where
  abbrev low : List ℕ
  low = take n s

  abbrev high : List ℕ
  high = stretch n n s

  pub halve-length : length (added low high) ≡ n
  halve-length = length-added low high ∙ length-take-le n s (omega arith)

  pub halve-start : InHalves n s s 0 0
  halve-start =
      let l = halve-length in let k = length-stretch n n s h in gather-start (added low high) high s (omega arith) (omega arith)

  pub halve-step : (v : List ℕ) (c i : ℕ) → InHalves n s v c i → i < n
      → InHalves n s (set v i ((get_or v i 0 % 4 + get_or v (n + i) 0 % 4) % 4)) ((c + get_or v (n + i) 0 % 4) % 2 ^ 8) (i + 1)
  halve-step v c i f k =
      let l = halve-length in
      let r0 : Has low i (get_or v i 0 % 4) =
      let r = read-has (added low high) high s v c i f (omega arith) in
      (l-low k, ap (λ (y : ℕ). y % 4) (get_or-take n s i 0 k) ∙ r.1) in
      let r1 = behind-has (added low high) high s v c i n n f k h in
      gather-step (added low high) high s v c i f (omega arith) _ _ (sym (sum_is low high i _ _ r0 r1)) (sym r1.1)
    where
      l-low : i < n → i < length low
      l-low k = let e = length-take-le n s (omega arith) in omega arith

  pub halve-done : (v : List ℕ) (c i : ℕ) → InHalves n s v c i → n ≤ i → (c % 4 ≡ total high % 4) × (v ≡ added low high ++ drop n s)
  halve-done v c i f k = gather-done (added low high) high s v c i n f k halve-length

-- ---- `total`
pub total-fold : (c : ℕ) (v : List ℕ) → fold (λ c x. (c + x) % 2 ^ 8) c v % 4 ≡ (c + total v) % 4
unfolding total
total-fold c [] = omega arith
total-fold c (x ∷ v) = let h = total-fold ((c + x) % 2 ^ 8) v in omega arith

-- ---- the loop of `gather_three`
module _ (x y z : List ℕ) where
  abbrev front : List ℕ
  front = added x (added y z)

  abbrev tops : List ℕ
  tops = added (double y) (triple z)

  abbrev pub MixingThree : List ℕ → ℕ → ℕ → Type 0
  MixingThree v c i = Gathering (added x (added y z)) (added (double y) (triple z)) x v c i

  length-tops : length tops ≡ length y
  length-tops = length-added (double y) (triple z) ∙ length-added y y

  pub three-start : length y ≡ length x → MixingThree x 0 0
  three-start hy =
      let l = length-added x (added y z) in let k = length-tops in gather-start front tops x (omega arith) (omega arith)

  pub three-step : length y ≡ length x → length z ≡ length x → (v : List ℕ) (c i : ℕ) → MixingThree v c i → i < length x
      → MixingThree (set v i ((get_or v i 0 % 4 + get_or y i 0 % 4 + get_or z i 0 % 4) % 4)) ((c + (2 * (get_or y i 0 % 4) + 3 * (get_or z i 0 % 4))) % 2 ^ 8) (i + 1)
  three-step hy hz v c i f k =
      let l = length-added x (added y z) in
      let p = get_or v i 0 % 4 in
      let q = get_or y i 0 % 4 in
      let r = get_or z i 0 % 4 in
      let rx : Has x i p = read-has front tops x v c i f k in
      let ry : Has y i q = byte-has y i (omega arith) in
      let rz : Has z i r = byte-has z i (omega arith) in
      let a : p + (q + r) ≡ p + q + r = omega arith in
      let d : q + q + (r + (r + r)) ≡ 2 * q + 3 * r = omega arith in
      gather-step front tops x v c i f (omega arith) ((p + q + r) % 4) (2 * q + 3 * r)
      (sym (sum_is x (added y z) i p (q + r) rx (sum-has y z i q r ry rz) ∙ ap (λ (n : ℕ). n % 4) a))
      (sym ((sum-has (double y) (triple z) i (q + q) (r + (r + r)) (double-has y i q ry) (triple-has z i r rz)).1 ∙ ap (λ (n : ℕ). n % 4) d))

  pub three-done : (v : List ℕ) (c i : ℕ) → MixingThree v c i → length x ≤ i → (c % 4 ≡ total tops % 4) × (v ≡ front)
  three-done v c i f k = gather-whole front tops x v c i f k (length-added x (added y z))

-- ---- the loop of `gather`: four lists, and for each index the sum of what they have there, each times a digit
pub mixed : ℕ → ℕ → ℕ → ℕ → List ℕ → List ℕ → List ℕ → List ℕ → List ℕ
mixed A B C D [] y z w = []
mixed A B C D (p ∷ x) y z w = (A * (p % 4) + B * (hd y % 4) + C * (hd z % 4) + D * (hd w % 4)) ∷ mixed A B C D x (tl y) (tl z) (tl w)

head-at : (y : List ℕ) → hd y ≡ get_or y 0 0
head-at [] = refl
head-at (q ∷ y) = refl

tail-at : (y : List ℕ) (i : ℕ) → get_or (tl y) i 0 ≡ get_or y (suc i) 0
tail-at [] zero = refl
tail-at [] (suc i) = refl
tail-at (q ∷ y) i = refl

length-tail : (y : List ℕ) (n : ℕ) → length y ≤ suc n → length (tl y) ≤ n
length-tail [] n h = omega arith
length-tail (q ∷ y) n h = omega arith

total-tail : (y : List ℕ) → total y ≡ hd y % 4 + total (tl y)
unfolding total
total-tail [] = refl
total-tail (q ∷ y) = refl

total-none : (y : List ℕ) → length y ≤ 0 → total y ≡ 0
unfolding total
total-none [] h = refl
total-none (q ∷ y) h = absurd (omega arith)

module _ (A B C D : ℕ) where
  length-mixed : (x y z w : List ℕ) → length (mixed A B C D x y z w) ≡ length x
  unfolding mixed
  length-mixed [] y z w = refl
  length-mixed (p ∷ x) y z w = ap suc (length-mixed x (tl y) (tl z) (tl w))

  mixed-at : (x y z w : List ℕ) (i : ℕ) → i < length x
      → get_or (mixed A B C D x y z w) i 0 ≡ A * (get_or x i 0 % 4) + B * (get_or y i 0 % 4) + C * (get_or z i 0 % 4) + D * (get_or w i 0 % 4)
  unfolding mixed
  mixed-at [] y z w i h = absurd (omega arith)
  mixed-at (p ∷ x) y z w zero h =
      let e = head-at y in let f = head-at z in let g = head-at w in cc
  mixed-at (p ∷ x) y z w (suc i) h =
      let e = tail-at y i in let f = tail-at z i in let g = tail-at w i in let m = mixed-at x (tl y) (tl z) (tl w) i (omega arith) in cc

  total-mixed : (x y z w : List ℕ) → length y ≤ length x → length z ≤ length x → length w ≤ length x
      → total (mixed A B C D x y z w) % 4 ≡ (A * total x + B * total y + (C * total z + D * total w)) % 4
  unfolding mixed total
  total-mixed [] y z w hy hz hw =
      let e : total y ≡ 0 = total-none y hy in
      let f : total z ≡ 0 = total-none z hz in
      let g : total w ≡ 0 = total-none w hw in
      rw (e, f, g) (zeros A B C D)
    where
      zeros : (A B C D : ℕ) → 0 % 4 ≡ (A * 0 + B * 0 + (C * 0 + D * 0)) % 4
      zeros A B C D = omega arith
  total-mixed (p ∷ x) y z w hy hz hw =
      rw (total-tail y, total-tail z, total-tail w)
      (step A B C D (p % 4) (hd y % 4) (hd z % 4) (hd w % 4) (total x) (total (tl y)) (total (tl z)) (total (tl w)) (total (mixed A B C D x (tl y) (tl z) (tl w)))
      (total-mixed x (tl y) (tl z) (tl w) (length-tail y _ hy) (length-tail z _ hz) (length-tail w _ hw)))
    where
      step : (A B C D p q r s P Q R S T : ℕ) → T % 4 ≡ (A * P + B * Q + (C * R + D * S)) % 4
          → ((A * p + B * q + C * r + D * s) % 4 + T) % 4 ≡ (A * (p + P) + B * (q + Q) + (C * (r + R) + D * (s + S))) % 4
      step A B C D p q r s P Q R S T h = omega (arith, h)

module _ (A B C D : ℕ) (x y z w : List ℕ) where
  abbrev sums : List ℕ
  sums = added (added x y) (added z w)

  abbrev pub Mixing : List ℕ → ℕ → ℕ → Type 0
  Mixing v c i = Gathering (added (added x y) (added z w)) (mixed A B C D x y z w) x v c i

  length-sums : length sums ≡ length x
  length-sums = length-added (added x y) (added z w) ∙ length-added x y

  pub mixing-start : Mixing x 0 0
  mixing-start = let l = length-sums in gather-start sums (mixed A B C D x y z w) x (omega arith) (length-mixed A B C D x y z w ∙ sym l)

  pub mixing-step : length y ≡ length x → length z ≡ length x → length w ≡ length x → (v : List ℕ) (c i : ℕ) → Mixing v c i → i < length x
      → Mixing (set v i ((get_or v i 0 % 4 + get_or y i 0 % 4 + get_or z i 0 % 4 + get_or w i 0 % 4) % 4))
      ((c + (A * (get_or v i 0 % 4) + B * (get_or y i 0 % 4) + C * (get_or z i 0 % 4) + D * (get_or w i 0 % 4))) % 2 ^ 8)
      (i + 1)
  mixing-step hy hz hw v c i f k =
      let l = length-sums in
      let t = mixed A B C D x y z w in
      let e : get_or v i 0 ≡ get_or x i 0 = gather-read sums t x v c i i f (omega arith) in
      let p = get_or v i 0 % 4 in
      let q = get_or y i 0 % 4 in
      let r = get_or z i 0 % 4 in
      let u = get_or w i 0 % 4 in
      let rx : Has x i p = read-has sums t x v c i f k in
      let ry : Has y i q = byte-has y i (omega arith) in
      let rz : Has z i r = byte-has z i (omega arith) in
      let ru : Has w i u = byte-has w i (omega arith) in
      let a : p + q + (r + u) ≡ p + q + r + u = omega arith in
      let m : A * p + B * q + C * r + D * u ≡ get_or t i 0 = ap (λ (n : ℕ). A * (n % 4) + B * q + C * r + D * u) e ∙ sym (mixed-at A B C D x y z w i k) in
      gather-step sums t x v c i f (omega arith) ((p + q + r + u) % 4) (A * p + B * q + C * r + D * u)
      (sym (sum_is (added x y) (added z w) i (p + q) (r + u) (sum-has x y i p q rx ry) (sum-has z w i r u rz ru) ∙ ap (λ (n : ℕ). n % 4) a))
      (ap (λ (n : ℕ). n % 4) m)

  pub mixing-done : length y ≡ length x → length z ≡ length x → length w ≡ length x → (v : List ℕ) (c i : ℕ) → Mixing v c i → length x ≤ i
      → (c % 4 ≡ (A * total x + B * total y + (C * total z + D * total w)) % 4) × (v ≡ sums)
  mixing-done hy hz hw v c i f k =
      let d = gather-whole sums (mixed A B C D x y z w) x v c i f k length-sums in
      (d.0 ∙ total-mixed A B C D x y z w (omega arith) (omega arith) (omega arith), d.1)
