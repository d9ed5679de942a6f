-- Words with s zeros in front, and places renumbered. Assumes nothing.
use mathlib.Core.Path.{◌≡◌, refl, sym, ap, ◌∙◌}
use mathlib.Core.Logic.{◌≢◌}
use mathlib.Core.List.{List, ◌∷◌, ◌++◌}
use Prim.Native.Nat.{ℕ, zero, suc, ◌+◌, ◌-◌, ◌≤◌}
use native.Mathlib.Omega.{arith}
use lib.ListN.{length, take, drop, length-append, length-replicate, take-append-drop, replicate-append-replicate}
use lib.Seq.{drop_at, take-append-add}
use Rattle.words_theory.specs.Words.{Bits, Word, zero_word, weight, distance, flip_at, flip}
use Rattle.shortened_theory.specs.Code.{fill, old_place, new_place, LeftOut}
use Rattle.shortened_theory.specs.Claims.{Fills}

-- ---- filling and dropping
pub length-fill : (s : ℕ) (w : List ℕ) → length (fill s w) ≡ s + length w
length-fill s w = length-append (zero_word s) w ∙ ap (λ (n : ℕ). n + length w) (length-replicate s 0)

pub dropped : (s : ℕ) (w : List ℕ) → drop s (fill s w) ≡ w
dropped s w = drop_at (zero_word s) w s (length-replicate s 0)

pub filled : (s : ℕ) (w : List ℕ) → take s w ≡ zero_word s → fill s (drop s w) ≡ w
filled s w e = ap (λ (f : List ℕ). f ++ drop s w) (sym e) ∙ take-append-drop s w

pub fills : (s : ℕ) → Fills s
fills s = record { dropped = dropped s; filled = filled s }

-- a word that is known to be filled
pub refill : (s : ℕ) (v u : List ℕ) → v ≡ fill s u → fill s (drop s v) ≡ v
refill s v u e = ap (λ (x : List ℕ). fill s (drop s x)) e ∙ ap (fill s) (dropped s u) ∙ sym e

pub fill-injective : (s : ℕ) (x y : List ℕ) → fill s x ≡ fill s y → x ≡ y
fill-injective s x y e = sym (dropped s x) ∙ ap (drop s) e ∙ dropped s y

pub take-fill : (s n : ℕ) (w : List ℕ) → take (s + n) (fill s w) ≡ fill s (take n w)
take-fill s n w = ap (λ (k : ℕ). take (k + n) (fill s w)) (sym (length-replicate s 0)) ∙ take-append-add (zero_word s) w n

-- ---- words
bits-fill : (s : ℕ) (w : List ℕ) → Bits w → Bits (fill s w)
bits-fill zero w h = h
bits-fill (suc s) w h = (omega arith, bits-fill s w h)

bits-drop : (s : ℕ) (w : List ℕ) → Bits (fill s w) → Bits w
bits-drop zero w h = h
bits-drop (suc s) w h = bits-drop s w h.1

pub word-fill : (n s : ℕ) {w : List ℕ} → s ≤ n → Word (n - s) w → Word n (fill s w)
word-fill n s {w} l h = record { places = let k = length-fill s w in let p = h.places in omega arith; bits = bits-fill s w h.bits }

pub fill-word : (n s : ℕ) {w : List ℕ} → Word n (fill s w) → Word (n - s) w
fill-word n s {w} h = record { places = let k = length-fill s w in let p = h.places in omega arith; bits = bits-drop s w h.bits }

pub fill-zero : (n s : ℕ) → s ≤ n → fill s (zero_word (n - s)) ≡ zero_word n
fill-zero n s l = let e : s + (n - s) ≡ n = omega arith in replicate-append-replicate s (n - s) 0 ∙ ap zero_word e

pub distance-fill : (s : ℕ) (c w : List ℕ) → distance (fill s c) (fill s w) ≡ distance c w
unfolding distance
distance-fill zero c w = refl
distance-fill (suc s) c w = let k = distance-fill s c w in omega arith

pub weight-fill : (s : ℕ) (w : List ℕ) → weight (fill s w) ≡ weight w
unfolding weight
weight-fill zero w = refl
weight-fill (suc s) w = let k = weight-fill s w in omega arith

-- ---- places
pub old-sum : (s p : ℕ) → p ≢ 0 → old_place s p ≡ p + s
old-sum s zero h = absurd (h refl)
old-sum s (suc i) h = refl

pub new-old : (s p : ℕ) → new_place s (old_place s p) ≡ p
new-old s zero = omega arith
new-old s (suc i) = omega arith

pub old-kept : (s p : ℕ) → LeftOut s (old_place s p) → ⊥
old-kept s zero h = omega (arith, h.0)
old-kept s (suc i) h = omega (arith, h.1)

pub old-within : (n s p : ℕ) → s ≤ n → p ≤ n - s → old_place s p ≤ n
old-within n s zero l h = omega arith
old-within n s (suc i) l h = omega arith

pub old-new : (s q : ℕ) → (LeftOut s q → ⊥) → old_place s (new_place s q) ≡ q
old-new s zero n = ap (old_place s) (zero-less s)
  where
    zero-less : (s : ℕ) → 0 - s ≡ 0
    zero-less s = omega arith
old-new s (suc i) n = go (suc i - s) refl
  where
    go : (k : ℕ) → suc i - s ≡ k → old_place s k ≡ suc i
    go zero e = absurd (n (omega arith, omega arith))
    go (suc k) e = omega arith

-- ---- flips
flip_at-fill : (s i : ℕ) (w : List ℕ) → fill s (flip_at i w) ≡ flip_at (s + i) (fill s w)
unfolding flip_at
flip_at-fill zero i w = let e : 0 + i ≡ i = omega arith in rw e
flip_at-fill (suc s) i w =
    let e : suc s + i ≡ suc (s + i) = omega arith in rw e (ap {B = List ℕ} (λ (t : List ℕ). 0 ∷ t) (flip_at-fill s i w))

pub flip-fill : (s p : ℕ) (w : List ℕ) → fill s (flip p w) ≡ flip (old_place s p) (fill s w)
flip-fill s zero w = refl
flip-fill s (suc i) w = let e : suc i + s ≡ suc (s + i) = omega arith in rw e (flip_at-fill s i w)
