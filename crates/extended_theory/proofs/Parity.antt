-- The number of ones modulo 2: of a word with one place flipped, of two words and their distance, and of a word that lies between two. Assumes
-- nothing.
use mathlib.Core.Path.{◌≡◌, refl, sym, ap, ap₂, ◌∙◌}
use mathlib.Core.Bool.{Bool, true, false, not, true≢false}
use mathlib.Core.List.{List, [], ◌∷◌, ◌++◌}
use Prim.Native.Nat.{ℕ, zero, suc, ◌+◌, ◌-◌, ◌%◌, ◌<◌, ◌≤◌}
use native.Mathlib.Omega.{arith}
use borrow.Author.Tests.{eqb-true, eq-eqb, ne_eqb}
use lib.Dec.{eqb, eqb→eq, eqb_refl}
use lib.ListN.{length}
use Rattle.group_theory.proofs.Signs.{T_true, true-T}
use Rattle.layout_theory.specs.Choice.{one_if}
use Rattle.words_theory.specs.Words.{Bits, Word, weight, is_odd, distance, flip_at, flip}
use Rattle.words_theory.proofs.Distances.{distance_self}
use Rattle.words_theory.proofs.Flips.{length-flip_at}

-- ---- odd and even, as the test says it
pub odd-one : (w : List ℕ) → is_odd w ≡ true → weight w % 2 ≡ 1
odd-one w e = eqb-true (weight w % 2) 1 e

pub one-odd : (w : List ℕ) → weight w % 2 ≡ 1 → is_odd w ≡ true
one-odd w e = eq-eqb (weight w % 2) 1 e

pub even-zero : (w : List ℕ) → is_odd w ≡ false → weight w % 2 ≡ 0
even-zero w e = go (weight w % 2) refl (omega arith)
  where
    go : (k : ℕ) → weight w % 2 ≡ k → k ≤ 1 → weight w % 2 ≡ 0
    go zero f h = f
    go (suc zero) f h = absurd (true≢false (sym (one-odd w f) ∙ e))
    go (suc (suc k)) f h = absurd (omega arith)

pub zero-even : (w : List ℕ) → weight w % 2 ≡ 0 → is_odd w ≡ false
zero-even w e = ne_eqb (weight w % 2) 1 (λ z. omega arith)

-- ---- a flipped place
pub bits-flip_at : (w : List ℕ) (i : ℕ) → Bits w → Bits (flip_at i w)
unfolding flip_at
bits-flip_at [] i h = h
bits-flip_at (b ∷ w) zero h = (omega arith, h.1)
bits-flip_at (b ∷ w) (suc i) h = (h.0, bits-flip_at w i h.1)

pub word-flip : (n p : ℕ) {w : List ℕ} → Word n w → Word n (flip p w)
word-flip n zero h = h
word-flip n (suc i) {w} h = record { places = length-flip_at w i ∙ h.places; bits = bits-flip_at w i h.bits }

weight-flip_at : (w : List ℕ) (i : ℕ) → Bits w → i < length w → (weight (flip_at i w) + weight w) % 2 ≡ 1
unfolding weight flip_at
weight-flip_at [] i h k = absurd (omega arith)
weight-flip_at (b ∷ w) zero h k = let x = h.0 in omega arith
weight-flip_at (b ∷ w) (suc i) h k = let x = weight-flip_at w i h.1 (omega arith) in omega arith

-- it makes an odd number even, and an even one odd
pub weight-flip : (n p : ℕ) {w : List ℕ} → Word n w → 0 < p → p ≤ n → (weight (flip p w) + weight w) % 2 ≡ 1
weight-flip n zero h a b = absurd (omega arith)
weight-flip n (suc i) {w} h a b = let l = h.places in weight-flip_at w i h.bits (omega arith)

pub flip-back : (n p : ℕ) {w : List ℕ} → Word n w → flip p (flip p w) ≡ w
unfolding flip_at
flip-back n zero h = refl
flip-back n (suc i) {w} h = go w i h.bits
  where
    go : (w : List ℕ) (i : ℕ) → Bits w → flip_at i (flip_at i w) ≡ w
    go [] i h = refl
    go (b ∷ w) zero h = let e : 1 - (1 - b) ≡ b = let x = h.0 in omega arith in ap {B = List ℕ} (λ (c : ℕ). c ∷ w) e
    go (b ∷ w) (suc i) h = ap {B = List ℕ} (λ (v : List ℕ). b ∷ v) (go w i h.1)

pub weight-append : (v w : List ℕ) → weight (v ++ w) ≡ weight v + weight w
unfolding weight
weight-append [] w = omega arith
weight-append (b ∷ v) w = let k = weight-append v w in omega arith

-- ---- two words
-- where two bits differ their sum is odd
bits-sum : (b x : ℕ) → b ≤ 1 → x ≤ 1 → (b + x + one_if (not (eqb b x))) % 2 ≡ 0
bits-sum zero zero h k = refl
bits-sum zero (suc zero) h k = refl
bits-sum (suc zero) zero h k = refl
bits-sum (suc zero) (suc zero) h k = refl
bits-sum (suc (suc b)) x h k = absurd (omega arith)
bits-sum zero (suc (suc x)) h k = absurd (omega arith)
bits-sum (suc zero) (suc (suc x)) h k = absurd (omega arith)

pub distance-parity : (c d : List ℕ) → length c ≡ length d → Bits c → Bits d → (weight c + weight d + distance c d) % 2 ≡ 0
unfolding weight distance
distance-parity [] [] l g h = refl
distance-parity [] (x ∷ d) l g h = absurd (omega arith)
distance-parity (b ∷ c) [] l g h = absurd (omega arith)
distance-parity (b ∷ c) (x ∷ d) l g h =
    let i = distance-parity c d (omega arith) g.1 h.1 in
    let k = bits-sum b x g.0 h.0 in
    omega arith

-- a word that is within one place of both, where they differ in at most two
pub record Amid (c d : List ℕ) : Type 0 where
  pub word : List ℕ
  pub is_word : Word (length c) word
  pub first : distance c word ≤ 1
  pub second : distance d word ≤ 1

same_bit : (b : ℕ) → one_if (not (eqb b b)) ≡ 0
same_bit b = rw (T_true (eqb b b) (eqb_refl b))

one-most : (t : Bool) → one_if t ≤ 1
one-most true = omega arith
one-most false = omega arith

distance-sym : (c d : List ℕ) → distance c d ≡ distance d c
unfolding distance
distance-sym [] [] = refl
distance-sym [] (x ∷ d) = ap suc (distance-sym [] d)
distance-sym (b ∷ c) [] = ap suc (distance-sym c [])
distance-sym (b ∷ c) (x ∷ d) = ap₂ ◌+◌ (ap (λ (t : Bool). one_if (not t)) (swap (eqb b x) refl)) (distance-sym c d)
  where
    swap : (t : Bool) → eqb b x ≡ t → eqb b x ≡ eqb x b
    swap true t = let e = eqb→eq b x (true-T (eqb b x) t) in t ∙ sym (eq-eqb x b (sym e))
    swap false t = t ∙ sym (ne_eqb x b (λ e. true≢false (sym (eq-eqb b x (sym e)) ∙ t)))

pub amid : (c d : List ℕ) → length c ≡ length d → Bits c → Bits d → distance c d ≤ 2 → Amid c d
unfolding distance
amid [] [] l g h k = record { word = []; is_word = record { places = refl; bits = tt }; first = omega arith; second = omega arith }
amid [] (x ∷ d) l g h k = absurd (omega arith)
amid (b ∷ c) [] l g h k = absurd (omega arith)
amid (b ∷ c) (x ∷ d) l g h k = go (eqb b x) refl (amid c d (omega arith) g.1 h.1)
  where
    go : (t : Bool) → eqb b x ≡ t → (distance c d ≤ 2 → Amid c d) → Amid (b ∷ c) (x ∷ d)
    go true t f =
        let z = ap (λ (u : Bool). one_if (not u)) t in
        let m = f (omega arith) in
        let e : x ≡ b = sym (eqb→eq b x (true-T (eqb b x) t)) in
        record {
          word = b ∷ m.word;
          is_word = record { places = ap suc m.is_word.places; bits = (g.0, m.is_word.bits) };
          first = let i = same_bit b in let j = m.first in omega arith;
          second = let i = ap (λ (y : ℕ). one_if (not (eqb y b))) e ∙ same_bit b in let j = m.second in omega arith;
        }
    go false t f =
        let z = ap (λ (u : Bool). one_if (not u)) t in
        record {
          word = x ∷ c;
          is_word = record { places = refl; bits = (h.0, g.1) };
          first = let i = distance_self c in let j = one-most (not (eqb b x)) in omega arith;
          second = let i = same_bit x in let j = distance-sym c d in omega arith;
        }
