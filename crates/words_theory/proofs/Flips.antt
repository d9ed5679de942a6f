-- One place flipped: the syndrome gains the element of that place, or of the other half of its pair where the word differs on the two.
-- Assumes nothing.
use mathlib.Core.Path.{◌≡◌, refl, sym, ap, ◌∙◌}
use mathlib.Core.Logic.{◌≢◌}
use mathlib.Core.Bool.{Bool, true, false}
use mathlib.Core.List.{List, [], ◌∷◌}
use Prim.Native.Nat.{ℕ, zero, suc, ◌-◌, ◌<◌}
use native.Mathlib.Omega.{arith}
use lib.Dec.{eqb}
use lib.ListN.{length, get_or, set}
use Rattle.group_theory.specs.Group.{Modulus, zeros, sum, negative, times}
use Rattle.group_theory.proofs.Laws.{valid-negative, valid-times, sum_comm, sum-assoc, sum-zero, zero-sum, sum-negative, times_zero, times-suc, times-three, times-four}
use Rattle.layout_theory.specs.Choice.{pick}
use Rattle.layout_theory.specs.Layout.{Slot, single, pair, places}
use Rattle.layout_theory.specs.Claims.{Good}
use Rattle.words_theory.specs.Words.{weight, flip_at, flip}
use Rattle.words_theory.specs.Syndrome.{syndrome_over}
use Rattle.words_theory.specs.Halves.{other_at, moved_at}
use Rattle.words_theory.proofs.Reading.{Bit, off, on, Reads, none, bit, bits}

-- ---- a moved place, slot by slot
pick_same : (b : Bool) (x : ℕ) → pick b x x ≡ x
pick_same true x = refl
pick_same false x = refl

pick-suc : (b : Bool) (x y : ℕ) → pick b (suc x) (suc y) ≡ suc (pick b x y)
pick-suc true x y = refl
pick-suc false x y = refl

pub moved-alone : (e : List ℕ) (sl : List Slot) (w : List ℕ) → moved_at (single e ∷ sl) w 0 ≡ 0
unfolding moved_at other_at
moved-alone e sl w = pick_same (eqb (get_or w 0 0) (get_or w 0 0)) 0

pub moved-single : (e : List ℕ) (sl : List Slot) (b : ℕ) (w : List ℕ) (i : ℕ) → moved_at (single e ∷ sl) (b ∷ w) (suc i) ≡ suc (moved_at sl w i)
unfolding moved_at other_at
moved-single e sl b w i = pick-suc (eqb (get_or w i 0) (get_or w (other_at sl i) 0)) i (other_at sl i)

pub moved-pair : (z : List ℕ) (sl : List Slot) (b c : ℕ) (w : List ℕ) (i : ℕ)
    → moved_at (pair z ∷ sl) (b ∷ c ∷ w) (suc (suc i)) ≡ suc (suc (moved_at sl w i))
unfolding moved_at other_at
moved-pair z sl b c w i =
    let t = eqb (get_or w i 0) (get_or w (other_at sl i) 0) in pick-suc t (suc i) (suc (other_at sl i)) ∙ ap suc (pick-suc t i (other_at sl i))

pub moved-lt : {sl : List Slot} {w : List ℕ} → Reads sl w → (i : ℕ) → i < length w → moved_at sl w i < length w
unfolding moved_at other_at
moved-lt none i h = absurd (omega arith)
moved-lt (bit {e = e} {sl = sl} {w = w} x r) zero h = rw (moved-alone e sl) (omega arith)
moved-lt (bit {e = e} {b = b} {sl = sl} {w = w} x r) (suc i) h =
    let k = moved-lt r i (omega arith) in rw (moved-single e sl b w i) (omega arith)
moved-lt (bits off off r) zero h = omega arith
moved-lt (bits off on r) zero h = omega arith
moved-lt (bits on off r) zero h = omega arith
moved-lt (bits on on r) zero h = omega arith
moved-lt (bits off off r) (suc zero) h = omega arith
moved-lt (bits off on r) (suc zero) h = omega arith
moved-lt (bits on off r) (suc zero) h = omega arith
moved-lt (bits on on r) (suc zero) h = omega arith
moved-lt (bits {z = z} {b = b} {c = c} {sl = sl} {w = w} x y r) (suc (suc i)) h =
    let k = moved-lt r i (omega arith) in rw (moved-pair z sl b c w i) (omega arith)

pub moved-moved : {sl : List Slot} {w : List ℕ} → Reads sl w → (i : ℕ) → i < length w → moved_at sl w (moved_at sl w i) ≡ i
unfolding moved_at other_at
moved-moved none i h = absurd (omega arith)
moved-moved (bit {e = e} {b = b} {sl = sl} {w = w} x r) zero h = rw (moved-alone e sl (b ∷ w)) (moved-alone e sl (b ∷ w))
moved-moved (bit {e = e} {b = b} {sl = sl} {w = w} x r) (suc i) h =
    ap (moved_at (single e ∷ sl) (b ∷ w)) (moved-single e sl b w i) ∙ moved-single e sl b w (moved_at sl w i) ∙ ap suc (moved-moved r i (omega arith))
moved-moved (bits off off r) zero h = refl
moved-moved (bits off on r) zero h = refl
moved-moved (bits on off r) zero h = refl
moved-moved (bits on on r) zero h = refl
moved-moved (bits off off r) (suc zero) h = refl
moved-moved (bits off on r) (suc zero) h = refl
moved-moved (bits on off r) (suc zero) h = refl
moved-moved (bits on on r) (suc zero) h = refl
moved-moved (bits {z = z} {b = b} {c = c} {sl = sl} {w = w} x y r) (suc (suc i)) h =
    ap (moved_at (pair z ∷ sl) (b ∷ c ∷ w)) (moved-pair z sl b c w i) ∙ moved-pair z sl b c w (moved_at sl w i)
    ∙ ap (λ (n : ℕ). suc (suc n)) (moved-moved r i (omega arith))

-- ---- a flipped place
pub flip-bit : {b : ℕ} → Bit b → Bit (1 - b)
flip-bit off = on
flip-bit on = off

pub flip-reads : {sl : List Slot} {w : List ℕ} → Reads sl w → (i : ℕ) → Reads sl (flip_at i w)
unfolding flip_at
flip-reads none i = none
flip-reads (bit b r) zero = bit (flip-bit b) r
flip-reads (bit b r) (suc i) = bit b (flip-reads r i)
flip-reads (bits b c r) zero = bits (flip-bit b) c r
flip-reads (bits b c r) (suc zero) = bits b (flip-bit c) r
flip-reads (bits b c r) (suc (suc i)) = bits b c (flip-reads r i)

-- ---- two flips, and the bytes of a flipped word
flip-back : {b : ℕ} → Bit b → 1 - (1 - b) ≡ b
flip-back off = refl
flip-back on = refl

flip_at-twice : {sl : List Slot} {w : List ℕ} → Reads sl w → (i : ℕ) → flip_at i (flip_at i w) ≡ w
unfolding flip_at
flip_at-twice none i = refl
flip_at-twice (bit {w = w} x r) zero = ap {B = List ℕ} (λ (b : ℕ). b ∷ w) (flip-back x)
flip_at-twice (bit {b = b} x r) (suc i) = ap {B = List ℕ} (λ (t : List ℕ). b ∷ t) (flip_at-twice r i)
flip_at-twice (bits {c = c} {w = w} x y r) zero = ap {B = List ℕ} (λ (b : ℕ). b ∷ c ∷ w) (flip-back x)
flip_at-twice (bits {b = b} {w = w} x y r) (suc zero) = ap {B = List ℕ} (λ (c : ℕ). b ∷ c ∷ w) (flip-back y)
flip_at-twice (bits {b = b} {c = c} x y r) (suc (suc i)) = ap {B = List ℕ} (λ (t : List ℕ). b ∷ c ∷ t) (flip_at-twice r i)

pub flip_twice : {sl : List Slot} {w : List ℕ} → Reads sl w → (p : ℕ) → flip p (flip p w) ≡ w
flip_twice r zero = refl
flip_twice r (suc i) = flip_at-twice r i

flip_at-comm : (w : List ℕ) (i j : ℕ) → i ≢ j → flip_at i (flip_at j w) ≡ flip_at j (flip_at i w)
unfolding flip_at
flip_at-comm [] i j n = refl
flip_at-comm (b ∷ w) zero zero n = absurd (n refl)
flip_at-comm (b ∷ w) zero (suc j) n = refl
flip_at-comm (b ∷ w) (suc i) zero n = refl
flip_at-comm (b ∷ w) (suc i) (suc j) n = ap {B = List ℕ} (λ (t : List ℕ). b ∷ t) (flip_at-comm w i j (λ e. n (ap suc e)))

pub flip-comm : (w : List ℕ) (p q : ℕ) → p ≢ q → flip p (flip q w) ≡ flip q (flip p w)
flip-comm w zero q n = refl
flip-comm w (suc i) zero n = refl
flip-comm w (suc i) (suc j) n = flip_at-comm w i j (λ e. n (ap suc e))

pub length-flip_at : (w : List ℕ) (i : ℕ) → length (flip_at i w) ≡ length w
unfolding flip_at
length-flip_at [] i = refl
length-flip_at (b ∷ w) zero = refl
length-flip_at (b ∷ w) (suc i) = ap suc (length-flip_at w i)

-- one byte is set anew, and none where the index is beyond the word
pub flip-set : (w : List ℕ) (i : ℕ) → set w i (1 - get_or w i 0) ≡ flip_at i w
unfolding flip_at
flip-set [] i = refl
flip-set (b ∷ w) zero = refl
flip-set (b ∷ w) (suc i) = ap {B = List ℕ} (λ (t : List ℕ). b ∷ t) (flip-set w i)

pub flipped-here : (w : List ℕ) (i : ℕ) → i < length w → get_or (flip_at i w) i 0 ≡ 1 - get_or w i 0
unfolding flip_at
flipped-here [] i h = absurd (omega arith)
flipped-here (b ∷ w) zero h = refl
flipped-here (b ∷ w) (suc i) h = flipped-here w i (omega arith)

pub flipped-there : (w : List ℕ) (i j : ℕ) → i ≢ j → get_or (flip_at i w) j 0 ≡ get_or w j 0
unfolding flip_at
flipped-there [] i j n = refl
flipped-there (b ∷ w) zero zero n = absurd (n refl)
flipped-there (b ∷ w) zero (suc j) n = refl
flipped-there (b ∷ w) (suc i) zero n = refl
flipped-there (b ∷ w) (suc i) (suc j) n = flipped-there w i j (λ e. n (ap suc e))

pub weight-flip_at : (w : List ℕ) (i : ℕ) → i < length w → get_or w i 0 ≡ 0 → weight (flip_at i w) ≡ suc (weight w)
unfolding weight flip_at
weight-flip_at [] i h e = absurd (omega arith)
weight-flip_at (b ∷ w) zero h e = omega arith
weight-flip_at (b ∷ w) (suc i) h e = let k = weight-flip_at w i (omega arith) e in omega arith

-- ---- what one digit's change adds
module _ (ms : List Modulus) where
  here : (x d s y : List ℕ) → y ≡ sum ms x d → sum ms y s ≡ sum ms (sum ms x s) d
  here x d s y e =
      ap (λ (u : List ℕ). sum ms u s) e ∙ sum-assoc ms x d s ∙ ap (sum ms x) (sum_comm ms d s) ∙ sym (sum-assoc ms x s d)

  later : (x d s y : List ℕ) → y ≡ sum ms s d → sum ms x y ≡ sum ms (sum ms x s) d
  later x d s y e = ap (sum ms x) e ∙ sym (sum-assoc ms x s d)

  up : (k : ℕ) (z : List ℕ) → times ms (suc k) z ≡ sum ms (times ms k z) z
  up k z = times-suc ms k z ∙ sum_comm ms z (times ms k z)

  down : (k : ℕ) (z : List ℕ) → times ms k z ≡ sum ms (times ms (suc k) z) (negative ms z)
  down k z =
      sym (sum-zero ms (times ms k z) (valid-times ms k z)) ∙ ap (sum ms (times ms k z)) (sym (sum-negative ms z))
      ∙ sym (sum-assoc ms (times ms k z) z (negative ms z)) ∙ ap (λ (u : List ℕ). sum ms u (negative ms z)) (sym (up k z))

  round : (z : List ℕ) → times ms 0 z ≡ sum ms (times ms 3 z) z
  round z = times_zero ms z ∙ sym (times-four ms z) ∙ up 3 z

  back : (z : List ℕ) → times ms 3 z ≡ sum ms (times ms 0 z) (negative ms z)
  back z =
      times-three ms z ∙ sym (zero-sum ms (negative ms z) (valid-negative ms z)) ∙ ap (λ (u : List ℕ). sum ms u (negative ms z)) (sym (times_zero ms z))

  -- ---- the syndrome of a word with one place flipped
  pub syndrome-flip : {sl : List Slot} {w : List ℕ} → Reads sl w → Good ms sl → (i : ℕ) → i < length w
      → syndrome_over ms sl (flip_at i w) ≡ sum ms (syndrome_over ms sl w) (get_or (places ms sl) (moved_at sl w i) (zeros ms))
  unfolding syndrome_over flip_at places moved_at other_at
  syndrome-flip none g i h = absurd (omega arith)
  syndrome-flip (bit {e = e} {sl = sl} off r) g zero h = here _ _ _ _ (up 0 e)
  syndrome-flip (bit {e = e} {sl = sl} on r) g zero h = here _ _ _ _ (down 0 e ∙ ap (sum ms (times ms 1 e)) g.1)
  syndrome-flip (bit {e = e} {b = b} {sl = sl} {w = w} x r) g (suc i) h =
      rw (moved-single e sl b w i) (later _ _ _ _ (syndrome-flip r g.2 i (omega arith)))
  syndrome-flip (bits {z = z} off off r) g zero h = here _ _ _ _ (back z)
  syndrome-flip (bits {z = z} off on r) g zero h = here _ _ _ _ (up 1 z)
  syndrome-flip (bits {z = z} on off r) g zero h = here _ _ _ _ (round z)
  syndrome-flip (bits {z = z} on on r) g zero h = here _ _ _ _ (down 1 z)
  syndrome-flip (bits {z = z} off off r) g (suc zero) h = here _ _ _ _ (up 0 z)
  syndrome-flip (bits {z = z} off on r) g (suc zero) h = here _ _ _ _ (down 0 z)
  syndrome-flip (bits {z = z} on off r) g (suc zero) h = here _ _ _ _ (down 2 z)
  syndrome-flip (bits {z = z} on on r) g (suc zero) h = here _ _ _ _ (up 2 z)
  syndrome-flip (bits {z = z} {b = b} {c = c} {sl = sl} {w = w} x y r) g (suc (suc i)) h =
      rw (moved-pair z sl b c w i) (later _ _ _ _ (syndrome-flip r g.2 i (omega arith)))
