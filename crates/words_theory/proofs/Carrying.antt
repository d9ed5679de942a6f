-- Combining with a codeword carries correction along. Assumes nothing.
use mathlib.Core.Path.{◌≡◌, refl, sym, ap, ap₂, ◌∙◌}
use mathlib.Core.List.{List, ◌∷◌}
use Prim.Native.Nat.{ℕ, zero, suc, ◌+◌, ◌-◌, ◌%◌, ◌≤◌}
use native.Mathlib.Omega.{arith}
use Rattle.group_theory.specs.Group.{Modulus, zeros, sum}
use Rattle.group_theory.proofs.Laws.{valid-zeros, zero-sum}
use Rattle.layout_theory.specs.Layout.{Slot, pair, slots}
use Rattle.layout_theory.proofs.Places.{good-slots}
use Rattle.words_theory.specs.Digits.{gray, digit}
use Rattle.words_theory.specs.Words.{Word, flip_at, flip, combine}
use Rattle.words_theory.specs.Syndrome.{syndrome, Codeword, length_of}
use Rattle.words_theory.specs.Halves.{other_at, moved_at, moved}
use Rattle.words_theory.specs.Calls.{fault}
use Rattle.words_theory.specs.Claims.{CarriedBy}
use Rattle.words_theory.proofs.Reading.{Bit, off, on, Reads, none, bit, bits, word-reads}
use Rattle.words_theory.proofs.Combining.{combine-reads, syndrome-combine}
use Rattle.words_theory.proofs.Flips.{moved-alone, moved-single, moved-pair, moved-lt}
use Rattle.words_theory.proofs.Perfect.{flip-place-reads, length-word, fault-within, fault-zero, fault-only}
use Rattle.words_theory.proofs.Rule.{corrected-flip, corrected-place}

-- ---- a flipped place of a combination
flip_bits : {a b : ℕ} → Bit a → Bit b → (a + (1 - b)) % 2 ≡ 1 - (a + b) % 2
flip_bits off off = refl
flip_bits off on = refl
flip_bits on off = refl
flip_bits on on = refl

-- four bits, one of which flips: the first place of a pair, and the second
flip-pair : (z : List ℕ) (sl : List Slot) (d w : List ℕ) {a a' b b' : ℕ} → Bit a → Bit a' → Bit b → Bit b'
    → (gray ((digit a a' + digit (1 - b) b') % 4) w ≡ flip_at (moved_at (pair z ∷ sl) (a ∷ a' ∷ d) 0) (gray ((digit a a' + digit b b') % 4) w))
    × (gray ((digit a a' + digit b (1 - b')) % 4) w ≡ flip_at (moved_at (pair z ∷ sl) (a ∷ a' ∷ d) 1) (gray ((digit a a' + digit b b') % 4) w))
unfolding flip_at moved_at other_at
flip-pair z sl d w off off off off = (refl, refl)
flip-pair z sl d w off off off on = (refl, refl)
flip-pair z sl d w off off on off = (refl, refl)
flip-pair z sl d w off off on on = (refl, refl)
flip-pair z sl d w off on off off = (refl, refl)
flip-pair z sl d w off on off on = (refl, refl)
flip-pair z sl d w off on on off = (refl, refl)
flip-pair z sl d w off on on on = (refl, refl)
flip-pair z sl d w on off off off = (refl, refl)
flip-pair z sl d w on off off on = (refl, refl)
flip-pair z sl d w on off on off = (refl, refl)
flip-pair z sl d w on off on on = (refl, refl)
flip-pair z sl d w on on off off = (refl, refl)
flip-pair z sl d w on on off on = (refl, refl)
flip-pair z sl d w on on on off = (refl, refl)
flip-pair z sl d w on on on on = (refl, refl)

flip-gray : (d : ℕ) (w : List ℕ) (i : ℕ) → gray d (flip_at i w) ≡ flip_at (suc (suc i)) (gray d w)
unfolding flip_at
flip-gray zero w i = refl
flip-gray (suc zero) w i = refl
flip-gray (suc (suc zero)) w i = refl
flip-gray (suc (suc (suc d))) w i = refl

combine-flip : {sl : List Slot} {d w : List ℕ} → Reads sl d → Reads sl w → (i : ℕ) → combine sl d (flip_at i w) ≡ flip_at (moved_at sl d i) (combine sl d w)
unfolding combine flip_at
combine-flip none none i = refl
combine-flip (bit {e = e} {b = a} {sl = sl} {w = d} x r) (bit {w = w} y s) zero =
    rw (moved-alone e sl (a ∷ d)) (ap {B = List ℕ} (λ (b : ℕ). b ∷ combine sl d w) (flip_bits x y))
combine-flip (bit {e = e} {b = a} {sl = sl} {w = d} x r) (bit {b = b} {w = w} y s) (suc i) =
    rw (moved-single e sl a d i) (ap {B = List ℕ} (λ (t : List ℕ). (a + b) % 2 ∷ t) (combine-flip r s i))
combine-flip (bits {z = z} {sl = sl} {w = d} x x' r) (bits {w = w} y y' s) zero = (flip-pair z sl d (combine sl d w) x x' y y').0
combine-flip (bits {z = z} {sl = sl} {w = d} x x' r) (bits {w = w} y y' s) (suc zero) = (flip-pair z sl d (combine sl d w) x x' y y').1
combine-flip (bits {z = z} {b = a} {c = a'} {sl = sl} {w = d} x x' r) (bits {b = b} {c = b'} {w = w} y y' s) (suc (suc i)) =
    let n = (digit a a' + digit b b') % 4 in
    ap (gray n) (combine-flip r s i) ∙ flip-gray n (combine sl d w) (moved_at sl d i)
    ∙ ap (λ (j : ℕ). flip_at j (gray n (combine sl d w))) (sym (moved-pair z sl a a' d i))

-- ---- the theorem
module _ (ms : List Modulus) (d w : List ℕ) (rd : Reads (slots ms) d) (r : Reads (slots ms) w) (code : syndrome ms d ≡ zeros ms) where
  along : (p : ℕ) → flip (moved (slots ms) d p) (combine (slots ms) d w) ≡ combine (slots ms) d (flip p w)
  along zero = refl
  along (suc i) = sym (combine-flip rd r i)

  bound : (p : ℕ) → p ≤ length_of ms → moved (slots ms) d p ≤ length_of ms
  bound zero h = omega arith
  bound (suc i) h = let l = length-word ms d rd in let k = moved-lt rd i (omega arith) in omega arith

  added : (v : List ℕ) → Reads (slots ms) v → syndrome ms (combine (slots ms) d v) ≡ sum ms (syndrome ms d) (syndrome ms v)
  unfolding syndrome
  added v s = syndrome-combine ms (good-slots ms) rd s

  moves : fault ms (combine (slots ms) d w) ≡ moved (slots ms) d (fault ms w)
  moves =
      let p = fault ms w in
      sym (fault-only ms (combine (slots ms) d w) (combine-reads rd r) (moved (slots ms) d p) (bound p (fault-within ms w r))
      (ap (syndrome ms) (along p) ∙ added (flip p w) (flip-place-reads ms r p) ∙ ap₂ (sum ms) code (fault-zero ms w r) ∙ zero-sum ms (zeros ms) (valid-zeros ms)))

  carries : CarriedBy ms d w
  carries =
      let c = combine-reads rd r in
      record {
        corrects = corrected-flip ms (combine (slots ms) d w) c ∙ ap (λ (p : ℕ). flip p (combine (slots ms) d w)) moves ∙ along (fault ms w)
            ∙ ap (combine (slots ms) d) (sym (corrected-flip ms w r));
        place = corrected-place ms (combine (slots ms) d w) c ∙ moves ∙ ap (moved (slots ms) d) (sym (corrected-place ms w r));
      }

pub carried : (ms : List Modulus) (d w : List ℕ) → Codeword ms d → Word (length_of ms) w → CarriedBy ms d w
carried ms d w c h = carries ms d w (word-reads ms c.is_word) (word-reads ms h) c.is_zero
