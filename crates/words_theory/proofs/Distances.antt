-- Words within one place of each other, and the theorem that the code is perfect. Assumes nothing.
use mathlib.Core.Path.{◌≡◌, refl, sym, ap, ap₂, ◌∙◌}
use mathlib.Core.Bool.{Bool, true, false, not, true≢false}
use mathlib.Core.List.{List, [], ◌∷◌}
use Prim.Native.Nat.{ℕ, zero, suc, ◌-◌, ◌≤◌}
use native.Mathlib.Omega.{arith}
use lib.Dec.{eqb, eqb→eq, eqb_refl}
use lib.ListN.{length}
use Rattle.group_theory.specs.Group.{Modulus}
use Rattle.group_theory.proofs.Signs.{T_true, true-T}
use Rattle.layout_theory.specs.Choice.{one_if}
use Rattle.layout_theory.specs.Layout.{slots}
use Rattle.words_theory.specs.Words.{Bits, Word, distance, flip_at, flip}
use Rattle.words_theory.specs.Syndrome.{syndrome, Codeword, length_of}
use Rattle.words_theory.specs.Coding.{corrected}
use Rattle.words_theory.specs.Calls.{fault}
use Rattle.words_theory.specs.Claims.{PerfectAt}
use Rattle.words_theory.proofs.Reading.{Reads, word-reads, reads_word}
use Rattle.words_theory.proofs.Perfect.{flip-place-reads, fault-within, fault-zero, fault-only}
use Rattle.words_theory.proofs.Rule.{corrected-flip, corrected-place}

-- ---- distances
no_difference : (b : ℕ) → one_if (not (eqb b b)) ≡ 0
no_difference b = rw (T_true (eqb b b) (eqb_refl b))

pub distance_self : (w : List ℕ) → distance w w ≡ 0
unfolding distance
distance_self [] = refl
distance_self (b ∷ w) = let i = distance_self w in let h = no_difference b in omega arith

pub distance-zero : (c w : List ℕ) → distance c w ≡ 0 → c ≡ w
unfolding distance
distance-zero [] [] e = refl
distance-zero [] (x ∷ w) e = absurd (omega arith)
distance-zero (b ∷ c) [] e = absurd (omega arith)
distance-zero (b ∷ c) (x ∷ w) e = go (eqb b x) refl (distance-zero c w)
  where
    go : (t : Bool) → eqb b x ≡ t → (distance c w ≡ 0 → c ≡ w) → b ∷ c ≡ x ∷ w
    go true t f = ap₂ {C = List ℕ} ◌∷◌ (eqb→eq b x (true-T (eqb b x) t)) (f (omega arith))
    go false t f = let h = ap (λ (u : Bool). one_if (not u)) t in absurd (omega arith)

one_if-most : (b : Bool) → one_if b ≤ 1
one_if-most true = omega arith
one_if-most false = omega arith

distance-flip_at : (w : List ℕ) (i : ℕ) → distance (flip_at i w) w ≤ 1
unfolding distance flip_at
distance-flip_at [] i = omega arith
distance-flip_at (b ∷ w) zero = let k = distance_self w in let h = one_if-most (not (eqb (1 - b) b)) in omega arith
distance-flip_at (b ∷ w) (suc i) = let k = distance-flip_at w i in let h = no_difference b in omega arith

pub distance-flip : (w : List ℕ) (p : ℕ) → distance (flip p w) w ≤ 1
distance-flip w zero = let k = distance_self w in omega arith
distance-flip w (suc i) = distance-flip_at w i

-- a word within one place is the word itself or one with a place flipped
other-bit : (b x : ℕ) → b ≤ 1 → x ≤ 1 → eqb b x ≡ false → b ≡ 1 - x
other-bit zero zero h k e = absurd (true≢false e)
other-bit zero (suc zero) h k e = refl
other-bit (suc zero) zero h k e = refl
other-bit (suc zero) (suc zero) h k e = absurd (true≢false e)
other-bit (suc (suc b)) x h k e = absurd (omega arith)
other-bit zero (suc (suc x)) h k e = absurd (omega arith)
other-bit (suc zero) (suc (suc x)) h k e = absurd (omega arith)

pub neighbour : (c w : List ℕ) → length c ≡ length w → Bits c → Bits w → distance c w ≤ 1 → (p : ℕ) × (p ≤ length w) × (c ≡ flip p w)
unfolding distance flip_at
neighbour [] [] l g h d = (0, omega arith, refl)
neighbour [] (x ∷ w) l g h d = absurd (omega arith)
neighbour (b ∷ c) [] l g h d = absurd (omega arith)
neighbour (b ∷ c) (x ∷ w) l g h d = go (eqb b x) refl (neighbour c w (omega arith) g.1 h.1)
  where
    later : b ≡ x → (p : ℕ) → p ≤ length w → c ≡ flip p w → (q : ℕ) × (q ≤ length (x ∷ w)) × (b ∷ c ≡ flip q (x ∷ w))
    later e zero k f = (0, omega arith, ap₂ {C = List ℕ} ◌∷◌ e f)
    later e (suc i) k f = (suc (suc i), omega arith, ap₂ {C = List ℕ} ◌∷◌ e f)

    go : (t : Bool) → eqb b x ≡ t → (distance c w ≤ 1 → (p : ℕ) × (p ≤ length w) × (c ≡ flip p w))
        → (q : ℕ) × (q ≤ length (x ∷ w)) × (b ∷ c ≡ flip q (x ∷ w))
    go true t f =
        let z = ap (λ (u : Bool). one_if (not u)) t in
        let n = f (omega arith) in
        later (eqb→eq b x (true-T (eqb b x) t)) n.0 n.1 n.2
    go false t f =
        let z = ap (λ (u : Bool). one_if (not u)) t in
        (1, omega arith, ap₂ {C = List ℕ} ◌∷◌ (other-bit b x g.0 h.0 t) (distance-zero c w (omega arith)))

-- ---- the theorem
pub perfect : (ms : List Modulus) (w : List ℕ) → Word (length_of ms) w → PerfectAt ms w
perfect ms w h =
    record {
      codeword = record { is_word = reads_word ms (rw (corrected-flip ms w r) (flip-place-reads ms r (fault ms w))); is_zero = rw (corrected-flip ms w r) (fault-zero ms w r) };
      near = rw (corrected-flip ms w r) (distance-flip w (fault ms w));
      only = λ c k d. unique c k (neighbour c w (k.is_word.places ∙ sym h.places) k.is_word.bits h.bits d);
      within = rw (corrected-place ms w r) (fault-within ms w r);
      flipped = corrected-flip ms w r ∙ ap (λ (p : ℕ). flip p w) (sym (corrected-place ms w r));
      place = λ p k c. fault-only ms w r p k c.is_zero ∙ sym (corrected-place ms w r);
    }
  where
    r : Reads (slots ms) w
    r = word-reads ms h

    unique : (c : List ℕ) → Codeword ms c → (p : ℕ) × (p ≤ length w) × (c ≡ flip p w) → c ≡ corrected ms w
    unique c k n =
        let l = h.places in
        n.2 ∙ ap (λ (p : ℕ). flip p w) (fault-only ms w r n.0 (omega (arith, n.1)) (ap (syndrome ms) (sym n.2) ∙ k.is_zero))
        ∙ sym (corrected-flip ms w r)
