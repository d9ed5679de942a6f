-- Two different places have exactly one third place, another than both. Assumes nothing.
use mathlib.Core.Path.{◌≡◌, refl, sym, ap, ap₂, ◌∙◌}
use mathlib.Core.Logic.{◌≢◌}
use mathlib.Core.Bool.{Bool, true, false, ◌&&◌, true≢false}
use mathlib.Core.List.{List}
use Prim.Native.Nat.{ℕ, zero, suc, ◌+◌, ◌<◌, ◌≤◌}
use native.Mathlib.Omega.{arith}
use native.Mathlib.Decide.{ℕ_discrete}
use lib.Dec.{eqb}
use lib.ListN.{length, get_or, length-replicate}
use Rattle.group_theory.specs.Group.{Modulus, zeros}
use Rattle.group_theory.specs.Sign.{all_zero}
use Rattle.group_theory.proofs.Signs.{both, all_zero-zeros, zeros-all_zero}
use Rattle.layout_theory.specs.Choice.{pick, least}
use Rattle.layout_theory.specs.Layout.{slots, places}
use Rattle.layout_theory.proofs.Sizes.{length-places}
use Rattle.words_theory.specs.Words.{Bits, zero_word, weight, flip_at, flip}
use Rattle.words_theory.specs.Syndrome.{syndrome_over, syndrome, length_of}
use Rattle.words_theory.specs.Coding.{is_codeword, makes_three, third}
use Rattle.words_theory.specs.Calls.{fault}
use Rattle.words_theory.specs.Claims.{ThreeAt, ThirdOf}
use Rattle.words_theory.proofs.Reading.{Reads, word-reads, reads_word, valid-syndrome}
use Rattle.words_theory.proofs.Combining.{syndrome-zero}
use Rattle.words_theory.proofs.Flips.{flip-reads, flip_twice, flip-comm, length-flip_at, flipped-there, weight-flip_at}
use Rattle.words_theory.proofs.Perfect.{fault-within, fault-zero, fault-only}

-- ---- the least number that passes, where only one does
pub least-only : (test : ℕ → Bool) (p k q : ℕ) → p ≤ q → q < p + k → test q ≡ true
    → ((m : ℕ) → p ≤ m → m < p + k → test m ≡ true → m ≡ q) → least test p k ≡ q
unfolding least
least-only test p zero q l h t u = absurd (omega arith)
least-only test p (suc k) q l h t u = go (test p) refl (ℕ_discrete p q) (λ n. least-only test (suc p) k q (omega (arith, n)) (omega arith) t (λ m a b c. u m (omega arith) (omega arith) c))
  where
    go : (b : Bool) → test p ≡ b → Dec (p ≡ q) → (p ≢ q → least test (suc p) k ≡ q) → pick (test p) p (least test (suc p) k) ≡ q
    go true e d f = rw e (u p (omega arith) (omega arith) e)
    go false e (yes d) f = absurd (true≢false (sym t ∙ ap test (sym d) ∙ e))
    go false e (no n) f = rw e (f n)

-- ---- the zero word
pub zero_bits : (n : ℕ) → Bits (zero_word n)
zero_bits zero = tt
zero_bits (suc n) = (omega arith, zero_bits n)

pub zero-at : (n i : ℕ) → get_or (zero_word n) i 0 ≡ 0
zero-at zero i = refl
zero-at (suc n) zero = refl
zero-at (suc n) (suc i) = zero-at n i

zero-weight : (n : ℕ) → weight (zero_word n) ≡ 0
unfolding weight
zero-weight zero = refl
zero-weight (suc n) = let k = zero-weight n in omega arith

pub zero-syndrome : (ms : List Modulus) → syndrome ms (zero_word (length_of ms)) ≡ zeros ms
unfolding syndrome
zero-syndrome ms =
    let l = length-places ms in
    let e : length_of ms ≡ length (places ms (slots ms)) = omega arith in
    ap (λ (n : ℕ). syndrome_over ms (slots ms) (zero_word n)) e ∙ syndrome-zero ms (slots ms)

pub zero_word_lem : (ms : List Modulus) → Reads (slots ms) (zero_word (length_of ms))
zero_word_lem ms = word-reads ms (record { places = length-replicate (length_of ms) 0; bits = zero_bits (length_of ms) })

-- ---- ones at two places, of index i and j
module _ (ms : List Modulus) (i j : ℕ) (hi : i < length_of ms) (hj : j < length_of ms) (n : i ≢ j) where
  abbrev o : List ℕ
  o = zero_word (length_of ms)

  abbrev pub two_ones : List ℕ
  two_ones = flip_at j (flip_at i o)

  r₁ : Reads (slots ms) (flip_at i o)
  r₁ = flip-reads (zero_word_lem ms) i

  pub two-reads : Reads (slots ms) two_ones
  two-reads = flip-reads r₁ j

  -- no word of weight 1 or 2 is a codeword
  one-not : (k : ℕ) → k < length_of ms → syndrome ms (flip_at k o) ≢ zeros ms
  one-not k h e =
      let a = fault-only ms o (zero_word_lem ms) (suc k) h e in
      let b = fault-only ms o (zero_word_lem ms) 0 (omega arith) (zero-syndrome ms) in
      omega arith

  pub two-not : syndrome ms two_ones ≢ zeros ms
  two-not e =
      let a = fault-only ms (flip_at i o) r₁ (suc j) hj e in
      let b = fault-only ms (flip_at i o) r₁ (suc i) hi (ap (syndrome ms) (flip_twice (zero_word_lem ms) (suc i)) ∙ zero-syndrome ms) in
      n (omega arith)

  -- so the place that makes two ones a codeword is a third one
  third-some : fault ms two_ones ≢ 0
  third-some e = two-not (ap (λ (p : ℕ). syndrome ms (flip p two_ones)) (sym e) ∙ fault-zero ms two_ones two-reads)

  pub third-second : fault ms two_ones ≢ suc j
  third-second e =
      one-not i hi
      (ap (syndrome ms) (sym (flip_twice r₁ (suc j))) ∙ ap (λ (p : ℕ). syndrome ms (flip p two_ones)) (sym e) ∙ fault-zero ms two_ones two-reads)

  pub third-first : fault ms two_ones ≢ suc i
  third-first e =
      one-not j hj
      (ap (syndrome ms) (sym (flip_twice (flip-reads (zero_word_lem ms) j) (suc i)) ∙ ap (flip (suc i)) (flip-comm o (suc i) (suc j) (λ k. n (back k))))
      ∙ ap (λ (p : ℕ). syndrome ms (flip p two_ones)) (sym e) ∙ fault-zero ms two_ones two-reads)
    where
      back : suc i ≡ suc j → i ≡ j
      back k = omega arith

  three : (k : ℕ) → k < length_of ms → k ≢ i → k ≢ j → weight (flip_at k two_ones) ≡ 3
  three k h a b =
      let l₀ = length-replicate {A = ℕ} (length_of ms) 0 in
      let l₁ = length-flip_at o i in
      let l₂ = length-flip_at (flip_at i o) j in
      let w₀ = zero-weight (length_of ms) in
      let w₁ = weight-flip_at o i (omega arith) (zero-at (length_of ms) i) in
      let w₂ = weight-flip_at (flip_at i o) j (omega arith) (flipped-there o i j n ∙ zero-at (length_of ms) j) in
      let w₃ = weight-flip_at two_ones k (omega arith)
      (flipped-there (flip_at i o) j k (λ e. b (sym e)) ∙ flipped-there o i k (λ e. a (sym e)) ∙ zero-at (length_of ms) k) in
      omega arith

  pub three-fault : ThreeAt ms (suc i) (suc j) (fault ms two_ones)
  three-fault = go (fault ms two_ones) refl
    where
      go : (p : ℕ) → fault ms two_ones ≡ p → ThreeAt ms (suc i) (suc j) p
      go zero e = absurd (third-some e)
      go (suc k) e =
          let h = fault-within ms two_ones two-reads in
          record {
            least = omega arith;
            most = omega arith;
            codeword = record {
              is_word = reads_word ms (flip-reads two-reads k);
              is_zero = ap (λ (p : ℕ). syndrome ms (flip p two_ones)) (sym e) ∙ fault-zero ms two_ones two-reads;
            };
            weighs = three k (omega arith) (λ x. third-first (e ∙ ap suc x)) (λ x. third-second (e ∙ ap suc x));
          }

  pub three-only : (k : ℕ) → ThreeAt ms (suc i) (suc j) k → k ≡ fault ms two_ones
  three-only k t = fault-only ms two_ones two-reads k t.most t.codeword.is_zero

  passes : (k : ℕ) → ThreeAt ms (suc i) (suc j) k → makes_three ms (suc i) (suc j) k ≡ true
  passes k t = ap₂ ◌&&◌ (ap all_zero t.codeword.is_zero ∙ zeros-all_zero ms) (ap (λ (n : ℕ). eqb n 3) t.weighs)

  passed : (k : ℕ) → k ≤ length_of ms → makes_three ms (suc i) (suc j) k ≡ true → k ≡ fault ms two_ones
  passed k h t =
      let w = flip k two_ones in
      fault-only ms two_ones two-reads k h (all_zero-zeros ms (syndrome ms w) (valid-syndrome ms w) (both (is_codeword ms w) (eqb (weight w) 3) t).0)

  pub third-fault : third ms (suc i) (suc j) ≡ fault ms two_ones
  unfolding third
  third-fault =
      let t = three-fault in
      least-only (makes_three ms (suc i) (suc j)) 1 (length_of ms) (fault ms two_ones) t.least (omega (arith, t.most)) (passes (fault ms two_ones) t)
      (λ m a b c. passed m (omega arith) c)

-- ---- the theorem
pub thirds : (ms : List Modulus) (i j : ℕ) → 0 < i → i ≤ length_of ms → 0 < j → j ≤ length_of ms → i ≢ j → ThirdOf ms i j
thirds ms zero j a b c d n = absurd (omega arith)
thirds ms (suc i) zero a b c d n = absurd (omega arith)
thirds ms (suc i) (suc j) a b c d n =
    let m : i ≢ j = λ e. n (ap suc e) in
    let f = third-fault ms i j b d m in
    record {
      makes = rw f (three-fault ms i j b d m);
      only = λ k t. three-only ms i j b d m k t ∙ sym f;
      not_first = λ e. third-first ms i j b d m (sym f ∙ e);
      not_second = λ e. third-second ms i j b d m (sym f ∙ e);
      symmetric = f ∙ ap (fault ms) (flip-comm (zero_word (length_of ms)) (suc j) (suc i) (λ e. n (sym e))) ∙ sym (third-fault ms j i d b (λ e. m (sym e)));
    }
