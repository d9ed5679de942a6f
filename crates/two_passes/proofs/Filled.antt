-- Arrays of zeros, and the loop that puts a word behind s zeros. Assumes nothing.
use mathlib.Core.Path.{◌≡◌, refl, sym, ap, ◌∙◌}
use mathlib.Core.List.{List, [], ◌∷◌, ◌++◌, append-nil, append_assoc}
use Prim.Native.Nat.{ℕ, zero, suc, ◌+◌, ◌^◌, ◌<◌, ◌≤◌}
use native.Mathlib.Numerals.{add-one}
use native.Mathlib.Omega.{arith}
use lib.ListN.{length, take, get_or, set, length-set, length-replicate}
use lib.Pow.{pow_mono}
use lib.Seq.{take-suc, take-suc-set, take-length}
use Rattle.layout_theory.specs.Parameters.{places_of}
use Rattle.words_theory.specs.Words.{zero_word}
use Rattle.shortened_theory.specs.Code.{fill}
use Rattle.two_passes.specs.Calls.{Blank}

-- ---- arrays of zeros
take-zeros : (s n : ℕ) → s ≤ n → take s (zero_word n) ≡ zero_word s
take-zeros zero n h = refl
take-zeros (suc s) zero h = absurd (omega arith)
take-zeros (suc s) (suc n) h = ap {B = List ℕ} (λ (t : List ℕ). 0 ∷ t) (take-zeros s n (omega arith))

pub blank : (k t : ℕ) → t ≤ k → Blank (places_of t) (zero_word (2 ^ k))
blank k t h =
    let l = length-replicate {A = ℕ} (2 ^ k) 0 in
    let q : 2 ^ t ≤ 2 ^ k = pow_mono {i = t} {j = k} h in
    record { space = omega arith; zeros = ap zero_word (sym l) }

pub fewer-blank : {n k : ℕ} {v : List ℕ} → Blank n v → k ≤ n → Blank k v
fewer-blank b h = let s = b.space in record { space = omega arith; zeros = b.zeros }

-- ---- a loop that copies i bytes of w to the places from index s on, in an array that was v₀
pub record Copied (s : ℕ) (w v₀ v : List ℕ) (i : ℕ) : Type 0 where
  pub within : i ≤ length w
  pub wide : length v ≡ length v₀
  pub bytes : take (s + i) v ≡ fill s (take i w)

pub copy_start : (s : ℕ) (w v : List ℕ) → Blank (s + length w) v → Copied s w v v 0
copy_start s w v b =
    let z : s + 0 ≡ s = omega arith in
    let k = b.space in
    let e : take s v ≡ zero_word s = ap (take s) b.zeros ∙ take-zeros s (length v) (omega arith) in
    record { within = omega arith; wide = refl; bytes = ap (λ (k : ℕ). take k v) z ∙ e ∙ sym (append-nil (zero_word s)) }

pub copy_step : (s : ℕ) (w v₀ v : List ℕ) (i b : ℕ) → Copied s w v₀ v i → i < length w → s + length w ≤ length v₀ → b ≡ get_or w i 0
    → Copied s w v₀ (set v (s + i) b) (i + 1)
copy_step s w v₀ v i b c h l e =
    let n = c.wide in
    let z : s + (i + 1) ≡ suc (s + i) = omega arith in
    record {
      within = omega arith;
      wide = simp length-set c.wide;
      bytes = ap (λ (k : ℕ). take k (set v (s + i) b)) z
          ∙ take-suc-set v (s + i) b (omega arith)
          ∙ ap (λ (x : List ℕ). x ++ (b ∷ [])) c.bytes
          ∙ append_assoc (zero_word s) (take i w) (b ∷ [])
          ∙ ap (fill s)
          (ap (λ (k : ℕ). take i w ++ (k ∷ [])) e ∙ sym (take-suc w i 0 h) ∙ ap (λ (k : ℕ). take k w) (sym (add-one i)));
    }

pub copy-end : (s : ℕ) (w v₀ v : List ℕ) (i : ℕ) → Copied s w v₀ v i → length w ≤ i → take (s + length w) v ≡ fill s w
copy-end s w v₀ v i c h =
    let k = c.within in
    let e : length w ≡ i = omega arith in
    ap (λ (n : ℕ). take (s + n) v) e ∙ c.bytes ∙ ap (fill s) (ap (λ (n : ℕ). take n w) (sym e) ∙ take-length w)
