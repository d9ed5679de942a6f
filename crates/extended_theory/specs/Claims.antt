-- What the theorem on extended words says: `extended-code : ExtendedCodes` (proofs/Theorem). Assumes nothing.
use Rattle.std.specs.Prelude.{◌≡◌, ◌≢◌, true, false, List, ℕ, suc, ◌-◌, ◌≤◌, take}
use Rattle.group_theory.specs.Group.{Modulus}
use Rattle.layout_theory.specs.Parameters.{Admitted, places_of, message_of, moduli_for}
use Rattle.words_theory.specs.Words.{Word, distance, flip}
use Rattle.shortened_theory.specs.Allowed.{Allowed}
use Rattle.shortened_theory.specs.Code.{LeftOut, corrected_old_place}
use Rattle.extended_theory.specs.Code.{last_place, front_of, ExtendedCodeword, extended_encode, extended_corrected, extended_corrected_place, is_even_fault}

-- at most one extended codeword is within one place of w. There is none where w has even parity and its first n − s places a syndrome that is not
-- zero, and where the correction of these falls in a left-out place; everywhere else there is one
pub record ExtendedNearestTo (ms : List Modulus) (s : ℕ) (w : List ℕ) : Type 0 where
  pub only : (c : List ℕ) → ExtendedCodeword ms s c → distance c w ≤ 1 → c ≡ extended_corrected ms s w
  pub even : is_even_fault ms s w ≡ true → (c : List ℕ) → ExtendedCodeword ms s c → distance c w ≤ 1 → ⊥
  pub left : LeftOut s (corrected_old_place ms s (front_of ms s w)) → (c : List ℕ) → ExtendedCodeword ms s c → distance c w ≤ 1 → ⊥
  pub codeword : is_even_fault ms s w ≡ false → (LeftOut s (corrected_old_place ms s (front_of ms s w)) → ⊥) → ExtendedCodeword ms s (extended_corrected ms s w)
  -- the place told: flipped there, w is that codeword, and flipped at any other place, 0 for none, it is none
  pub within : extended_corrected_place ms s w ≤ last_place ms s
  pub flipped : (LeftOut s (corrected_old_place ms s (front_of ms s w)) → ⊥) → extended_corrected ms s w ≡ flip (extended_corrected_place ms s w) w
  pub place : (p : ℕ) → p ≤ last_place ms s → ExtendedCodeword ms s (flip p w)
      → (is_even_fault ms s w ≡ false) × (LeftOut s (corrected_old_place ms s (front_of ms s w)) → ⊥) × (p ≡ extended_corrected_place ms s w)

-- for every admitted t and r and every allowed s
pub record ExtendedOf (t r s : ℕ) : Type 0 where
  pub nearest : (w : List ℕ) → Word (suc (places_of t - s)) w → ExtendedNearestTo (moduli_for t r) s w
  -- encoding gives the one extended codeword that begins with the message, and every extended codeword is met
  pub encodes : (m : List ℕ) → Word (message_of t - s) m → ExtendedCodeword (moduli_for t r) s (extended_encode (moduli_for t r) s m)
  pub begins : (m : List ℕ) → Word (message_of t - s) m → take (message_of t - s) (extended_encode (moduli_for t r) s m) ≡ m
  pub encoded : (c : List ℕ) → ExtendedCodeword (moduli_for t r) s c
      → Word (message_of t - s) (take (message_of t - s) c) × (c ≡ extended_encode (moduli_for t r) s (take (message_of t - s) c))
  -- two extended codewords differ in at least four places
  pub apart : (c d : List ℕ) → ExtendedCodeword (moduli_for t r) s c → ExtendedCodeword (moduli_for t r) s d → c ≢ d → 4 ≤ distance c d

abbrev pub ExtendedCodes : Type 0
ExtendedCodes = (t r s : ℕ) → Admitted t r → Allowed t r s → ExtendedOf t r s
