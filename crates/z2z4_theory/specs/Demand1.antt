-- Demand 1 of the calls for C: refused by 1 and then by the numbers and in the order of document 01, for those reasons only, never by those of a
-- record; accepted exactly where t and r are admitted, or t and t where r is 0, each word has its length and bits only, the output has room, places
-- are in range and different; and a refused call writes nothing. The theorem is `demand1-for-c : Demand1ForC` (proofs/Demand1). Assumes nothing.
use Rattle.std.specs.Prelude.{◌≡◌, ◌≢◌, ◌↔◌, ◌⊎◌, List, [], ◌∷◌, ℕ, suc, ◌<◌, ◌≤◌, length, ℤ, pos, negsuc}
use Rattle.layout_theory.specs.Parameters.{AdmittedOrZero, places_of, message_of}
use Rattle.words_theory.specs.Words.{Word}
use Rattle.coder_theory.specs.Demand1.{Refused, NotBits}
use Rattle.z2z4_theory.specs.Calls.{encode_answer_for_c, encode_output_for_c, correct_answer_for_c, correct_output_for_c, combine_answer_for_c, combine_output_for_c, third_answer_for_c}

-- "They answer .. a refusal as its negated number": the refusal that an answer tells, 0 where the call is accepted
abbrev pub refusal_of : ℤ → ℕ
refusal_of (pos p) = 0
refusal_of (negsuc n) = suc n

-- "1. Parameters not admitted (opening, C calls, sheet)."
abbrev pub NotAdmitted : ℕ → ℕ → Type 0
NotAdmitted t r = AdmittedOrZero t r → ⊥

-- "2. A read word or message not of its exact length", k bytes; "3. An output buffer shorter than needed."; "4. A byte above 1"
abbrev pub write_rows_for_c : ℕ → ℕ → ℕ → List ℕ → List ℕ → List (ℕ × Type 0)
write_rows_for_c t r k w out = (1, NotAdmitted t r) ∷ (2, length w ≢ k) ∷ (3, length out < places_of t) ∷ (4, NotBits w) ∷ []

-- "5. A place outside 1 to n."
abbrev pub OutsideOf : ℕ → ℕ → Type 0
OutsideOf t p = (p ≡ 0) ⊎ (places_of t < p)

pub record RefusedForC (t r : ℕ) : Type 0 where
  pub encode : (m out : List ℕ) → Refused (refusal_of (encode_answer_for_c t r m out)) (write_rows_for_c t r (message_of t) m out)
  pub correct : (w out : List ℕ) → Refused (refusal_of (correct_answer_for_c t r w out)) (write_rows_for_c t r (places_of t) w out)
  pub combine : (x y out : List ℕ) → Refused (refusal_of (combine_answer_for_c t r x y out))
      ((1, NotAdmitted t r) ∷ (2, (length x ≢ places_of t) ⊎ (length y ≢ places_of t)) ∷ (3, length out < places_of t) ∷ (4, NotBits x ⊎ NotBits y) ∷ [])
  -- "6. Two equal places."
  pub third : (i j : ℕ) → Refused (refusal_of (third_answer_for_c t r i j)) ((1, NotAdmitted t r) ∷ (5, OutsideOf t i ⊎ OutsideOf t j) ∷ (6, i ≡ j) ∷ [])

-- encoding and combining then answer 0; what correction and third place answer is demand 3 and `ThirdsForC`
pub record AcceptsForC (t r : ℕ) : Type 0 where
  pub encode : (m out : List ℕ) → (encode_answer_for_c t r m out ≡ pos 0) ↔ (AdmittedOrZero t r × Word (message_of t) m × (places_of t ≤ length out))
  pub correct : (w out : List ℕ) → (refusal_of (correct_answer_for_c t r w out) ≡ 0) ↔ (AdmittedOrZero t r × Word (places_of t) w × (places_of t ≤ length out))
  pub combine : (x y out : List ℕ) → (combine_answer_for_c t r x y out ≡ pos 0)
      ↔ (AdmittedOrZero t r × Word (places_of t) x × Word (places_of t) y × (places_of t ≤ length out))
  pub third : (i j : ℕ) → (refusal_of (third_answer_for_c t r i j) ≡ 0)
      ↔ (AdmittedOrZero t r × (0 < i) × (i ≤ places_of t) × (0 < j) × (j ≤ places_of t) × (i ≢ j))

-- "every buffer untouched"
pub record UntouchedForC (t r : ℕ) : Type 0 where
  pub encode : (m out : List ℕ) → refusal_of (encode_answer_for_c t r m out) ≢ 0 → encode_output_for_c t r m out ≡ out
  pub correct : (w out : List ℕ) → refusal_of (correct_answer_for_c t r w out) ≢ 0 → correct_output_for_c t r w out ≡ out
  pub combine : (x y out : List ℕ) → refusal_of (combine_answer_for_c t r x y out) ≢ 0 → combine_output_for_c t r x y out ≡ out

pub record Demand1ForC : Type 0 where
  pub refused : (t r : ℕ) → RefusedForC t r
  pub accepts : (t r : ℕ) → AcceptsForC t r
  pub untouched : (t r : ℕ) → UntouchedForC t r
