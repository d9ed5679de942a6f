-- Document 01's cases marked P, for (3,2), "as a single table about the definitions", and what request C-11 prints of (2,1). The theorems are
-- `table : Table` and `length_three : LengthThree` (proofs/Table). Assumes nothing.
use Rattle.std.specs.Prelude.{◌≡◌, List, [], ◌∷◌, ℕ}
use Rattle.group_theory.specs.Group.{Modulus, number}
use Rattle.layout_theory.specs.Parameters.{moduli_for}
use Rattle.layout_theory.specs.Layout.{slots}
use Rattle.layout_theory.specs.Claims.{layout_numbers}
use Rattle.words_theory.specs.Words.{combine}
use Rattle.words_theory.specs.Syndrome.{syndrome}
use Rattle.words_theory.specs.Coding.{encode, corrected, corrected_place, third}

abbrev pub code32 : List Modulus
code32 = moduli_for 3 2

abbrev pub combined : List ℕ → List ℕ → List ℕ
combined = combine (slots code32)

abbrev pub word : ℕ → ℕ → ℕ → ℕ → ℕ → ℕ → ℕ → List ℕ
word a b c d e f g = a ∷ b ∷ c ∷ d ∷ e ∷ f ∷ g ∷ []

abbrev pub Table : Type 0
Table =
    (encode code32 (0 ∷ 0 ∷ 0 ∷ 0 ∷ []) ≡ word 0 0 0 0 0 0 0)
    × (encode code32 (1 ∷ 0 ∷ 0 ∷ 0 ∷ []) ≡ word 1 0 0 0 0 1 1)
    × (encode code32 (0 ∷ 1 ∷ 0 ∷ 0 ∷ []) ≡ word 0 1 0 0 1 1 1)
    × (encode code32 (0 ∷ 0 ∷ 1 ∷ 0 ∷ []) ≡ word 0 0 1 0 1 0 1)
    × (encode code32 (0 ∷ 0 ∷ 0 ∷ 1 ∷ []) ≡ word 0 0 0 1 1 1 0)
    × (encode code32 (1 ∷ 1 ∷ 1 ∷ 1 ∷ []) ≡ word 1 1 1 1 1 1 1)
    × (number code32 (syndrome code32 (word 0 0 1 1 1 1 0)) ≡ 3)
    × (corrected_place code32 (word 0 0 1 1 1 1 0) ≡ 3)
    × (corrected code32 (word 0 0 1 1 1 1 0) ≡ word 0 0 0 1 1 1 0)
    × (number code32 (syndrome code32 (word 0 0 0 0 0 1 1)) ≡ 4)
    × (corrected_place code32 (word 0 0 0 0 0 1 1) ≡ 1)
    × (corrected code32 (word 0 0 0 0 0 1 1) ≡ word 1 0 0 0 0 1 1)
    × (corrected code32 (word 0 0 0 0 0 0 1) ≡ word 0 0 0 0 0 0 0)
    × (corrected_place code32 (word 0 0 0 0 0 0 1) ≡ 7)
    × (combined (word 0 0 0 1 1 1 0) (word 0 0 1 0 1 0 1) ≡ word 0 0 0 0 0 0 0)
    × (combined (word 0 0 0 1 1 1 0) (word 0 0 0 1 1 1 0) ≡ word 0 0 1 1 0 1 1)
    × (third code32 1 2 ≡ 5)
    × (third code32 3 6 ≡ 2)
    × (third code32 3 5 ≡ 7)

-- of (2,1): "Its layout is 2 3 1 and message 1 encodes to 111."
abbrev pub LengthThree : Type 0
LengthThree = (layout_numbers 2 1 ≡ 2 ∷ 3 ∷ 1 ∷ []) × (encode (moduli_for 2 1) (1 ∷ []) ≡ 1 ∷ 1 ∷ 1 ∷ [])
