-- What request C-17 says of demand 3: "for any other allowed s, the same in each record, a word has at most one codeword within one place,
-- which correction gives on the same terms where there is one". The theorems are `demand3-shortened : Demand3Shortened`, for every allowed s, 0
-- among them, and `opened-shortened : OpenedShortened` (proofs/Demand3Shortened). Assumes nothing.
use Rattle.std.specs.Prelude.{◌≡◌, ◌≢◌, ◌↔◌, true, false, List, ℕ, ◌-◌, ◌≤◌, length, take}
use Rattle.layout_theory.specs.Parameters.{Admitted, places_of, message_of, moduli_for}
use Rattle.words_theory.specs.Words.{Word, byte_at, distance, flip}
use Rattle.shortened_theory.specs.Allowed.{Allowed}
use Rattle.shortened_theory.specs.Code.{ShortenedCodeword, is_shortened_paired, shortened_other_half}
use Rattle.coder_theory.specs.Calls.{opened, correct_answer, correct_output}
use Rattle.coder_theory.specs.Demand3.{OwnRecord, NotFull, AcceptsMessage, encoded_by, AcceptsTwo, combined_by, AcceptsWord, corrected_by, place_by}

-- c is a codeword that differs from w in at most one place
pub record Near (t r s : ℕ) (w c : List ℕ) : Type 0 where
  pub codeword : ShortenedCodeword (moduli_for t r) s c
  pub near : distance c w ≤ 1

-- w has one
abbrev pub HasNear : ℕ → ℕ → ℕ → List ℕ → Type 0
HasNear t r s w = (c : List ℕ) × Near t r s w c

-- "the place is the same, except that it moves to the other half of its pair exactly when the two places of that pair differ in the
-- codeword": pairs are those of the layout, renumbered
pub record MovedShortened (t r s : ℕ) (d : List ℕ) (p q : ℕ) : Type 0 where
  pub alone : is_shortened_paired (moduli_for t r) s p ≡ false → q ≡ p
  pub agree : is_shortened_paired (moduli_for t r) s p ≡ true → byte_at d p ≡ byte_at d (shortened_other_half (moduli_for t r) s p) → q ≡ p
  pub differ : is_shortened_paired (moduli_for t r) s p ≡ true → byte_at d p ≢ byte_at d (shortened_other_half (moduli_for t r) s p) → (q ≡ shortened_other_half (moduli_for t r) s p) × (q ≢ p)

-- what is said of a word w and a codeword c within one place of it
pub record OfNear (t r s : ℕ) (w c : List ℕ) : Type 0 where
  pub is_word : Word (places_of t - s) c
  -- correction "gives that codeword and the place in which they differ, or 0 where they are equal"
  pub p : ℕ
  pub within : p ≤ places_of t - s
  pub flipped : c ≡ flip p w
  pub equal : (p ≡ 0) ↔ (c ≡ w)
  pub corrects : (o : OwnRecord t r s) → NotFull o → AcceptsWord o w × (corrected_by o w ≡ c) × (place_by o w ≡ p)
  -- "and encoding its first n − t [− s] places gives it again"
  pub encodes : (o : OwnRecord t r s) → AcceptsMessage o (take (message_of t - s) c) × (encoded_by o (take (message_of t - s) c) ≡ c)
  -- "And when any codeword is combined with the received word, correcting the result gives that codeword combined with the corrected word"
  pub carries : (d : List ℕ) → ShortenedCodeword (moduli_for t r) s d → (o₁ o₂ o₃ : OwnRecord t r s) → NotFull o₂
      → let x = combined_by o₁ d w in
      AcceptsTwo o₁ d w × AcceptsWord o₂ x × AcceptsTwo o₃ d c × (corrected_by o₂ x ≡ combined_by o₃ d c) × MovedShortened t r s d p (place_by o₂ x)

-- of one word w
pub record AtShortenedWord (t r s : ℕ) (w : List ℕ) : Type 0 where
  -- "a word has at most one codeword within one place, which correction gives on the same terms where there is one"
  pub only : (c c' : List ℕ) → Near t r s w c → Near t r s w c' → c ≡ c'
  pub some : (c : List ℕ) → Near t r s w c → OfNear t r s w c
  -- and where there is none, and only there, it is refused with 11, whatever the counts, and alters nothing
  pub none : (o : OwnRecord t r s) → ((correct_answer o.given w o.output).refusal ≡ 11) ↔ (HasNear t r s w → ⊥)
  pub untouched : (o : OwnRecord t r s) → (HasNear t r s w → ⊥)
      → (correct_answer o.given w o.output ≡ record { refusal = 11; place = 0; «record» = o.given }) × (correct_output o.given w o.output ≡ o.output)
  -- so whatever is not refused with 11 has one
  pub met : (o : OwnRecord t r s) → (correct_answer o.given w o.output).refusal ≢ 11 → HasNear t r s w
  -- "So two different choices of message and flipped place (none included) never give one received word"
  pub choices : (m m' : List ℕ) → Word (message_of t - s) m → Word (message_of t - s) m' → (i j : ℕ) → i ≤ places_of t - s → j ≤ places_of t - s → (o o' : OwnRecord t r s)
      → AcceptsMessage o m × AcceptsMessage o' m' × (flip i (encoded_by o m) ≡ flip j (encoded_by o' m') → (m ≡ m') × (i ≡ j))
  -- w has a codeword within one place exactly where any codeword combined with w has
  pub both : (d : List ℕ) → ShortenedCodeword (moduli_for t r) s d → (o : OwnRecord t r s) → HasNear t r s (combined_by o d w) ↔ HasNear t r s w

abbrev pub Demand3Shortened : Type 0
Demand3Shortened = (t r s : ℕ) → Admitted t r → Allowed t r s → (w : List ℕ) → Word (places_of t - s) w → AtShortenedWord t r s w

-- none of it is empty, as for demand 3
abbrev pub OpenedShortened : Type 0
OpenedShortened = (t r s : ℕ) → Admitted t r → Allowed t r s → (out : List ℕ) → places_of t - s ≤ length out
    → (o : OwnRecord t r s) × (opened t r s ≡ record { refusal = 0; «record» = o.given }) × (o.output ≡ out) × NotFull o
