-- Demand 3 of the calls: `Demand3`, at the end. The theorems are `demand3 : Demand3`, `any-record : AnyRecord` and
-- `opened-own : OpenedOwn` (proofs/Demand3). Assumes nothing.
use Rattle.std.specs.Prelude.{◌≡◌, ◌≢◌, ◌↔◌, Bool, true, false, List, ℕ, ◌+◌, ◌-◌, ◌≤◌, length, take}
use Rattle.layout_theory.specs.Parameters.{Admitted, places_of, message_of, moduli_for}
use Rattle.layout_theory.specs.Layout.{slots}
use Rattle.words_theory.specs.Words.{Word, byte_at, distance, flip}
use Rattle.words_theory.specs.Syndrome.{Codeword}
use Rattle.words_theory.specs.Halves.{is_paired, other_half}
use Rattle.coder_theory.specs.State.{RecordOf, full_count}
use Rattle.coder_theory.specs.Calls.{opened, encode_answer, encode_output, correct_answer, correct_output, combine_answer, combine_output}
use Rattle.coder_theory.specs.declared.Record.{Record}

-- "Each of these calls .. may have an open and fit record of its own, with the same t and r" (document 01), and an output long enough,
-- whatever it holds; and, by request C-17, "the same [s] in each record", which for demand 3 is 0
pub record OwnRecord (t r s : ℕ) : Type 0 where
  pub given : Record
  pub code : RecordOf t r s given
  pub output : List ℕ
  pub enough : places_of t - s ≤ length output

-- "in a correction's record words is not full" (document 01)
abbrev pub NotFull : {t r s : ℕ} → OwnRecord t r s → Type 0
NotFull o = o.given.words ≢ full_count

-- "Of the calls it compares the first n bytes that correction, encoding and combining write .. and the places that correction tells"
-- (document 01): what each call does with a record and an output of its own, and that it is accepted
module _ {t r s : ℕ} (o : OwnRecord t r s) where
  abbrev pub AcceptsMessage : List ℕ → Type 0
  AcceptsMessage m = (encode_answer o.given m o.output).refusal ≡ 0

  abbrev pub encoded_by : List ℕ → List ℕ
  encoded_by m = take (places_of t - s) (encode_output o.given m o.output)

  abbrev pub AcceptsTwo : List ℕ → List ℕ → Type 0
  AcceptsTwo x y = (combine_answer o.given x y o.output).refusal ≡ 0

  abbrev pub combined_by : List ℕ → List ℕ → List ℕ
  combined_by x y = take (places_of t - s) (combine_output o.given x y o.output)

  abbrev pub AcceptsWord : List ℕ → Type 0
  AcceptsWord w = (correct_answer o.given w o.output).refusal ≡ 0

  abbrev pub corrected_by : List ℕ → List ℕ
  corrected_by w = take (places_of t - s) (correct_output o.given w o.output)

  abbrev pub place_by : List ℕ → ℕ
  place_by w = (correct_answer o.given w o.output).place

-- "the place is the same, except that it moves to the other half of its pair exactly when the two places of that pair differ in the
-- codeword": d is the codeword, p the place and q the one in its stead
abbrev pub in_pair : ℕ → ℕ → ℕ → Bool
in_pair t r p = is_paired (slots (moduli_for t r)) p

abbrev pub half : ℕ → ℕ → ℕ → ℕ
half t r p = other_half (slots (moduli_for t r)) p

pub record MovedBy (t r : ℕ) (d : List ℕ) (p q : ℕ) : Type 0 where
  -- place 0 and binary places
  pub alone : in_pair t r p ≡ false → q ≡ p
  pub agree : in_pair t r p ≡ true → byte_at d p ≡ byte_at d (half t r p) → q ≡ p
  pub differ : in_pair t r p ≡ true → byte_at d p ≢ byte_at d (half t r p) → (q ≡ half t r p) × (q ≢ p)

-- demand 3, of one word w; the sentences quoted are its own
pub record AtWord (t r : ℕ) (w : List ℕ) : Type 0 where
  -- (1) "exactly one codeword differs from it in at most one place": c, which has n places
  pub c : List ℕ
  pub codeword : Codeword (moduli_for t r) c
  pub is_word : Word (places_of t) c
  pub near : distance c w ≤ 1
  pub only : (c' : List ℕ) → Codeword (moduli_for t r) c' → distance c' w ≤ 1 → c' ≡ c
  -- (2) "Correction, with an open and fit record whose count is not full and an output long enough, gives that codeword and the place in
  -- which they differ, or 0 where they are equal": p; a word flipped at place 0 is the word itself
  pub p : ℕ
  pub within : p ≤ places_of t
  pub flipped : c ≡ flip p w
  pub equal : (p ≡ 0) ↔ (c ≡ w)
  pub corrects : (o : OwnRecord t r 0) → NotFull o → AcceptsWord o w × (corrected_by o w ≡ c) × (place_by o w ≡ p)
  -- (3) "and encoding its first n − t places gives it again"
  pub encodes : (o : OwnRecord t r 0) → AcceptsMessage o (take (message_of t) c) × (encoded_by o (take (message_of t) c) ≡ c)
  -- (4) "So two different choices of message and flipped place (none included) never give one received word": flip 0 flips none. It speaks
  -- of no w, and stands here so that the five are one statement
  pub choices : (m m' : List ℕ) → Word (message_of t) m → Word (message_of t) m' → (i j : ℕ) → i ≤ places_of t → j ≤ places_of t → (o o' : OwnRecord t r 0)
      → AcceptsMessage o m × AcceptsMessage o' m' × (flip i (encoded_by o m) ≡ flip j (encoded_by o' m') → (m ≡ m') × (i ≡ j))
  -- (5) "And when any codeword is combined with the received word, correcting the result gives that codeword combined with the corrected
  -- word; the place is the same, except that it moves": d is any codeword, x what combining it with w gives
  pub carries : (d : List ℕ) → Codeword (moduli_for t r) d → (o₁ o₂ o₃ : OwnRecord t r 0) → NotFull o₂
      → let x = combined_by o₁ d w in
      AcceptsTwo o₁ d w × AcceptsWord o₂ x × AcceptsTwo o₃ d c × (corrected_by o₂ x ≡ combined_by o₃ d c) × MovedBy t r d p (place_by o₂ x)

-- "For every admitted t and r and every word of length n"
abbrev pub Demand3 : Type 0
Demand3 = (t r : ℕ) → Admitted t r → (w : List ℕ) → Word (places_of t) w → AtWord t r w

-- "an open and fit record": every record whose t and r are admitted and whose words is the sum of the other counts, whatever they are
abbrev pub AnyRecord : Type 0
AnyRecord = (rec : Record) → Admitted rec.t rec.r → rec.words ≡ rec.clean + rec.corrected_binary + rec.corrected_pairs
    → RecordOf rec.t rec.r rec.s rec

-- none of it is empty: opening gives a record that each of the calls can have for its own, and words is not full in it
abbrev pub OpenedOwn : Type 0
OpenedOwn = (t r : ℕ) → Admitted t r → (out : List ℕ) → places_of t ≤ length out
    → (o : OwnRecord t r 0) × (opened t r 0 ≡ record { refusal = 0; «record» = o.given }) × (o.output ≡ out) × NotFull o
