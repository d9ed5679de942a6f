-- Demand 3 of the calls for C, `Demand3ForC`, and demand 2 of the third place, `ThirdsForC`. The theorems are `demand3-for-c` and
-- `thirds-for-c` (proofs/Demand3). Assumes nothing.
use Rattle.std.specs.Prelude.{◌≡◌, ◌≢◌, List, ℕ, ◌≤◌, ◌<◌, length, take, pos}
use Rattle.layout_theory.specs.Parameters.{Admitted, places_of, message_of, moduli_for}
use Rattle.words_theory.specs.Words.{Word, flip}
use Rattle.words_theory.specs.Syndrome.{Codeword}
use Rattle.words_theory.specs.Claims.{ThreeAt}
use Rattle.coder_theory.specs.Demand3.{AtWord, MovedBy}
use Rattle.z2z4_theory.specs.Calls.{encode_answer_for_c, encode_output_for_c, correct_answer_for_c, correct_output_for_c, combine_answer_for_c, combine_output_for_c, third_answer_for_c}

-- an output long enough, whatever it holds
pub record Room (t : ℕ) : Type 0 where
  pub output : List ℕ
  pub enough : places_of t ≤ length output

-- the first n bytes that the calls write
module _ (t r : ℕ) where
  abbrev pub encoded_for : List ℕ → List ℕ → List ℕ
  encoded_for m out = take (places_of t) (encode_output_for_c t r m out)

  abbrev pub corrected_for : List ℕ → List ℕ → List ℕ
  corrected_for w out = take (places_of t) (correct_output_for_c t r w out)

  abbrev pub combined_for : List ℕ → List ℕ → List ℕ → List ℕ
  combined_for x y out = take (places_of t) (combine_output_for_c t r x y out)

-- demand 3, of one word w: what coder's `AtWord` says of w and of its one codeword c and place p, and the same of the calls for C
pub record AtWordForC (t r : ℕ) (w : List ℕ) : Type 0 where
  pub at : AtWord t r w
  -- correction answers the place, 0 where w is the codeword, and writes the codeword
  pub corrects : (o : Room t) → (correct_answer_for_c t r w o.output ≡ pos at.p) × (corrected_for t r w o.output ≡ at.c)
  -- encoding the first n − t places of the codeword gives it again
  pub encodes : (o : Room t) → let m = take (message_of t) at.c in (encode_answer_for_c t r m o.output ≡ pos 0) × (encoded_for t r m o.output ≡ at.c)
  -- two different choices of message and flipped place, none included, never give one received word
  pub choices : (m m' : List ℕ) → Word (message_of t) m → Word (message_of t) m' → (i j : ℕ) → i ≤ places_of t → j ≤ places_of t → (o o' : Room t)
      → (encode_answer_for_c t r m o.output ≡ pos 0) × (encode_answer_for_c t r m' o'.output ≡ pos 0)
      × (flip i (encoded_for t r m o.output) ≡ flip j (encoded_for t r m' o'.output) → (m ≡ m') × (i ≡ j))
  -- where a codeword d is combined with w, correcting the result, x, gives d combined with the corrected word; q is the place
  pub carries : (d : List ℕ) → Codeword (moduli_for t r) d → (o₁ o₂ o₃ : Room t)
      → let x = combined_for t r d w o₁.output in
      (combine_answer_for_c t r d w o₁.output ≡ pos 0)
      × (combine_answer_for_c t r d at.c o₃.output ≡ pos 0)
      × (corrected_for t r x o₂.output ≡ combined_for t r d at.c o₃.output)
      × ((q : ℕ) × (correct_answer_for_c t r x o₂.output ≡ pos q) × MovedBy t r d at.p q)

-- "For every admitted t and r and every word of length n"
abbrev pub Demand3ForC : Type 0
Demand3ForC = (t r : ℕ) → Admitted t r → (w : List ℕ) → Word (places_of t) w → AtWordForC t r w

-- demand 2 of the third place: for two places of a code, the call answers the one place that makes a codeword of weight 3 with them
pub record ThirdForC (t r i j : ℕ) : Type 0 where
  pub k : ℕ
  pub answers : third_answer_for_c t r i j ≡ pos k
  pub makes : ThreeAt (moduli_for t r) i j k
  pub only : (l : ℕ) → ThreeAt (moduli_for t r) i j l → l ≡ k

abbrev pub ThirdsForC : Type 0
ThirdsForC = (t r : ℕ) → Admitted t r → (i j : ℕ) → 0 < i → i ≤ places_of t → 0 < j → j ≤ places_of t → i ≢ j → ThirdForC t r i j
