-- What is said of the calls for C beside demands 1 and 3: with an r that is given they are the coder's calls with a record just opened, and
-- with r = 0 they are those with r = t. Assumes nothing.
use Rattle.std.specs.Prelude.{◌≡◌, ◌≢◌, List, ℕ, ℤ}
use Rattle.coder_theory.specs.Calls.{opened, encode_answer, correct_answer, combine_answer, third_answer, encode_output, correct_output, combine_output}
use Rattle.coder_theory.specs.declared.Record.{Record}
use Rattle.coder_theory.specs.declared.Opened.{Opened}
use Rattle.z2z4_theory.specs.Calls.{signed, encode_answer_for_c, encode_output_for_c, correct_answer_for_c, correct_output_for_c, combine_answer_for_c, combine_output_for_c, third_answer_for_c}

-- v is what comes of an opening that answered o: x of the number where it is refused, else f of the record that it gives
pub record AsOpened {A : Type 0} (o : Opened) (v : A) (x : ℕ → A) (f : Record → A) : Type 0 where
  pub refused : o.refusal ≢ 0 → v ≡ x o.refusal
  pub given : o.refusal ≡ 0 → v ≡ f o.«record»

-- what is told to C of the coder's answers: a refusal, or the place in correction and third place
abbrev pub encode_told : List ℕ → List ℕ → Record → ℤ
encode_told m out rec = signed (encode_answer rec m out).refusal 0

abbrev pub correct_told : List ℕ → List ℕ → Record → ℤ
correct_told w out rec = signed (correct_answer rec w out).refusal (correct_answer rec w out).place

abbrev pub combine_told : List ℕ → List ℕ → List ℕ → Record → ℤ
combine_told x y out rec = signed (combine_answer rec x y out).refusal 0

abbrev pub third_told : ℕ → ℕ → Record → ℤ
third_told i j rec = signed (third_answer rec i j).refusal (third_answer rec i j).place

-- each call for C is the coder's call with a record just opened; where opening is refused, its number is told and nothing is written
pub record EncodesAsOpened (o : Opened) (t r : ℕ) (m out : List ℕ) : Type 0 where
  pub answers : AsOpened o (encode_answer_for_c t r m out) (λ n. signed n 0) (encode_told m out)
  pub writes : AsOpened o (encode_output_for_c t r m out) (λ n. out) (λ rec. encode_output rec m out)

pub record CorrectsAsOpened (o : Opened) (t r : ℕ) (w out : List ℕ) : Type 0 where
  pub answers : AsOpened o (correct_answer_for_c t r w out) (λ n. signed n 0) (correct_told w out)
  pub writes : AsOpened o (correct_output_for_c t r w out) (λ n. out) (λ rec. correct_output rec w out)

pub record CombinesAsOpened (o : Opened) (t r : ℕ) (x y out : List ℕ) : Type 0 where
  pub answers : AsOpened o (combine_answer_for_c t r x y out) (λ n. signed n 0) (combine_told x y out)
  pub writes : AsOpened o (combine_output_for_c t r x y out) (λ n. out) (λ rec. combine_output rec x y out)

pub record ThirdAsOpened (o : Opened) (t r i j : ℕ) : Type 0 where
  pub answers : AsOpened o (third_answer_for_c t r i j) (λ n. signed n 0) (third_told i j)

-- all four
pub record AsOpenedFor (o : Opened) (t r : ℕ) : Type 0 where
  pub encode : (m out : List ℕ) → EncodesAsOpened o t r m out
  pub correct : (w out : List ℕ) → CorrectsAsOpened o t r w out
  pub combine : (x y out : List ℕ) → CombinesAsOpened o t r x y out
  pub third : (i j : ℕ) → ThirdAsOpened o t r i j

-- where r is given, 0 being none, the record is that of opening with t and r; the theorem is `as-opened : AsOpenedCalls` (proofs/Opening)
abbrev pub AsOpenedCalls : Type 0
AsOpenedCalls = (t r : ℕ) → r ≢ 0 → AsOpenedFor (opened t r 0) t r

-- "r given as 0 means r = t": the calls with r are those with r'
pub record SameCalls (t r r' : ℕ) : Type 0 where
  pub encodes : (m out : List ℕ) → (encode_answer_for_c t r m out ≡ encode_answer_for_c t r' m out) × (encode_output_for_c t r m out ≡ encode_output_for_c t r' m out)
  pub corrects : (w out : List ℕ) → (correct_answer_for_c t r w out ≡ correct_answer_for_c t r' w out) × (correct_output_for_c t r w out ≡ correct_output_for_c t r' w out)
  pub combines : (x y out : List ℕ) → (combine_answer_for_c t r x y out ≡ combine_answer_for_c t r' x y out) × (combine_output_for_c t r x y out ≡ combine_output_for_c t r' x y out)
  pub thirds : (i j : ℕ) → third_answer_for_c t r i j ≡ third_answer_for_c t r' i j

-- the theorem is `zero-is-t` (proofs/Opening)
abbrev pub ZeroIsT : Type 0
ZeroIsT = (t : ℕ) → SameCalls t 0 t
