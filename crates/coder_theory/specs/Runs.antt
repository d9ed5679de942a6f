-- Demand 2: "the counts in a record that is handed on unaltered from call to call equal what the accepted corrections since its opening came
-- to"; by request C-20 a commit "counts among the accepted corrections". A run of calls, what its corrections came to, and the counts. The
-- theorems are `counts : Counting`, `meant : Meaning` and `often : Often` (proofs/Counting): every opening that is accepted, and every list of
-- calls. Assumes nothing.
use Rattle.std.specs.Prelude.{◌≡◌, ◌↔◌, ◌⊎◌, Bool, true, ◌&&◌, List, [], ◌∷◌, ℕ, zero, suc, ◌+◌, ◌-◌, ◌<◌, ◌≤◌, eqb}
use Rattle.layout_theory.specs.Choice.{one_if}
use Rattle.layout_theory.specs.Parameters.{places_of, message_of, binary_of, moduli_for}
use Rattle.words_theory.specs.Words.{Word, flip}
use Rattle.shortened_theory.specs.Code.{ShortenedCodeword, is_shortened_binary, is_shortened_paired}
use Rattle.coder_theory.specs.State.{Usable, full_count}
use Rattle.coder_theory.specs.Calls.{in_force, opened, correct_answer, commit_answer}
use Rattle.coder_theory.specs.Demand1.{CodewordIn}
use Rattle.coder_theory.specs.declared.Record.{Record}
use Rattle.coder_theory.specs.declared.Corrected.{Corrected}

-- the public calls that return no record, or another, with any arguments beside the record; an output is given by what it holds before the call
pub data Other : Type 0 where
  opening : ℕ → ℕ → ℕ → Other
  third_place : ℕ → ℕ → Other
  layout_at : ℕ → Other
  length_of_word length_of_message : Other
  syndrome_of testing reading asking : List ℕ → Other
  encoding inverting : List ℕ → List ℕ → Other
  combining : List ℕ → List ℕ → List ℕ → Other

-- the calls that correct, and count: correction of a word to an output, and a commit of a claimed place in a word of the caller's
pub data Correction : Type 0 where
  correcting : List ℕ → List ℕ → Correction
  committing : ℕ → List ℕ → Correction

-- the word that is read, and the answer
abbrev pub read_by : Correction → List ℕ
read_by (correcting w out) = w
read_by (committing p w) = w

abbrev pub answer_to : Record → Correction → Corrected
answer_to rec (correcting w out) = correct_answer rec w out
answer_to rec (committing p w) = commit_answer rec p w

pub data Call : Type 0 where
  correction : Correction → Call
  other : Other → Call

-- "Other calls leave the record alone.": by their signatures they take it by value and return none (another opening returns another record)
abbrev pub after : Record → Call → Record
after rec (correction x) = (answer_to rec x).«record»
after rec (other x) = rec

-- the record handed on from call to call
unfoldable pub run : Record → List Call → Record
run rec [] = rec
run rec (x ∷ xs) = run (after rec x) xs

-- what a correction or a commit came to: the word that it read, and the number and the place that it answered
pub record Outcome : Type 0 where
  pub word : List ℕ
  pub refusal : ℕ
  pub place : ℕ

abbrev pub outcome : Record → Correction → Outcome
outcome rec x = record { word = read_by x; refusal = (answer_to rec x).refusal; place = (answer_to rec x).place }

unfoldable pub outcomes : Record → List Call → List Outcome
outcomes rec [] = []
outcomes rec (correction x ∷ xs) = outcome rec x ∷ outcomes (after rec (correction x)) xs
outcomes rec (other x ∷ xs) = outcomes rec xs

-- how many of them were accepted and told a place of the kind
unfoldable pub how_many : (ℕ → Bool) → List Outcome → ℕ
how_many kind [] = 0
how_many kind (x ∷ xs) = one_if (eqb x.refusal 0 && kind x.place) + how_many kind xs

-- the counts of a record are those of the corrections and commits that were accepted: all; those of place 0; of a binary place; of a place of a pair
pub record Counts (t r s : ℕ) (rec : Record) (xs : List Outcome) : Type 0 where
  pub same_t : rec.t ≡ t
  pub same_r : rec.r ≡ r
  pub same_s : rec.s ≡ s
  pub words : rec.words ≡ how_many (λ p. true) xs
  pub clean : rec.clean ≡ how_many (λ p. eqb p 0) xs
  pub binary : rec.corrected_binary ≡ how_many (is_shortened_binary (moduli_for t r) s) xs
  pub pairs : rec.corrected_pairs ≡ how_many (is_shortened_paired (moduli_for t r) s) xs
  -- "Counts stop at 4,294,967,295": then corrections are refused, and not counted
  pub most : rec.words ≤ full_count
  -- "Each accepted correction adds one to words and to one of the other three": so the record stays usable
  pub usable : Usable rec

abbrev pub Counting : Type 0
Counting = (t r s : ℕ) → (opened t r s).refusal ≡ 0 → (xs : List Call)
    → Counts t (in_force t r) s (run (opened t r s).«record» xs) (outcomes (opened t r s).«record» xs)

-- what the place of an accepted correction or commit says of the word: place 0 that it was a codeword, a binary place or one of a pair that it is a codeword
-- with this place flipped. There is no other kind, and the binary places are those that were of part 1, the first k − a, and of part 3, a after the
-- message, before the first s were left out
pub record Meant (t r s : ℕ) (x : Outcome) : Type 0 where
  pub is_word : Word (places_of t - s) x.word
  pub clean : (x.place ≡ 0) ↔ ShortenedCodeword (moduli_for t r) s x.word
  pub flipped : ShortenedCodeword (moduli_for t r) s (flip x.place x.word)
  pub kinds : (x.place ≡ 0) ⊎ (is_shortened_binary (moduli_for t r) s x.place ≡ true) ⊎ (is_shortened_paired (moduli_for t r) s x.place ≡ true)
  pub binary : (is_shortened_binary (moduli_for t r) s x.place ≡ true)
      ↔ (((1 ≤ x.place) × (x.place + s ≤ places_of r - binary_of t r)) ⊎ ((message_of t < x.place + s) × (x.place + s ≤ message_of t + binary_of t r)))

abbrev pub AllMeant : ℕ → ℕ → ℕ → List Outcome → Type 0
AllMeant t r s [] = Unit {0}
AllMeant t r s (x ∷ xs) = (x.refusal ≡ 0 → Meant t r s x) × AllMeant t r s xs

abbrev pub Meaning : Type 0
Meaning = (t r s : ℕ) → (opened t r s).refusal ≡ 0 → (xs : List Call) → AllMeant t (in_force t r) s (outcomes (opened t r s).«record» xs)

-- ---- "A committed 0 leaves the word and counts as clean, as often as it is committed.": k times, as long as words has room for them
abbrev pub repeated : ℕ → Call → List Call
repeated zero x = []
repeated (suc k) x = x ∷ repeated k x

abbrev pub more_clean : ℕ → Record → Record
more_clean k rec =
    record {
      t = rec.t;
      r = rec.r;
      s = rec.s;
      words = rec.words + k;
      clean = rec.clean + k;
      corrected_binary = rec.corrected_binary;
      corrected_pairs = rec.corrected_pairs;
    }

abbrev pub Often : Type 0
Often = (rec : Record) (w : List ℕ) → Usable rec → CodewordIn rec w → (k : ℕ) → rec.words + k ≤ full_count
    → run rec (repeated k (correction (committing 0 w))) ≡ more_clean k rec
