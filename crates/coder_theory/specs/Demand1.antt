-- Demand 1 of opening and of the calls on a record: "Unfit parameters, lengths, bytes, places and records are refused by the numbers and in the
-- order of document 01, for those reasons only, and a refused call alters no byte and no count." The theorem is `demand1 : Demand1`
-- (proofs/Demand1). It speaks in plain facts, not of the lists of reasons by which specs/Calls makes the answers. `HasNear`, a codeword within one
-- place, is in specs/Demand3Shortened. Assumes nothing.
use Rattle.std.specs.Prelude.{◌≡◌, ◌≢◌, ◌↔◌, ◌⊎◌, Bool, true, false, List, [], ◌∷◌, ◌++◌, ℕ, ◌+◌, ◌-◌, ◌<◌, ◌≤◌, eqb, length, get_or}
use Rattle.layout_theory.specs.Choice.{pick}
use Rattle.layout_theory.specs.Parameters.{longest, Admitted, smallest_r, places_of, message_of, moduli_for}
use Rattle.layout_theory.specs.Claims.{IsSmallest}
use Rattle.words_theory.specs.Words.{Bits, Word, flip}
use Rattle.shortened_theory.specs.Allowed.{Allowed}
use Rattle.shortened_theory.specs.Code.{ShortenedCodeword}
use Rattle.shortened_theory.specs.Claims.{ShortenedThreeAt}
use Rattle.coder_theory.specs.State.{Usable}
use Rattle.coder_theory.specs.Calls.{in_force, opened, element_answer, word_length, message_length, syndrome_answer, codeword_answer, shown, encode_answer, encode_output}
use Rattle.coder_theory.specs.Calls.{correct_answer, correct_output, ask_answer, commit_answer, commit_output, combine_answer, combine_output, invert_answer, invert_output, third_answer}
use Rattle.coder_theory.specs.Demand3Shortened.{HasNear}
use Rattle.coder_theory.specs.declared.Record.{Record}

-- ---- "refused by the numbers and in the order of document 01, for those reasons only"
-- A call's rows: in order, each number and where it applies. The number x that the call gives is a row's exactly where that row applies and
-- none before it does, and 0 exactly where none does; `past` is that the rows before do not
abbrev pub ByRows : ℕ → Type 0 → List (ℕ × Type 0) → Type 0
ByRows x past [] = (x ≡ 0) ↔ past
ByRows x past ((n, applies) ∷ rows) = ((x ≡ n) ↔ (past × applies)) × ByRows x (past × (applies → ⊥)) rows

abbrev pub numbers_of : List (ℕ × Type 0) → List ℕ
numbers_of [] = []
numbers_of ((n, applies) ∷ rows) = n ∷ numbers_of rows

-- "Order: 7, 1, 21, 22, 2, 3, 4, 5, 6, 23."; 10 "after 1 at opening and right after 22 elsewhere", 11 "after 6 .. and before 23", 24 "after 11
-- and before 23"
abbrev pub order : List ℕ
order = 7 ∷ 1 ∷ 21 ∷ 22 ∷ 10 ∷ 2 ∷ 3 ∷ 4 ∷ 5 ∷ 6 ∷ 11 ∷ 24 ∷ 23 ∷ []

-- whether the second numbers are some of the first, in the same order
abbrev pub in_order : List ℕ → List ℕ → Bool
in_order os [] = true
in_order [] (n ∷ ns) = false
in_order (o ∷ os) (n ∷ ns) = pick (eqb o n) (in_order os ns) (in_order os (n ∷ ns))

pub record Refused (x : ℕ) (rows : List (ℕ × Type 0)) : Type 0 where
  pub ordered : in_order order (numbers_of rows) ≡ true
  pub numbers : ByRows x (Unit {0}) rows

-- n − s and n − t − s
abbrev pub word_places : Record → ℕ
word_places rec = places_of rec.t - rec.s

abbrev pub message_places : Record → ℕ
message_places rec = message_of rec.t - rec.s

-- w is a codeword of the record's code; k makes a codeword of weight 3 with i and j
abbrev pub CodewordIn : Record → List ℕ → Type 0
CodewordIn rec w = ShortenedCodeword (moduli_for rec.t rec.r) rec.s w

abbrev pub ThreeIn : Record → ℕ → ℕ → ℕ → Type 0
ThreeIn rec i j k = ShortenedThreeAt (moduli_for rec.t rec.r) rec.s i j k

-- "22. The record has parameters that are not admitted, r = 0, or words that differ from the sum of the other counts as whole numbers."
abbrev pub Unfit : Record → Type 0
Unfit rec =
    (Admitted rec.t rec.r → ⊥) ⊎ (rec.r ≡ 0) ⊎ (rec.words ≢ rec.clean + rec.corrected_binary + rec.corrected_pairs)

-- "21. The record is closed.", which "has t = 0"; 22; and 10, "an s that is not allowed"
abbrev pub state_rows : Record → List (ℕ × Type 0)
state_rows rec = (21, rec.t ≡ 0) ∷ (22, Unfit rec) ∷ (10, (Allowed rec.t rec.r rec.s → ⊥)) ∷ []

-- "3. An output buffer shorter than needed."
abbrev pub Short : Record → List ℕ → Type 0
Short rec out = length out < word_places rec

-- "4. A byte above 1"
abbrev pub NotBits : List ℕ → Type 0
NotBits w = Bits w → ⊥

-- "5. A place outside 1 to n.", n − s in a shortened code
abbrev pub Outside : Record → ℕ → Type 0
Outside rec p = (p ≡ 0) ⊎ (word_places rec < p)

-- "2. A read word or message not of its exact length, an empty one too.": of a word w
abbrev pub read_rows : Record → List ℕ → List (ℕ × Type 0)
read_rows rec w = state_rows rec ++ ((2, length w ≢ word_places rec) ∷ (4, NotBits w) ∷ [])

-- 11, "a correction .. that would fall in a left-out place": no codeword is within one place
abbrev pub NoneNear : Record → List ℕ → Type 0
NoneNear rec w = HasNear rec.t rec.r rec.s w → ⊥

-- the same of w, which has to have k bytes, and an output
abbrev pub write_rows : Record → ℕ → List ℕ → List ℕ → List (ℕ × Type 0)
write_rows rec k w out = state_rows rec ++ ((2, length w ≢ k) ∷ (3, Short rec out) ∷ (4, NotBits w) ∷ [])

pub record RefusedIn (rec : Record) : Type 0 where
  pub layout : (p : ℕ) → Refused (element_answer rec p).refusal (state_rows rec ++ ((5, Outside rec p) ∷ []))
  pub syndrome : (w : List ℕ) → Refused (syndrome_answer rec w).refusal (read_rows rec w)
  pub codeword : (w : List ℕ) → Refused (codeword_answer rec w).refusal (read_rows rec w)
  pub encode : (m out : List ℕ) → Refused (encode_answer rec m out).refusal (write_rows rec (message_places rec) m out)
  -- "23. Words is at 4,294,967,295"
  pub correct : (w out : List ℕ) → Refused (correct_answer rec w out).refusal
      (write_rows rec (word_places rec) w out ++ ((11, NoneNear rec w) ∷ (23, rec.words ≡ 4294967295) ∷ []))
  -- "Asking is never refused with 23"; 24, "a commit whose place .. is not the one that asking would give for the word now lent"
  pub ask : (w : List ℕ) → Refused (ask_answer rec w).refusal (read_rows rec w ++ ((11, NoneNear rec w) ∷ []))
  pub commit : (p : ℕ) (w : List ℕ) → Refused (commit_answer rec p w).refusal
      (read_rows rec w ++ ((11, NoneNear rec w) ∷ (24, p ≢ (ask_answer rec w).place) ∷ (23, rec.words ≡ 4294967295) ∷ []))
  pub combine : (x y out : List ℕ) → Refused (combine_answer rec x y out).refusal
      (state_rows rec ++ ((2, (length x ≢ word_places rec) ⊎ (length y ≢ word_places rec)) ∷ (3, Short rec out) ∷ (4, NotBits x ⊎ NotBits y) ∷ []))
  pub invert : (w out : List ℕ) → Refused (invert_answer rec w out).refusal (write_rows rec (word_places rec) w out)
  -- "6. Two equal places."; 11, a "third place that would fall in a left-out place": no place makes a codeword of weight 3 with the two
  pub third : (i j : ℕ) → Refused (third_answer rec i j).refusal
      (state_rows rec ++ ((5, Outside rec i ⊎ Outside rec j) ∷ (6, i ≡ j) ∷ (11, ((k : ℕ) → ThreeIn rec i j k → ⊥)) ∷ []))

-- ---- accepted exactly where the record is usable, each word has its length and bits only, the output has room, and what the call asks besides
-- p is a place, w a word and m a message of the record's code, and the output has room for a word
abbrev pub IsPlace : Record → ℕ → Type 0
IsPlace rec p = (0 < p) × (p ≤ word_places rec)

abbrev pub IsWord : Record → List ℕ → Type 0
IsWord rec w = Word (word_places rec) w

abbrev pub IsMessage : Record → List ℕ → Type 0
IsMessage rec m = Word (message_places rec) m

abbrev pub HasRoom : Record → List ℕ → Type 0
HasRoom rec out = word_places rec ≤ length out

pub record AcceptsIn (rec : Record) : Type 0 where
  pub layout : (p : ℕ) → ((element_answer rec p).refusal ≡ 0) ↔ (Usable rec × IsPlace rec p)
  pub syndrome : (w : List ℕ) → ((syndrome_answer rec w).refusal ≡ 0) ↔ (Usable rec × IsWord rec w)
  pub codeword : (w : List ℕ) → ((codeword_answer rec w).refusal ≡ 0) ↔ (Usable rec × IsWord rec w)
  pub encode : (m out : List ℕ) → ((encode_answer rec m out).refusal ≡ 0) ↔ (Usable rec × IsMessage rec m × HasRoom rec out)
  -- a codeword is within one place, and words is not full
  pub correct : (w out : List ℕ) → ((correct_answer rec w out).refusal ≡ 0)
      ↔ (Usable rec × IsWord rec w × HasRoom rec out × HasNear rec.t rec.r rec.s w × (rec.words ≢ 4294967295))
  pub ask : (w : List ℕ) → ((ask_answer rec w).refusal ≡ 0) ↔ (Usable rec × IsWord rec w × HasNear rec.t rec.r rec.s w)
  -- the claimed place is 0 or one of the word's, and flipped there the word is a codeword
  pub commit : (p : ℕ) (w : List ℕ) → ((commit_answer rec p w).refusal ≡ 0)
      ↔ (Usable rec × IsWord rec w × (p ≤ word_places rec) × CodewordIn rec (flip p w) × (rec.words ≢ 4294967295))
  pub combine : (x y out : List ℕ) → ((combine_answer rec x y out).refusal ≡ 0) ↔ (Usable rec × IsWord rec x × IsWord rec y × HasRoom rec out)
  pub invert : (w out : List ℕ) → ((invert_answer rec w out).refusal ≡ 0) ↔ (Usable rec × IsWord rec w × HasRoom rec out)
  -- the places are different, and some place makes a codeword of weight 3 with them
  pub third : (i j : ℕ) → ((third_answer rec i j).refusal ≡ 0)
      ↔ (Usable rec × IsPlace rec i × IsPlace rec j × (i ≢ j) × ((k : ℕ) × ThreeIn rec i j k))

-- ---- "Each refusal gives its number, place 0 except for 4, the record as handed in, and every buffer untouched."
-- "the lowest such place": p is a place of w, its byte is above 1, and no earlier one is
pub record Lowest (w : List ℕ) (p : ℕ) : Type 0 where
  pub least : 1 ≤ p
  pub most : p ≤ length w
  pub above : 1 < get_or w (p - 1) 0
  pub before : (q : ℕ) → 1 ≤ q → q < p → get_or w (q - 1) 0 ≤ 1

-- "place 0 except for 4": what the place p that a call tells has to do with its refusal x and the word w that it read
pub record TellsPlace (x p : ℕ) (w : List ℕ) : Type 0 where
  pub none : x ≢ 4 → p ≡ 0
  pub lowest : x ≡ 4 → Lowest w p

-- the same of two words: "the lowest such place is given with it, first word before second", counted within its own word
pub record TellsPlaceOfTwo (x p : ℕ) (v w : List ℕ) : Type 0 where
  pub none : x ≢ 4 → p ≡ 0
  pub lowest : x ≡ 4 → Lowest v p ⊎ (Bits v × Lowest w p)

-- what a call gives where it is refused. The place is said of accepted calls too, which tell 0; of correction, in one step or two, and third
-- place only where they are refused
pub record RefusalGives (rec : Record) : Type 0 where
  -- "A refused syndrome or layout call gives element number 0, and a refused codeword test says no."
  pub layout : (p : ℕ) → ((element_answer rec p).place ≡ 0) × ((element_answer rec p).refusal ≢ 0 → (element_answer rec p).element ≡ 0)
  pub syndrome : (w : List ℕ) → TellsPlace (syndrome_answer rec w).refusal (syndrome_answer rec w).place w
      × ((syndrome_answer rec w).refusal ≢ 0 → (syndrome_answer rec w).element ≡ 0)
  pub codeword : (w : List ℕ) → TellsPlace (codeword_answer rec w).refusal (codeword_answer rec w).place w
      × ((codeword_answer rec w).refusal ≢ 0 → (codeword_answer rec w).yes ≡ false)
  pub encode : (m out : List ℕ) → TellsPlace (encode_answer rec m out).refusal (encode_answer rec m out).place m
      × ((encode_answer rec m out).refusal ≢ 0 → encode_output rec m out ≡ out)
  pub correct : (w out : List ℕ) → (correct_answer rec w out).refusal ≢ 0
      → TellsPlace (correct_answer rec w out).refusal (correct_answer rec w out).place w
      × ((correct_answer rec w out).«record» ≡ rec) × (correct_output rec w out ≡ out)
  pub ask : (w : List ℕ) → (ask_answer rec w).refusal ≢ 0 → TellsPlace (ask_answer rec w).refusal (ask_answer rec w).place w
  pub commit : (p : ℕ) (w : List ℕ) → (commit_answer rec p w).refusal ≢ 0
      → TellsPlace (commit_answer rec p w).refusal (commit_answer rec p w).place w
      × ((commit_answer rec p w).«record» ≡ rec) × (commit_output rec p w ≡ w)
  pub combine : (x y out : List ℕ) → TellsPlaceOfTwo (combine_answer rec x y out).refusal (combine_answer rec x y out).place x y
      × ((combine_answer rec x y out).refusal ≢ 0 → combine_output rec x y out ≡ out)
  pub invert : (w out : List ℕ) → TellsPlace (invert_answer rec w out).refusal (invert_answer rec w out).place w
      × ((invert_answer rec w out).refusal ≢ 0 → invert_output rec w out ≡ out)
  pub third : (i j : ℕ) → (third_answer rec i j).refusal ≢ 0 → (third_answer rec i j).place ≡ 0
  -- calls without a number: a record that is not usable has no places
  pub lengths : (Usable rec → ⊥) → (word_length rec ≡ 0) × (message_length rec ≡ 0)
  -- "It shows an empty part exactly when the record or word would be refused or the word is no codeword."
  pub reading : (w : List ℕ) → (shown rec w ≡ []) ↔ (Usable rec × CodewordIn rec w → ⊥)

-- ---- opening: "1. Parameters not admitted", and 10 after it, both of the r in force
pub record OpensWith (t r s : ℕ) : Type 0 where
  -- "0 means the smallest admitted r, half of t rounded up" (request C-13)
  pub default : r ≡ 0 → in_force t r ≡ smallest_r t
  pub given : r ≢ 0 → in_force t r ≡ r
  pub refused : Refused (opened t r s).refusal ((1, (Admitted t (in_force t r) → ⊥)) ∷ (10, (Allowed t (in_force t r) s → ⊥)) ∷ [])
  pub accepts : ((opened t r s).refusal ≡ 0) ↔ (Admitted t (in_force t r) × Allowed t (in_force t r) s)
  -- "Opening gives t, r (never 0) and four counts at 0"
  pub gives : (opened t r s).refusal ≡ 0
      → (opened t r s).«record» ≡ record { t = t; r = in_force t r; s = s; words = 0; clean = 0; corrected_binary = 0; corrected_pairs = 0 }
  -- "A refused opening gives the closed record with every field 0."
  pub closed : (opened t r s).refusal ≢ 0
      → (opened t r s).«record» ≡ record { t = 0; r = 0; s = 0; words = 0; clean = 0; corrected_binary = 0; corrected_pairs = 0 }

-- opening with r = 0
pub record OpensWithZero (t s : ℕ) : Type 0 where
  -- it is opening with the smallest r that is admitted with t; every t from 2 to the largest in use has one (`defaults`)
  pub smallest : (k : ℕ) → IsSmallest t k → opened t 0 s ≡ opened t k s
  -- it is refused with 1 exactly where t is not admitted, and with s = 0 for no other reason
  pub refused : ((opened t 0 s).refusal ≡ 1) ↔ ((2 ≤ t) × (t ≤ longest) → ⊥)
  pub accepts : ((opened t 0 0).refusal ≡ 0) ↔ ((2 ≤ t) × (t ≤ longest))

pub record Demand1 : Type 0 where
  pub opening : (t r s : ℕ) → OpensWith t r s
  pub opening_zero : (t s : ℕ) → OpensWithZero t s
  pub refused : (rec : Record) → RefusedIn rec
  pub accepts : (rec : Record) → AcceptsIn rec
  pub gives : (rec : Record) → RefusalGives rec
  -- "Words at 4,294,967,294 is accepted once more."
  pub once_more : (rec : Record) (w out : List ℕ) → Usable rec → rec.words ≡ 4294967294 → IsWord rec w → HasRoom rec out
      → HasNear rec.t rec.r rec.s w → ((correct_answer rec w out).refusal ≡ 0) × ((correct_answer rec w out).«record».words ≡ 4294967295)
