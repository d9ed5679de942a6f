-- Demand 2 of the calls on a usable record: "Layout, syndrome, encoding, correction, group law, inverse and triples are those that document 01
-- takes from Borges and Rifà. Each message gives the one codeword that begins with it, reading that codeword shows the message". The theorem is
-- `demand2 : Demand2` (proofs/Demand2); what correction gives is demand 3, and the counts are specs/Runs. Assumes nothing.
use Rattle.std.specs.Prelude.{◌≡◌, ◌≢◌, ◌↔◌, List, ◌++◌, map, true, ℕ, ◌+◌, ◌<◌, ◌≤◌, eqb, length, take, drop}
use Rattle.group_theory.specs.Group.{Modulus, sum, number, element}
use Rattle.layout_theory.specs.Choice.{one_if}
use Rattle.layout_theory.specs.Parameters.{places_of, moduli_for}
use Rattle.layout_theory.specs.Layout.{from, slots, places}
use Rattle.words_theory.specs.Words.{zero_word, flip}
use Rattle.words_theory.specs.Words as words
use Rattle.shortened_theory.specs.Code.{is_shortened_binary, is_shortened_paired}
use Rattle.coder_theory.specs.State.{Usable, RecordOf}
use Rattle.coder_theory.specs.Calls.{word_length, message_length, element_answer, syndrome_answer, codeword_answer, shown}
use Rattle.coder_theory.specs.Calls.{encode_answer, encode_output, correct_answer, correct_output, ask_answer, commit_answer, commit_output, combine_answer, combine_output, invert_answer, invert_output, third_answer}
use Rattle.coder_theory.specs.Demand1.{CodewordIn, ThreeIn, word_places, message_places, IsPlace, IsWord, IsMessage, HasRoom}
use Rattle.coder_theory.specs.declared.Record.{Record}
use Rattle.coder_theory.specs.declared.Corrected.{Corrected}

-- the moduli of the record's code; and an output's first n − s bytes, to which a call writes a word
abbrev pub moduli_of_code : Record → List Modulus
moduli_of_code rec = moduli_for rec.t rec.r

abbrev pub first_bytes : Record → List ℕ → List ℕ
first_bytes rec out = take (word_places rec) out

-- a word with the s places in front that are fixed at 0
abbrev pub filled_in : Record → List ℕ → List ℕ
filled_in rec w = zero_word rec.s ++ w

-- ---- layout and syndrome
-- "the layout tells the element number of one place a call": the numbers told of the places, in their order, are those of the layout's four
-- parts, −z before z in each pair, without the first s
abbrev pub TellsLayout : Record → Type 0
TellsLayout rec =
    map (λ p. (element_answer rec p).element) (from 1 (word_places rec))
    ≡ drop rec.s (map (number (moduli_of_code rec)) (places (moduli_of_code rec) (slots (moduli_of_code rec))))

-- with s = 0 each number from 1 to n is told of exactly one place
abbrev pub TellsOnce : Record → Type 0
TellsOnce rec = (x : ℕ) → 0 < x → x ≤ places_of rec.t
    → (p : ℕ) × (IsPlace rec p × ((element_answer rec p).element ≡ x)) × ((q : ℕ) → (element_answer rec q).element ≡ x → q ≡ p)

-- "The syndrome of a word is the sum of its binary places times their elements and of each pair's digit times its z. It is told as an element
-- number": that of a single 1 is the number that the layout call tells of its place, that of a combination the sum, and 0 is that of codewords
pub record TellsSyndrome (rec : Record) : Type 0 where
  pub ones : (p : ℕ) → IsPlace rec p → (syndrome_answer rec (flip p (zero_word (word_places rec)))).element ≡ (element_answer rec p).element
  pub sums : (x y out : List ℕ) → IsWord rec x → IsWord rec y → HasRoom rec out
      → (syndrome_answer rec (first_bytes rec (combine_output rec x y out))).element
      ≡ number (moduli_of_code rec) (sum (moduli_of_code rec) (element (moduli_of_code rec) (syndrome_answer rec x).element) (element (moduli_of_code rec) (syndrome_answer rec y).element))
  pub codewords : (w : List ℕ) → IsWord rec w → ((syndrome_answer rec w).element ≡ 0) ↔ CodewordIn rec w

-- ---- encoding and reading: "Each message gives the one codeword that begins with it, reading that codeword shows the message", with any
-- usable record of the same t, r and s
pub record Encodes (rec : Record) (m out : List ℕ) : Type 0 where
  pub accepted : encode_answer rec m out ≡ record { refusal = 0; place = 0 }
  pub codeword : CodewordIn rec (first_bytes rec (encode_output rec m out))
  pub begins : take (message_places rec) (encode_output rec m out) ≡ m
  pub only : (c : List ℕ) → CodewordIn rec c → take (message_places rec) c ≡ m → c ≡ first_bytes rec (encode_output rec m out)
  pub further : drop (word_places rec) (encode_output rec m out) ≡ drop (word_places rec) out
  pub shows : (other : Record) → RecordOf rec.t rec.r rec.s other → shown other (first_bytes rec (encode_output rec m out)) ≡ m

-- ---- "Combining adds binary places modulo 2 and pairs modulo 4." The same in either order, with any record of the code; a codeword where
-- both are
pub record Combines (rec : Record) (x y out : List ℕ) : Type 0 where
  pub accepted : combine_answer rec x y out ≡ record { refusal = 0; place = 0 }
  pub word : IsWord rec (first_bytes rec (combine_output rec x y out))
  pub adds : filled_in rec (first_bytes rec (combine_output rec x y out)) ≡ words.combine (slots (moduli_of_code rec)) (filled_in rec x) (filled_in rec y)
  pub either : (other : Record) → RecordOf rec.t rec.r rec.s other → (o : List ℕ) → HasRoom rec o
      → first_bytes rec (combine_output other y x o) ≡ first_bytes rec (combine_output rec x y out)
  pub codeword : CodewordIn rec x → CodewordIn rec y → CodewordIn rec (first_bytes rec (combine_output rec x y out))
  pub further : drop (word_places rec) (combine_output rec x y out) ≡ drop (word_places rec) out

-- ---- "The inverse swaps the two places of each pair.": the word that makes the zero word when w is combined with it, with any record of the
-- code
pub record Inverts (rec : Record) (w out : List ℕ) : Type 0 where
  pub accepted : invert_answer rec w out ≡ record { refusal = 0; place = 0 }
  pub word : IsWord rec (first_bytes rec (invert_output rec w out))
  pub swaps : filled_in rec (first_bytes rec (invert_output rec w out)) ≡ words.inverse (slots (moduli_of_code rec)) (filled_in rec w)
  pub makes_zero : (other : Record) → RecordOf rec.t rec.r rec.s other → (o : List ℕ) → HasRoom rec o
      → first_bytes rec (combine_output other w (first_bytes rec (invert_output rec w out)) o) ≡ zero_word (word_places rec)
  pub further : drop (word_places rec) (invert_output rec w out) ≡ drop (word_places rec) out

-- ---- "Third place: for places i and j, the one place that makes a codeword of weight 3 with them.": the call tells k exactly where k does, and
-- by request C-17 is refused with 11 exactly where no place does; with s = 0 there is one
pub record Thirds (rec : Record) (i j : ℕ) : Type 0 where
  pub some : (k : ℕ) → (third_answer rec i j ≡ record { refusal = 0; place = k }) ↔ ThreeIn rec i j k
  pub none : ((third_answer rec i j).refusal ≡ 11) ↔ ((k : ℕ) → ThreeIn rec i j k → ⊥)
  pub one : rec.s ≡ 0 → ThreeIn rec i j (third_answer rec i j).place

-- ---- in every usable record "Each accepted correction adds one to words and to one of the other three", by the place that it tells: x is what a
-- correction or a commit answers
pub record AddsOne (rec : Record) (x : Corrected) : Type 0 where
  pub adds : x.refusal ≡ 0
      → x.«record»
      ≡ record {
        t = rec.t;
        r = rec.r;
        s = rec.s;
        words = rec.words + 1;
        clean = rec.clean + one_if (eqb x.place 0);
        corrected_binary = rec.corrected_binary + one_if (is_shortened_binary (moduli_of_code rec) rec.s x.place);
        corrected_pairs = rec.corrected_pairs + one_if (is_shortened_paired (moduli_of_code rec) rec.s x.place);
      }
  pub one : x.refusal ≡ 0
      → one_if (eqb x.place 0) + one_if (is_shortened_binary (moduli_of_code rec) rec.s x.place) + one_if (is_shortened_paired (moduli_of_code rec) rec.s x.place) ≡ 1

-- correction: the place that it tells and the n − s bytes that it writes are demand 3's. "A longer one keeps its further bytes"
pub record CorrectsIn (rec : Record) (w out : List ℕ) : Type 0 where
  pub further : drop (word_places rec) (correct_output rec w out) ≡ drop (word_places rec) out
  pub counts : AddsOne rec (correct_answer rec w out)

-- ---- request C-20: "asking gives the place and counts nothing": it is accepted and tells p exactly where p is 0 or one of the word's places and
-- flipped there the word is a codeword; and it answers alike, refused or not, with any record of the code, whatever that has counted
pub record Asks (rec : Record) (w : List ℕ) : Type 0 where
  pub some : IsWord rec w → (p : ℕ) → (ask_answer rec w ≡ record { refusal = 0; place = p }) ↔ ((p ≤ word_places rec) × CodewordIn rec (flip p w))
  pub either : (other : Record) → RecordOf rec.t rec.r rec.s other → ask_answer other w ≡ ask_answer rec w

-- "committing takes any claimed place and a lent word, flips that place and counts. A committed 0 leaves the word and counts as clean, as often as
-- it is committed. An accepted commit gives its place and counts among the accepted corrections."
pub record Commits (rec : Record) (p : ℕ) (w : List ℕ) : Type 0 where
  pub flips : (commit_answer rec p w).refusal ≡ 0 → commit_output rec p w ≡ flip p w
  pub place : (commit_answer rec p w).refusal ≡ 0 → (commit_answer rec p w).place ≡ p
  pub counts : AddsOne rec (commit_answer rec p w)
  -- the word is then a codeword: asking gives 0, and the same claim again is refused with 24, unless it was 0, with any record of the code
  pub again : (commit_answer rec p w).refusal ≡ 0 → (other : Record) → RecordOf rec.t rec.r rec.s other
      → (ask_answer other (commit_output rec p w) ≡ record { refusal = 0; place = 0 })
      × (p ≢ 0 → commit_answer other p (commit_output rec p w) ≡ record { refusal = 24; place = 0; «record» = other })

-- ---- all of it
pub record Demand2In (rec : Record) : Type 0 where
  pub layout : TellsLayout rec
  pub once : rec.s ≡ 0 → TellsOnce rec
  pub syndrome : TellsSyndrome rec
  -- "A codeword is a word of syndrome zero.": the codeword test says yes exactly of these, and reading shows their first n − t − s bytes
  pub test : (w : List ℕ) → ((codeword_answer rec w).yes ≡ true) ↔ CodewordIn rec w
  pub reads : (w : List ℕ) → CodewordIn rec w → shown rec w ≡ take (message_places rec) w
  pub encodes : (m out : List ℕ) → IsMessage rec m → HasRoom rec out → Encodes rec m out
  pub corrects : (w out : List ℕ) → CorrectsIn rec w out
  pub asks : (w : List ℕ) → Asks rec w
  pub commits : (p : ℕ) (w : List ℕ) → Commits rec p w
  pub combines : (x y out : List ℕ) → IsWord rec x → IsWord rec y → HasRoom rec out → Combines rec x y out
  pub inverts : (w out : List ℕ) → IsWord rec w → HasRoom rec out → Inverts rec w out
  pub thirds : (i j : ℕ) → IsPlace rec i → IsPlace rec j → i ≢ j → Thirds rec i j

abbrev pub Demand2 : Type 0
Demand2 = (rec : Record) → Usable rec → Demand2In rec

-- ---- "a correction or third place that would fall in a left-out place" (request C-17): of its refusal x and the place p that it tells, beside
-- the place q that is told with s = 0. 11 is where q is one of the first s, and else p is q, renumbered
pub record Falls (s x p q : ℕ) : Type 0 where
  pub left : (x ≡ 11) ↔ ((0 < q) × (q ≤ s))
  pub none : x ≡ 0 → p ≡ 0 → q ≡ 0
  pub kept : x ≡ 0 → 0 < p → q ≡ p + s

-- ---- request C-17: "the first s message places are fixed at 0 and left out, and places are renumbered from 1. Lengths become n − s and
-- n − t − s": what the calls on a usable record tell and write, beside what they do with a record `all` of the same t and r whose s is 0
pub record Shortens (rec all : Record) : Type 0 where
  pub places : word_length rec ≡ word_places rec
  pub message : message_length rec ≡ message_places rec
  pub elements : (p : ℕ) → IsPlace rec p → element_answer rec p ≡ element_answer all (p + rec.s)
  pub syndromes : (w : List ℕ) → IsWord rec w → syndrome_answer rec w ≡ syndrome_answer all (filled_in rec w)
  pub tests : (w : List ℕ) → IsWord rec w → codeword_answer rec w ≡ codeword_answer all (filled_in rec w)
  -- what is written into the first bytes of an output; the outputs are long enough, whatever they hold
  pub encodes : (m out v : List ℕ) → IsMessage rec m → HasRoom rec out → places_of rec.t ≤ length v
      → filled_in rec (first_bytes rec (encode_output rec m out)) ≡ take (places_of rec.t) (encode_output all (filled_in rec m) v)
  pub combines : (x y out v : List ℕ) → IsWord rec x → IsWord rec y → HasRoom rec out → places_of rec.t ≤ length v
      → filled_in rec (first_bytes rec (combine_output rec x y out)) ≡ take (places_of rec.t) (combine_output all (filled_in rec x) (filled_in rec y) v)
  pub inverts : (w out v : List ℕ) → IsWord rec w → HasRoom rec out → places_of rec.t ≤ length v
      → filled_in rec (first_bytes rec (invert_output rec w out)) ≡ take (places_of rec.t) (invert_output all (filled_in rec w) v)
  pub corrects : (w out v : List ℕ) → IsWord rec w → HasRoom rec out → places_of rec.t ≤ length v → all.words ≢ 4294967295
      → Falls rec.s (correct_answer rec w out).refusal (correct_answer rec w out).place (correct_answer all (filled_in rec w) v).place
  pub asks : (w : List ℕ) → IsWord rec w
      → Falls rec.s (ask_answer rec w).refusal (ask_answer rec w).place (ask_answer all (filled_in rec w)).place
  pub thirds : (i j : ℕ) → IsPlace rec i → IsPlace rec j → i ≢ j
      → Falls rec.s (third_answer rec i j).refusal (third_answer rec i j).place (third_answer all (i + rec.s) (j + rec.s)).place

abbrev pub Shortening : Type 0
Shortening = (rec all : Record) → Usable rec → RecordOf rec.t rec.r 0 all → Shortens rec all
