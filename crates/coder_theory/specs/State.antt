-- Document 01, "The record": the struct `Record` of src/lib.rt, whose seven fields are numbers. Lengths and the layout are those of a record, so
-- that callers need not know what fixes them. Assumes nothing.
use Rattle.std.specs.Prelude.{◌≡◌, Bool, ◌&&◌, ◌||◌, not, List, ℕ, ◌+◌, ◌-◌, eqb}
use Rattle.group_theory.specs.Group.{Modulus, number}
use Rattle.layout_theory.specs.Choice.{one_if}
use Rattle.layout_theory.specs.Parameters.{Admitted, admits, places_of, message_of, moduli_for}
use Rattle.shortened_theory.specs.Allowed.{Allowed, allows}
use Rattle.shortened_theory.specs.Code.{shortened_element_at, shortened_syndrome, is_shortened_codeword, shortened_encode, shortened_corrected, shortened_corrected_place, corrected_old_place, LeftOut, shortened_inverse, shortened_combine, shortened_third, third_old_place, is_shortened_binary, is_shortened_paired}
use Rattle.coder_theory.specs.declared.Record.{Record}

-- "Opening gives t, r (never 0) and four counts at 0: words, clean, mended binary, mended in pairs" (document 01): what it calls mended is
-- here corrected. "Opening takes a number s and the record keeps it" (request C-17)
abbrev pub fresh : ℕ → ℕ → ℕ → Record
fresh t r s = record { t = t; r = r; s = s; words = 0; clean = 0; corrected_binary = 0; corrected_pairs = 0 }

-- "The closed record has t = 0."
abbrev pub is_closed : Record → Bool
is_closed rec = eqb rec.t 0

-- "The record has parameters that are not admitted, r = 0, or words that differ from the sum of the other counts as whole numbers."
unfoldable pub is_unfit : Record → Bool
is_unfit rec =
    not (admits rec.t rec.r)
    || (eqb rec.r 0 || not (eqb rec.words (rec.clean + rec.corrected_binary + rec.corrected_pairs)))

-- "an s that is not allowed" (request C-17)
abbrev pub is_not_allowed : Record → Bool
is_not_allowed rec = not (allows rec.t rec.r rec.s)

-- "A record is open and fit where neither 21 nor 22 below applies to it"; it is usable where 10 does not either
abbrev pub is_usable : Record → Bool
is_usable rec = not (is_closed rec) && (not (is_unfit rec) && not (is_not_allowed rec))

-- open and fit as a statement: t and r are admitted, and the counts add up (`fit-true` and `true-fit` in proofs/States)
pub record Fit (rec : Record) : Type 0 where
  pub admitted : Admitted rec.t rec.r
  pub sums : rec.words ≡ rec.clean + rec.corrected_binary + rec.corrected_pairs

-- usable: open and fit, and s is allowed (`usable-true` and `true-usable`)
pub record Usable (rec : Record) : Type 0 where
  pub fit : Fit rec
  pub allowed : Allowed rec.t rec.r rec.s

-- an open and fit record of the code with t and r, shortened by s
pub record RecordOf (t r s : ℕ) (rec : Record) : Type 0 where
  pub is_t : rec.t ≡ t
  pub is_r : rec.r ≡ r
  pub is_s : rec.s ≡ s
  pub fit : Fit rec

-- the moduli of a record's code
abbrev pub moduli_in : Record → List Modulus
moduli_in rec = moduli_for rec.t rec.r

-- n − s, the places of a word; n − t − s, those of a message; and the number of the element of a place; for a record that is usable
unfoldable pub places_in : Record → ℕ
places_in rec = places_of rec.t - rec.s

unfoldable pub message_in : Record → ℕ
message_in rec = message_of rec.t - rec.s

unfoldable pub element_in : Record → ℕ → ℕ
element_in rec p = number (moduli_in rec) (shortened_element_at (moduli_in rec) rec.s p)

-- ---- what is done to words, by the code of a record that is usable
-- "The syndrome of a word is the sum of its binary places times their elements and of each pair's digit times its z": the element
unfoldable pub syndrome_in : Record → List ℕ → List ℕ
syndrome_in rec w = shortened_syndrome (moduli_in rec) rec.s w

-- "It is told as an element number"
unfoldable pub number_in : Record → List ℕ → ℕ
number_in rec e = number (moduli_in rec) e

-- "A codeword is a word of syndrome zero.": as a test
unfoldable pub is_codeword_in : Record → List ℕ → Bool
is_codeword_in rec w = is_shortened_codeword (moduli_in rec) rec.s w

-- "Encoding: the message, then the check digits that make the syndrome zero."
unfoldable pub encoded_in : Record → List ℕ → List ℕ
encoded_in rec m = shortened_encode (moduli_in rec) rec.s m

-- "Correction: syndrome zero gives place 0 and the word itself ..; the place given is the one that changes."
unfoldable pub corrected_in : Record → List ℕ → List ℕ
corrected_in rec w = shortened_corrected (moduli_in rec) rec.s w

unfoldable pub corrected_place_in : Record → List ℕ → ℕ
corrected_place_in rec w = shortened_corrected_place (moduli_in rec) rec.s w

-- "a correction .. that would fall in a left-out place": the place by its number before renumbering, and that it is left out
unfoldable pub corrected_old_place_in : Record → List ℕ → ℕ
corrected_old_place_in rec w = corrected_old_place (moduli_in rec) rec.s w

abbrev pub FallsOut : Record → List ℕ → Type 0
FallsOut rec w = LeftOut rec.s (corrected_old_place_in rec w)

-- "The inverse swaps the two places of each pair."
unfoldable pub inverse_in : Record → List ℕ → List ℕ
inverse_in rec w = shortened_inverse (moduli_in rec) rec.s w

-- "Combining adds binary places modulo 2 and pairs modulo 4."
unfoldable pub combine_in : Record → List ℕ → List ℕ → List ℕ
combine_in rec x y = shortened_combine (moduli_in rec) rec.s x y

-- "Third place: for places i and j, the one place that makes a codeword of weight 3 with them."
unfoldable pub third_in : Record → ℕ → ℕ → ℕ
third_in rec i j = shortened_third (moduli_in rec) rec.s i j

-- "a .. third place that would fall in a left-out place" likewise
unfoldable pub third_old_place_in : Record → ℕ → ℕ → ℕ
third_old_place_in rec i j = third_old_place (moduli_in rec) rec.s i j

abbrev pub ThirdFallsOut : Record → ℕ → ℕ → Type 0
ThirdFallsOut rec i j = LeftOut rec.s (third_old_place_in rec i j)

-- ---- the counts
-- "Counts stop at 4,294,967,295."
abbrev pub full_count : ℕ
full_count = 4294967295

-- a place that was of part 1 or 3 of the layout before renumbering, and one that was of part 2 or 4
unfoldable pub is_binary_in : Record → ℕ → Bool
is_binary_in rec p = is_shortened_binary (moduli_in rec) rec.s p

unfoldable pub is_paired_in : Record → ℕ → Bool
is_paired_in rec p = is_shortened_paired (moduli_in rec) rec.s p

-- "Each accepted correction adds one to words and to one of the other three": by the place p that it tells
unfoldable pub counted : Record → ℕ → Record
counted rec p =
    record {
      t = rec.t;
      r = rec.r;
      s = rec.s;
      words = rec.words + 1;
      clean = rec.clean + one_if (eqb p 0);
      corrected_binary = rec.corrected_binary + one_if (is_binary_in rec p);
      corrected_pairs = rec.corrected_pairs + one_if (is_paired_in rec p);
    }
