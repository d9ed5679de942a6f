-- What the theorems on the sheet say, of its bytes. Of specs/Sheet and specs/Form only `sheet_text` and `overwrite`, which the contract of
-- `listing::sheet` names, are named: the texts are written out here a second time, so that a change of both the code and its definitions is
-- still refused. 32 is a space, 10 a newline, 48 to 57 are the digits 0 to 9. Assumes nothing.
use Rattle.std.specs.Prelude.{◌≡◌, ◌↔◌, true, ℕ, ◌+◌, ◌-◌, ◌*◌, ◌^◌, ◌<◌, ◌≤◌, length, take, drop}
use mathlib.Core.List.{List, [], ◌∷◌, ◌++◌, flat_map}
use Rattle.layout_theory.specs.Parameters.{Admitted, AdmittedOrZero, places_of, message_of}
use Rattle.layout_theory.specs.Layout.{from}
use Rattle.coder_theory.specs.Calls.{element_answer}
use Rattle.listing_theory.specs.Decimal.{decimal, is_digit, value}
use Rattle.listing_theory.specs.Spelling.{Digits, Spells}
use Rattle.listing_theory.specs.Sheet.{sheet_text, overwrite}

-- "A refusal prints one line: `refused`, one space, the number.": with the number 7, and with 1
abbrev pub refused7 : List ℕ
refused7 = 114 ∷ 101 ∷ 102 ∷ 117 ∷ 115 ∷ 101 ∷ 100 ∷ 32 ∷ 55 ∷ 10 ∷ []

abbrev pub refused1 : List ℕ
refused1 = 114 ∷ 101 ∷ 102 ∷ 117 ∷ 115 ∷ 101 ∷ 100 ∷ 32 ∷ 49 ∷ 10 ∷ []

-- "the place and its element number", which is the one that the layout call tells of a record with nothing counted; request C-17: "C calls and
-- sheet use s = 0"
abbrev pub told : ℕ → ℕ → ℕ → ℕ
told t r p = (element_answer (record { t = t; r = r; s = 0; words = 0; clean = 0; corrected_binary = 0; corrected_pairs = 0 }) p).element

abbrev pub line_of : ℕ → ℕ → ℕ → List ℕ
line_of t r p = decimal p ++ (32 ∷ decimal (told t r p)) ++ (10 ∷ [])

-- "It prints `code`, t, r in force, n and message length, then for each place the place and its element number.": the places are 1 to n
abbrev pub whole_sheet : ℕ → ℕ → List ℕ
whole_sheet t r =
    (99 ∷ 111 ∷ 100 ∷ 101 ∷ [])
    ++ (32 ∷ decimal t)
    ++ (32 ∷ decimal r)
    ++ (32 ∷ decimal (places_of t))
    ++ (32 ∷ decimal (message_of t))
    ++ (10 ∷ [])
    ++ flat_map (line_of t r) (from 1 (places_of t))

-- the bytes of the buffer that a program writes a sheet into: `text` in sheet/src/main.rt
abbrev pub buffer_length : ℕ
buffer_length = 65536

-- the sheet of any input: refused with 7 exactly where it is not of the form, with 1 exactly where it spells parameters that are not admitted,
-- and else the sheet of its code, or of r = t where it spells r = 0; no sheet is longer than the buffer
pub record SheetOf (input : List ℕ) : Type 0 where
  pub malformed : (sheet_text input ≡ refused7) ↔ ((t r : ℕ) → Spells input t r → ⊥)
  pub not_admitted : (sheet_text input ≡ refused1) ↔ ((t : ℕ) × (r : ℕ) × Spells input t r × (AdmittedOrZero t r → ⊥))
  pub listed : (t r : ℕ) → Spells input t r → Admitted t r → sheet_text input ≡ whole_sheet t r
  -- "r given as 0 means r = t"; the sheet keeps this reading, "so printed sheets stay comparable" (request C-13)
  pub zero_is_t : (t : ℕ) → Spells input t 0 → Admitted t t → sheet_text input ≡ whole_sheet t t
  pub fits : length (sheet_text input) ≤ buffer_length
  -- what `listing::sheet` leaves in a buffer: as much of the text as fits, and of a longer buffer the further bytes as they were
  pub written : (out : List ℕ) → overwrite (sheet_text input) out ≡ take (length out) (sheet_text input) ++ drop (length (sheet_text input)) out

abbrev pub Sheets : Type 0
Sheets = (input : List ℕ) → SheetOf input

-- "decimal digits": 48 to 57 are the digits 0 to 9, and a last digit d adds d − 48 to ten times the value of those before it
pub record DecimalDigits : Type 0 where
  pub digits : (b : ℕ) → (is_digit b ≡ true) ↔ ((48 ≤ b) × (b ≤ 57))
  pub none : value [] ≡ 0
  pub more : (ds : List ℕ) (d : ℕ) → value (ds ++ (d ∷ [])) ≡ value ds * 10 + (d - 48)

-- the decimal numeral of n: digits, one at least, whose value is n, and 0 is the first of them only where it is the only one
pub record Numeral (n : ℕ) (ds : List ℕ) : Type 0 where
  pub digits : Digits ds
  pub some : 1 ≤ length ds
  pub valued : value ds ≡ n
  pub leading : (es : List ℕ) → ds ≡ 48 ∷ es → es ≡ []

-- what is printed for a number is its numeral; ten digits hold every number of 32 bits
abbrev pub Numerals : Type 0
Numerals = (n : ℕ) → n < 10 ^ 10 → Numeral n (decimal n)

-- "For `3 2` the whole output is": document 01's sheet, line by line
abbrev pub DocumentSheet : Type 0
DocumentSheet =
    sheet_text (51 ∷ 32 ∷ 50 ∷ 10 ∷ [])
    ≡ 99 ∷ 111 ∷ 100 ∷ 101 ∷ 32 ∷ 51 ∷ 32 ∷ 50 ∷ 32 ∷ 55 ∷ 32 ∷ 52 ∷ 10
    ∷ 49 ∷ 32 ∷ 52 ∷ 10
    ∷ 50 ∷ 32 ∷ 53 ∷ 10
    ∷ 51 ∷ 32 ∷ 55 ∷ 10
    ∷ 52 ∷ 32 ∷ 51 ∷ 10
    ∷ 53 ∷ 32 ∷ 49 ∷ 10
    ∷ 54 ∷ 32 ∷ 54 ∷ 10
    ∷ 55 ∷ 32 ∷ 50 ∷ 10
    ∷ []
