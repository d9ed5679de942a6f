-- The text of a sheet: "It prints `code`, t, r in force, n and message length, then for each place the place and its element number.
-- .. A refusal prints one line: `refused`, one space, the number." Assumes nothing.
use Rattle.std.specs.Prelude.{List, [], ◌∷◌, ◌++◌, ℕ, zero, suc, ◌+◌, eqb, Option, Some, None}
use Rattle.layout_theory.specs.Choice.{pick}
use Rattle.layout_theory.specs.Calls.{or_hamming}
use Rattle.coder_theory.specs.Calls.{opened, element_answer, word_length, message_length}
use Rattle.coder_theory.specs.declared.Record.{Record}
use Rattle.coder_theory.specs.declared.Opened.{Opened}
use Rattle.listing_theory.specs.Decimal.{decimal}
use Rattle.listing_theory.specs.Form.{read_line}
use Rattle.listing_theory.specs.declared.Asked.{Asked}

-- a number and the byte after it: 32, a space, or 10, a newline
unfoldable pub field_text : ℕ → ℕ → List ℕ
field_text n end = decimal n ++ (end ∷ [])

-- `code`, `refused`, each with the space after it
abbrev pub code_word : List ℕ
code_word = 99 ∷ 111 ∷ 100 ∷ 101 ∷ 32 ∷ []

abbrev pub refused_word : List ℕ
refused_word = 114 ∷ 101 ∷ 102 ∷ 117 ∷ 115 ∷ 101 ∷ 100 ∷ 32 ∷ []

-- "A refusal prints one line: `refused`, one space, the number"
unfoldable pub refused_line : ℕ → List ℕ
refused_line number = refused_word ++ field_text number 10

-- "`code`, t, r in force, n and message length"
unfoldable pub heading_text : Record → List ℕ
heading_text rec =
    code_word ++ field_text rec.t 32 ++ field_text rec.r 32 ++ field_text (word_length rec) 32 ++ field_text (message_length rec) 10

-- "the place and its element number"
unfoldable pub place_line : Record → ℕ → List ℕ
place_line rec p = field_text p 32 ++ field_text (element_answer rec p).element 10

-- the lines of as many places as `count` says, from the place p on
unfoldable pub place_lines : Record → ℕ → ℕ → List ℕ
place_lines rec p zero = []
place_lines rec p (suc count) = place_line rec p ++ place_lines rec (p + 1) count

-- "then for each place": the places are 1 to n
unfoldable pub listing_text : Record → List ℕ
listing_text rec = heading_text rec ++ place_lines rec 1 (word_length rec)

-- parameters that are not admitted have the refusal's number, which is not 0
unfoldable pub answer_text : Opened → List ℕ
answer_text o = pick (eqb o.refusal 0) (listing_text o.«record») (refused_line o.refusal)

-- a line that is not of the form is refused with 7, before the parameters are looked at; the sheet and the calls for C "turn 0 into r = t
-- themselves, before opening, so printed sheets stay comparable" (request C-13)
unfoldable pub line_text : Option Asked → List ℕ
line_text None = refused_line 7
line_text (Some a) = answer_text (opened a.t (or_hamming a.t a.r) 0)

-- the bytes of the whole output for the bytes of an input
unfoldable pub sheet_text : List ℕ → List ℕ
sheet_text input = line_text (read_line input)

-- a text over the front of a buffer: what does not fit is dropped, and the further bytes of the buffer stay
unfoldable pub overwrite : List ℕ → List ℕ → List ℕ
overwrite [] o = o
overwrite (b ∷ s) [] = []
overwrite (b ∷ s) (c ∷ o) = b ∷ overwrite s o
