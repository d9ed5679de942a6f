-- Document 01, "C callers": what each call for C answers and writes, for every input, by t and r. Assumes nothing.
use Rattle.std.specs.Prelude.{List, ◌∷◌, ℕ, length, ℤ, pos, neg_ℤ}
use Rattle.layout_theory.specs.Calls.{or_hamming}
use Rattle.coder_theory.specs.State.{fresh, places_in, message_in, encoded_in, corrected_in, corrected_place_in, combine_in, third_in}
use Rattle.coder_theory.specs.Reasons.{Reason, first_reason, not_admitted}
use Rattle.coder_theory.specs.Calls.{if_accepted, opened, write_input, combine_input, places_input, output_of}
use Rattle.coder_theory.specs.declared.Record.{Record}
use Rattle.coder_theory.specs.declared.Opened.{Opened}

-- "They answer 0 or the place as a signed 32-bit number, and a refusal as its negated number": of a refusal x, which is 0 where the call is
-- accepted, and a place p; "the place of a bad byte is not told there"
abbrev pub signed : ℕ → ℕ → ℤ
signed x p = if_accepted x (pos p) (neg_ℤ (pos x))

-- "they turn 0 into r = t themselves, before opening" (request C-13); "C calls and sheet use s = 0" (request C-17)
unfoldable pub opened_for_c : ℕ → ℕ → Opened
opened_for_c t r = opened t (or_hamming t r) 0

-- "by t and r, with no record": the code with t and r as a record with nothing counted
abbrev pub code_for : ℕ → ℕ → Record
code_for t r = fresh t (or_hamming t r) 0

-- "1. Parameters not admitted (opening, C calls, sheet)." comes first; then what may be wrong with the input
abbrev pub call_reasons : ℕ → ℕ → List Reason → List Reason
call_reasons t r input = not_admitted t (or_hamming t r) ∷ input

-- ---- encoding
abbrev pub encode_reasons_for_c : ℕ → ℕ → List ℕ → ℕ → List Reason
encode_reasons_for_c t r m room = call_reasons t r (write_input (code_for t r) (message_in (code_for t r)) m room)

unfoldable pub encode_answer_for_c : ℕ → ℕ → List ℕ → List ℕ → ℤ
encode_answer_for_c t r m out = signed (first_reason (encode_reasons_for_c t r m (length out))).number 0

unfoldable pub encode_output_for_c : ℕ → ℕ → List ℕ → List ℕ → List ℕ
encode_output_for_c t r m out = output_of (first_reason (encode_reasons_for_c t r m (length out))) (code_for t r) (encoded_in (code_for t r) m) out

-- ---- correction, which answers the place that it changes
abbrev pub correct_reasons_for_c : ℕ → ℕ → List ℕ → ℕ → List Reason
correct_reasons_for_c t r w room = call_reasons t r (write_input (code_for t r) (places_in (code_for t r)) w room)

unfoldable pub correct_answer_for_c : ℕ → ℕ → List ℕ → List ℕ → ℤ
correct_answer_for_c t r w out = signed (first_reason (correct_reasons_for_c t r w (length out))).number (corrected_place_in (code_for t r) w)

unfoldable pub correct_output_for_c : ℕ → ℕ → List ℕ → List ℕ → List ℕ
correct_output_for_c t r w out = output_of (first_reason (correct_reasons_for_c t r w (length out))) (code_for t r) (corrected_in (code_for t r) w) out

-- ---- combining
abbrev pub combine_reasons_for_c : ℕ → ℕ → List ℕ → List ℕ → ℕ → List Reason
combine_reasons_for_c t r x y room = call_reasons t r (combine_input (code_for t r) x y room)

unfoldable pub combine_answer_for_c : ℕ → ℕ → List ℕ → List ℕ → List ℕ → ℤ
combine_answer_for_c t r x y out = signed (first_reason (combine_reasons_for_c t r x y (length out))).number 0

unfoldable pub combine_output_for_c : ℕ → ℕ → List ℕ → List ℕ → List ℕ → List ℕ
combine_output_for_c t r x y out = output_of (first_reason (combine_reasons_for_c t r x y (length out))) (code_for t r) (combine_in (code_for t r) x y) out

-- ---- the third place
abbrev pub third_reasons_for_c : ℕ → ℕ → ℕ → ℕ → List Reason
third_reasons_for_c t r i j = call_reasons t r (places_input (code_for t r) i j)

unfoldable pub third_answer_for_c : ℕ → ℕ → ℕ → ℕ → ℤ
third_answer_for_c t r i j = signed (first_reason (third_reasons_for_c t r i j)).number (third_in (code_for t r) i j)
