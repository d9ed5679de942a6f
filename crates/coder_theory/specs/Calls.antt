-- What each call answers, for every input: its reasons in order, and its outcome by the first of them that applies. Assumes nothing.
use Rattle.std.specs.Prelude.{true, false, List, [], ◌∷◌, ◌++◌, ℕ, zero, suc, length, take, drop}
use Rattle.layout_theory.specs.Choice.{pick}
use Rattle.layout_theory.specs.Parameters.{smallest_r}
use Rattle.words_theory.specs.Words.{flip}
use Rattle.coder_theory.specs.State.{fresh, is_usable, places_in, message_in, element_in, syndrome_in, number_in, is_codeword_in, encoded_in}
use Rattle.coder_theory.specs.State.{corrected_in, corrected_place_in, corrected_old_place_in, combine_in, inverse_in, third_in, third_old_place_in, counted}
use Rattle.coder_theory.specs.Reasons.{Reason, first_reason, not_admitted, not_allowed, left_out, wrong_length, short_output, bad_byte, outside, equal_places, closed, unfit, full, not_asked}
use Rattle.coder_theory.specs.declared.Record.{Record}
use Rattle.coder_theory.specs.declared.Opened.{Opened}
use Rattle.coder_theory.specs.declared.Answer.{Answer}
use Rattle.coder_theory.specs.declared.ElementAnswer.{ElementAnswer}
use Rattle.coder_theory.specs.declared.TestAnswer.{TestAnswer}
use Rattle.coder_theory.specs.declared.Corrected.{Corrected}

-- what follows from a reason's number: x where the call is accepted, y where it is refused
abbrev pub if_accepted : {A : Type 0} → ℕ → A → A → A
if_accepted zero x y = x
if_accepted (suc n) x y = y

-- every call on a record asks first whether it is open and fit, and whether its s is allowed
abbrev pub state_reasons : Record → List Reason
state_reasons rec = closed rec ∷ unfit rec ∷ not_allowed rec.t rec.r rec.s ∷ []

-- ---- opening
-- "From now on 0 means the smallest admitted r, half of t rounded up." (request C-13)
abbrev pub in_force : ℕ → ℕ → ℕ
in_force t zero = smallest_r t
in_force t (suc r) = suc r

abbrev pub open_reasons : ℕ → ℕ → ℕ → List Reason
open_reasons t r s = not_admitted t (in_force t r) ∷ not_allowed t (in_force t r) s ∷ []

-- "A refused opening gives the closed record with every field 0."
abbrev pub closed_record : Record
closed_record = fresh 0 0 0

abbrev pub refused_opening : ℕ → Opened
refused_opening n = record { refusal = n; «record» = closed_record }

unfoldable pub opened : ℕ → ℕ → ℕ → Opened
opened t r s =
    let n = (first_reason (open_reasons t r s)).number in
    record { refusal = n; «record» = if_accepted n (fresh t (in_force t r) s) closed_record }

-- ---- the layout: "the layout tells the element number of one place a call"
abbrev pub layout_reasons : Record → ℕ → List Reason
layout_reasons rec p = state_reasons rec ++ (outside rec p ∷ [])

-- "A refused syndrome or layout call gives element number 0"
abbrev pub refused_element : ℕ → ElementAnswer
refused_element n = record { refusal = n; place = 0; element = 0 }

unfoldable pub element_answer : Record → ℕ → ElementAnswer
element_answer rec p =
    let n = (first_reason (layout_reasons rec p)).number in
    if_accepted n (record { refusal = 0; place = 0; element = element_in rec p }) (refused_element n)

-- ---- lengths: n − s and n − t − s of a usable record; any other has no places
abbrev pub if_usable : Record → ℕ → ℕ
if_usable rec n = elim (is_usable rec) as (λ _. ℕ) [ true ↦ n | false ↦ 0 ]

unfoldable pub word_length : Record → ℕ
word_length rec = if_usable rec (places_in rec)

unfoldable pub message_length : Record → ℕ
message_length rec = if_usable rec (message_in rec)

-- ---- a word that is read: its syndrome, and whether it is a codeword
abbrev pub word_reasons : Record → List ℕ → List Reason
word_reasons rec w = state_reasons rec ++ (wrong_length (places_in rec) w ∷ bad_byte w ∷ [])

-- "Each refusal gives its number, place 0 except for 4"; "An accepted call gives number 0, and place 0"
abbrev pub answer_of : Reason → Answer
answer_of x = record { refusal = x.number; place = x.place }

-- "A refused syndrome or layout call gives element number 0"
unfoldable pub syndrome_answer : Record → List ℕ → ElementAnswer
syndrome_answer rec w =
    let x = first_reason (word_reasons rec w) in
    record { refusal = x.number; place = x.place; element = if_accepted x.number (number_in rec (syndrome_in rec w)) 0 }

-- "a refused codeword test says no"
unfoldable pub codeword_answer : Record → List ℕ → TestAnswer
codeword_answer rec w =
    let x = first_reason (word_reasons rec w) in
    record { refusal = x.number; place = x.place; yes = if_accepted x.number (is_codeword_in rec w) false }

-- "Reading shows the message as the first n − t bytes of the lent codeword itself, not a copy" (document 01), "an empty part exactly when
-- the record or word would be refused or the word is no codeword"; in a shortened code the message has n − t − s
unfoldable pub shown : Record → List ℕ → List ℕ
shown rec w = if_accepted (first_reason (word_reasons rec w)).number (pick (is_codeword_in rec w) (take (message_in rec) w) []) []

-- ---- an output that is written: n bytes w are asked of the caller, and an output that has room for a word
-- those "because of the input" (document 01) come after those of the state
abbrev pub write_input : Record → ℕ → List ℕ → ℕ → List Reason
write_input rec n w room = wrong_length n w ∷ short_output (places_in rec) room ∷ bad_byte w ∷ []

abbrev pub write_reasons : Record → ℕ → List ℕ → ℕ → List Reason
write_reasons rec n w room = state_reasons rec ++ write_input rec n w room

-- "A longer one keeps its further bytes"; a refusal leaves "every buffer untouched"
abbrev pub output_of : Reason → Record → List ℕ → List ℕ → List ℕ
output_of x rec new old = if_accepted x.number (new ++ drop (places_in rec) old) old

abbrev pub encode_reasons : Record → List ℕ → ℕ → List Reason
encode_reasons rec m room = write_reasons rec (message_in rec) m room

unfoldable pub encode_answer : Record → List ℕ → List ℕ → Answer
encode_answer rec m out = answer_of (first_reason (encode_reasons rec m (length out)))

unfoldable pub encode_output : Record → List ℕ → List ℕ → List ℕ
encode_output rec m out = output_of (first_reason (encode_reasons rec m (length out))) rec (encoded_in rec m) out

-- 11, and 23 last of all
abbrev pub correct_reasons : Record → List ℕ → ℕ → List Reason
correct_reasons rec w room = write_reasons rec (places_in rec) w room ++ (left_out rec.s (corrected_old_place_in rec w) ∷ full rec ∷ [])

-- "An accepted call gives number 0, and place 0 unless it is correction or third place"; a refusal gives "the record as handed in"
unfoldable pub correct_answer : Record → List ℕ → List ℕ → Corrected
correct_answer rec w out =
    let x = first_reason (correct_reasons rec w (length out)) in
    record {
      refusal = x.number;
      place = if_accepted x.number (corrected_place_in rec w) x.place;
      «record» = if_accepted x.number (counted rec (corrected_place_in rec w)) rec;
    }

unfoldable pub correct_output : Record → List ℕ → List ℕ → List ℕ
correct_output rec w out = output_of (first_reason (correct_reasons rec w (length out))) rec (corrected_in rec w) out

-- ---- correction in two steps (request C-20): "asking gives the place and counts nothing"
abbrev pub ask_reasons : Record → List ℕ → List Reason
ask_reasons rec w = word_reasons rec w ++ (left_out rec.s (corrected_old_place_in rec w) ∷ [])

unfoldable pub ask_answer : Record → List ℕ → Answer
ask_answer rec w =
    let x = first_reason (ask_reasons rec w) in
    record { refusal = x.number; place = if_accepted x.number (corrected_place_in rec w) x.place }

-- "committing takes any claimed place and a lent word, flips that place and counts"; 24 "after 11 and before 23 .. a commit whose place .. is not
-- the one that asking would give for the word now lent, whoever named it"
abbrev pub commit_reasons : Record → ℕ → List ℕ → List Reason
commit_reasons rec p w = ask_reasons rec w ++ (not_asked p (ask_answer rec w).place ∷ full rec ∷ [])

-- "An accepted commit gives its place and counts among the accepted corrections."
unfoldable pub commit_answer : Record → ℕ → List ℕ → Corrected
commit_answer rec p w =
    let x = first_reason (commit_reasons rec p w) in
    record { refusal = x.number; place = if_accepted x.number p x.place; «record» = if_accepted x.number (counted rec p) rec }

-- the word after it: "A committed 0 leaves the word"
unfoldable pub commit_output : Record → ℕ → List ℕ → List ℕ
commit_output rec p w = if_accepted (first_reason (commit_reasons rec p w)).number (flip p w) w

-- "Where two words are lent, a fault of the first comes before the same fault of the second." (document 01)
abbrev pub combine_input : Record → List ℕ → List ℕ → ℕ → List Reason
combine_input rec x y room =
    let n = places_in rec in
    wrong_length n x ∷ wrong_length n y ∷ short_output n room ∷ bad_byte x ∷ bad_byte y ∷ []

abbrev pub combine_reasons : Record → List ℕ → List ℕ → ℕ → List Reason
combine_reasons rec x y room = state_reasons rec ++ combine_input rec x y room

unfoldable pub combine_answer : Record → List ℕ → List ℕ → List ℕ → Answer
combine_answer rec x y out = answer_of (first_reason (combine_reasons rec x y (length out)))

unfoldable pub combine_output : Record → List ℕ → List ℕ → List ℕ → List ℕ
combine_output rec x y out = output_of (first_reason (combine_reasons rec x y (length out))) rec (combine_in rec x y) out

abbrev pub invert_reasons : Record → List ℕ → ℕ → List Reason
invert_reasons rec w room = write_reasons rec (places_in rec) w room

unfoldable pub invert_answer : Record → List ℕ → List ℕ → Answer
invert_answer rec w out = answer_of (first_reason (invert_reasons rec w (length out)))

unfoldable pub invert_output : Record → List ℕ → List ℕ → List ℕ
invert_output rec w out = output_of (first_reason (invert_reasons rec w (length out))) rec (inverse_in rec w) out

-- ---- the third place
abbrev pub places_input : Record → ℕ → ℕ → List Reason
places_input rec i j = outside rec i ∷ outside rec j ∷ equal_places i j ∷ []

abbrev pub places_reasons : Record → ℕ → ℕ → List Reason
places_reasons rec i j = state_reasons rec ++ places_input rec i j

abbrev pub third_reasons : Record → ℕ → ℕ → List Reason
third_reasons rec i j = places_reasons rec i j ++ (left_out rec.s (third_old_place_in rec i j) ∷ [])

-- "An accepted call gives number 0, and place 0 unless it is correction or third place."
unfoldable pub third_answer : Record → ℕ → ℕ → Answer
third_answer rec i j =
    let x = first_reason (third_reasons rec i j) in
    record { refusal = x.number; place = if_accepted x.number (third_in rec i j) x.place }
