-- Document 01, "Turned back because of the input" and "because of the state", and requests C-17 (10, 11) and C-20 (24): each reason with its
-- number and whether it applies. Assumes nothing.
use Rattle.std.specs.Prelude.{Bool, true, false, ◌||◌, not, List, [], ◌∷◌, ℕ, eqb, ltb, length}
use Rattle.layout_theory.specs.Parameters.{admits}
use Rattle.words_theory.specs.Calls.{bad_from}
use Rattle.shortened_theory.specs.Allowed.{allows}
use Rattle.shortened_theory.specs.Code.{is_left_out}
use Rattle.coder_theory.specs.State.{is_closed, is_unfit, places_in, full_count}
use Rattle.coder_theory.specs.declared.Record.{Record}

-- "Each refusal gives its number, place 0 except for 4": a reason's number, the place told with it, and whether it applies
pub record Reason : Type 0 where
  pub number : ℕ
  pub place : ℕ
  pub applies : Bool

abbrev pub because : ℕ → Bool → Reason
because n b = record { number = n; place = 0; applies = b }

-- no reason: "An accepted call gives number 0"
abbrev pub accepted : Reason
accepted = because 0 false

-- the first of the reasons that applies
unfoldable pub first_reason : List Reason → Reason
first_reason [] = accepted
first_reason (x ∷ xs) = elim x.applies [ true ↦ x | false ↦ first_reason xs ]

-- "1. Parameters not admitted (opening, C calls, sheet)."
abbrev pub not_admitted : ℕ → ℕ → Reason
not_admitted t r = because 1 (not (admits t r))

-- "2. A read word or message not of its exact length, an empty one too.": n bytes are asked
abbrev pub wrong_length : ℕ → List ℕ → Reason
wrong_length n w = because 2 (not (eqb (length w) n))

-- "3. An output buffer shorter than needed.": n bytes are needed, and it has as many as room says
abbrev pub short_output : ℕ → ℕ → Reason
short_output n room = because 3 (ltb room n)

-- "the lowest such place", and "Places count from 1"
abbrev pub bad_place : List ℕ → ℕ
bad_place w = bad_from 1 w

-- "4. A byte above 1; the lowest such place is given with it"
abbrev pub bad_byte : List ℕ → Reason
bad_byte w = record { number = 4; place = bad_place w; applies = not (eqb (bad_place w) 0) }

-- "5. A place outside 1 to n.", n − s in a shortened code
abbrev pub outside : Record → ℕ → Reason
outside rec p = because 5 (eqb p 0 || ltb (places_in rec) p)

-- "6. Two equal places."
abbrev pub equal_places : ℕ → ℕ → Reason
equal_places i j = because 6 (eqb i j)

-- "It refuses with 10 .. an s that is not allowed"
abbrev pub not_allowed : ℕ → ℕ → ℕ → Reason
not_allowed t r s = because 10 (not (allows t r s))

-- "and with 11 .. a correction or third place that would fall in a left-out place": q is the place by its number before renumbering
abbrev pub left_out : ℕ → ℕ → Reason
left_out s q = because 11 (is_left_out s q)

-- "It refuses with 24 .. a commit whose place .. is not the one that asking would give": p is the claimed place, q the one that asking gives
abbrev pub not_asked : ℕ → ℕ → Reason
not_asked p q = because 24 (not (eqb p q))

-- "21. The record is closed."
abbrev pub closed : Record → Reason
closed rec = because 21 (is_closed rec)

-- "22. The record has parameters that are not admitted, r = 0, or words that differ from the sum of the other counts as whole numbers."
abbrev pub unfit : Record → Reason
unfit rec = because 22 (is_unfit rec)

-- "23. Words is at 4,294,967,295 (correction only).", of a commit too
abbrev pub full : Record → Reason
full rec = because 23 (eqb rec.words full_count)
