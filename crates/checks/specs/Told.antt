-- What a call answers that a check refuses, and what it answers that none does: the numbers are document 01's, 10 and 11 request C-17's and 24
-- request C-20's. Assumes nothing.
use Rattle.std.specs.Prelude.{ℕ, Result, Ok, Err}
use Rattle.coder_theory.specs.declared.Record.{Record}
use Rattle.coder_theory.specs.declared.Answer.{Answer}
use Rattle.coder_theory.specs.declared.Corrected.{Corrected}
use Rattle.checks.specs.declared.refusal.Refusal.{Refusal}
use Rattle.checks.specs.declared.refusal.Refusal.TheVariants.{NotAdmitted, WrongLength, ShortOutput, BadByte, Outside, EqualPlaces, NotAllowed, LeftOut, Closed, Unfit, Full, NotAsked}

-- a refusal's number
abbrev pub number_of : Refusal → ℕ
number_of NotAdmitted = 1
number_of WrongLength = 2
number_of ShortOutput = 3
number_of (BadByte p) = 4
number_of Outside = 5
number_of EqualPlaces = 6
number_of NotAllowed = 10
number_of LeftOut = 11
number_of Closed = 21
number_of Unfit = 22
number_of Full = 23
number_of NotAsked = 24

-- "place 0 except for 4"
abbrev pub place_of : Refusal → ℕ
place_of (BadByte p) = p
place_of _ = 0

-- "Each refusal gives its number, place 0 except for 4"
abbrev pub refused : Refusal → Answer
refused x = record { refusal = number_of x; place = place_of x }

-- "An accepted call gives number 0, and place 0"
abbrev pub told : {A : Type 0} → Result A Refusal → Answer
told (Ok x) = record { refusal = 0; place = 0 }
told (Err x) = refused x

-- "unless it is correction or third place"
abbrev pub told_place : Result ℕ Refusal → Answer
told_place (Ok p) = record { refusal = 0; place = p }
told_place (Err x) = refused x

-- a correction or a commit is counted by its place; refused it gives "the record as handed in"
abbrev pub told_counted : (Record → ℕ → Record) → Record → Result ℕ Refusal → Corrected
told_counted count rec (Ok p) = record { refusal = 0; place = p; «record» = count rec p }
told_counted count rec (Err x) = record { refusal = number_of x; place = place_of x; «record» = rec }
