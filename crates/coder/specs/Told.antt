-- What a public call answers where its work gave an element's number, and where it was refused. Assumes nothing.
use Rattle.std.specs.Prelude.{ℕ, Result, Ok, Err}
use Rattle.coder_theory.specs.declared.ElementAnswer.{ElementAnswer}
use Rattle.checks.specs.declared.refusal.Refusal.{Refusal}
use Rattle.checks.specs.Told.{number_of, place_of}

-- "A refused syndrome or layout call gives element number 0"
abbrev pub told_element : Result ℕ Refusal → ElementAnswer
told_element (Ok e) = record { refusal = 0; place = 0; element = e }
told_element (Err x) = record { refusal = number_of x; place = place_of x; element = 0 }
