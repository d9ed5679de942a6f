-- A refusal's number is not 0, that of an accepted call. Assumes nothing.
use mathlib.Core.Logic.{◌≢◌}
use native.Mathlib.Omega.{arith}
use Rattle.checks.specs.declared.refusal.Refusal.{Refusal}
use Rattle.checks.specs.declared.refusal.Refusal.TheVariants.{NotAdmitted, WrongLength, ShortOutput, BadByte, Outside, EqualPlaces, NotAllowed, LeftOut, Closed, Unfit, Full, NotAsked}
use Rattle.checks.specs.Told.{number_of}

pub refused-number : (x : Refusal) → number_of x ≢ 0
refused-number NotAdmitted z = omega arith
refused-number WrongLength z = omega arith
refused-number ShortOutput z = omega arith
refused-number (BadByte p) z = omega arith
refused-number Outside z = omega arith
refused-number EqualPlaces z = omega arith
refused-number NotAllowed z = omega arith
refused-number LeftOut z = omega arith
refused-number Closed z = omega arith
refused-number Unfit z = omega arith
refused-number Full z = omega arith
refused-number NotAsked z = omega arith
