-- Document 01's cases marked P, for (3,2), and request C-11's, for (2,1): computed, so that these proofs open the group's definitions too.
-- Assumes nothing.
use mathlib.Core.Path.{refl}
use Rattle.group_theory.specs.Group.{moduli, zeros, sum, negative, times, number, element, size}
use Rattle.group_theory.specs.Sign.{same, all_zero, is_unit, lead}
use Rattle.layout_theory.specs.Choice.{least}
use Rattle.layout_theory.specs.Layout.{from, keep, elements, singles, pairs, units, message, slots, places}
use Rattle.layout_theory.specs.Claims.{layout_numbers}
use Rattle.words_theory.specs.Words.{weight, flip_at, combine}
use Rattle.words_theory.specs.Syndrome.{syndrome_over, syndrome}
use Rattle.words_theory.specs.Coding.{check_digits, encode, correct_over, corrected, changed_from, corrected_place, third}
use Rattle.words_theory.specs.Table.{Table, LengthThree}

pub table : Table
unfolding moduli zeros sum negative times number element size same all_zero is_unit lead from keep elements singles pairs units message slots least weight flip_at combine syndrome_over syndrome check_digits encode correct_over corrected changed_from corrected_place third
table = (refl, refl, refl, refl, refl, refl, refl, refl, refl, refl, refl, refl, refl, refl, refl, refl, refl, refl, refl)

pub length_three : LengthThree
unfolding moduli zeros sum negative times number element size same all_zero is_unit lead from keep elements singles pairs units message slots places layout_numbers syndrome_over check_digits encode
length_three = (refl, refl)
