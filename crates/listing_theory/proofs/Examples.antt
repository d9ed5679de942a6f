-- Worked examples: lines that are read and lines that are malformed; and document 01's sheet for `3 2`, `document-sheet`, whose statement is in
-- specs/Claims. Assumes nothing.
use mathlib.Core.Path.{◌≡◌, refl, sym, ap, ◌∙◌}
use mathlib.Core.List.{List, [], ◌∷◌, flat_map, map}
use Prim.Native.Nat.{ℕ, suc, ◌≤◌}
use native.Mathlib.Omega.{arith}
use lib.ListN.{get_or, replicate, get_or-map}
use Rattle.std.specs.Prelude.{None}
use Rattle.group_theory.specs.Group.{zeros, number}
use Rattle.group_theory.proofs.Numbers.{number-zeros}
use Rattle.layout_theory.specs.Parameters.{Admitted, places_of, moduli_for}
use Rattle.layout_theory.specs.Layout.{from, slots, places, element_at}
use Rattle.layout_theory.specs.Claims.{layout_numbers}
use Rattle.layout_theory.proofs.Printed.{printed}
use Rattle.shortened_theory.proofs.Whole.{element-zero}
use Rattle.coder_theory.specs.State.{fresh, places_in, element_in}
use Rattle.coder_theory.specs.Calls.{element_answer}
use Rattle.coder_theory.specs.declared.ElementAnswer.{ElementAnswer}
use Rattle.coder_theory.proofs.States.{zero-usable}
use Rattle.coder_theory.proofs.Refusals.{fresh-fit, tells}
use Rattle.listing_theory.specs.Decimal.{digits_within, decimal, is_digit, value_from}
use Rattle.listing_theory.specs.Form.{leading_digits, after_digits, one_to_four, is_end, asked, read_second, read_rest, read_line}
use Rattle.listing_theory.specs.Claims.{DocumentSheet}
use Rattle.listing_theory.proofs.Forms.{spells}
use Rattle.listing_theory.proofs.Sheets.{sheet-of}

-- "3 2", and the same with leading zeros
plain : read_line (51 ∷ 32 ∷ 50 ∷ 10 ∷ []) ≡ asked 3 2
unfolding read_line read_rest read_second leading_digits after_digits one_to_four is_end is_digit value_from
plain = refl

with-zeros : read_line (48 ∷ 48 ∷ 48 ∷ 51 ∷ 32 ∷ 48 ∷ 48 ∷ 48 ∷ 50 ∷ 10 ∷ []) ≡ asked 3 2
unfolding read_line read_rest read_second leading_digits after_digits one_to_four is_end is_digit value_from
with-zeros = refl

-- empty; no newline; two spaces; a space first; a carriage return; five digits; a sign; a second newline
malformed : List (List ℕ)
malformed =
    []
    ∷ (51 ∷ 32 ∷ 50 ∷ [])
    ∷ (51 ∷ 32 ∷ 32 ∷ 50 ∷ 10 ∷ [])
    ∷ (32 ∷ 51 ∷ 32 ∷ 50 ∷ 10 ∷ [])
    ∷ (51 ∷ 32 ∷ 50 ∷ 13 ∷ 10 ∷ [])
    ∷ (48 ∷ 48 ∷ 48 ∷ 48 ∷ 51 ∷ 32 ∷ 50 ∷ 10 ∷ [])
    ∷ (43 ∷ 51 ∷ 32 ∷ 50 ∷ 10 ∷ [])
    ∷ (51 ∷ 32 ∷ 50 ∷ 10 ∷ 10 ∷ [])
    ∷ []

all-refused : map read_line malformed ≡ replicate 8 None
unfolding malformed read_line read_rest read_second leading_digits after_digits one_to_four is_end is_digit value_from
all-refused = refl

-- ---- the document's sheet
-- what the call tells of a place is its number in the layout, and document 01 prints those numbers for (3,2) (`printed`)
told : (t r i : ℕ) → Admitted t r → suc i ≤ places_of t
    → (element_answer (fresh t r 0) (suc i)).element ≡ get_or (layout_numbers t r) i 0
unfolding places_in element_in element_at layout_numbers
told t r i ok h =
    let ms = moduli_for t r in
    ap (λ (x : ElementAnswer). x.element)
    (tells (fresh t r 0) (suc i) (zero-usable (fresh t r 0) (fresh-fit t r 0 ok) refl) (omega arith) (omega arith))
    ∙ ap (number ms) (element-zero ms (suc i))
    ∙ sym (get_or-map (number ms) (places ms (slots ms)) i (zeros ms))
    ∙ ap (get_or (layout_numbers t r) i) (number-zeros ms)

admitted : Admitted 3 2
admitted = record { least = omega arith; most = omega arith; binary = omega arith; within = omega arith; twice = omega arith }

told32 : (i : ℕ) → suc i ≤ 7 → (element_answer (fresh 3 2 0) (suc i)).element ≡ get_or (4 ∷ 5 ∷ 7 ∷ 3 ∷ 1 ∷ 6 ∷ 2 ∷ []) i 0
told32 i h = told 3 2 i admitted h ∙ rw printed.1

pub document-sheet : DocumentSheet
unfolding flat_map from decimal digits_within
document-sheet =
    (sheet-of _).listed 3 2 (spells 3 2 _ plain) admitted
    ∙ rw (
      told32 0 (omega arith),
      told32 1 (omega arith),
      told32 2 (omega arith),
      told32 3 (omega arith),
      told32 4 (omega arith),
      told32 5 (omega arith),
      told32 6 (omega arith),
    )
