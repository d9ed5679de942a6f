-- The texts of specs/Sheet are those that specs/Claims writes out: the lines of the two refusals, and the sheet of admitted t and r. Assumes nothing.
use mathlib.Core.Path.{◌≡◌, refl, ap, ap₂, ◌∙◌}
use mathlib.Core.List.{List, [], ◌∷◌, ◌++◌, append_assoc, flat_map}
use Prim.Native.Nat.{ℕ, zero, suc, ◌-◌}
use native.Mathlib.Numerals.{add-one}
use native.Mathlib.Omega.{arith}
use Rattle.layout_theory.specs.Parameters.{Admitted, places_of, message_of}
use Rattle.layout_theory.specs.Layout.{from}
use Rattle.coder_theory.specs.State.{fresh, places_in, message_in}
use Rattle.coder_theory.specs.Calls.{element_answer, word_length, message_length}
use Rattle.coder_theory.proofs.States.{Clear, usable-true, zero-usable}
use Rattle.coder_theory.proofs.Answers.{usable-length}
use Rattle.coder_theory.proofs.Refusals.{fresh-fit}
use Rattle.listing_theory.specs.Decimal.{digits_within, decimal}
use Rattle.listing_theory.specs.Sheet.{field_text, refused_line, heading_text, place_line, place_lines, listing_text}
use Rattle.listing_theory.specs.Claims.{refused7, refused1, line_of, whole_sheet}

pub line-seven : refused_line 7 ≡ refused7
unfolding refused_line field_text decimal digits_within
line-seven = refl

pub line-one : refused_line 1 ≡ refused1
unfolding refused_line field_text decimal digits_within
line-one = refl

-- a space s after each text is a space before the next one, in a line of two texts and in one of five; n ends the line
two-texts : (s a b n : List ℕ) → (a ++ s) ++ (b ++ n) ≡ a ++ (s ++ b) ++ n
two-texts s a b n = simp append_assoc

five-texts :
    (s a b c d e n : List ℕ)
    → (a ++ s) ++ (b ++ s) ++ (c ++ s) ++ (d ++ s) ++ (e ++ n) ≡ a ++ (s ++ b) ++ (s ++ c) ++ (s ++ d) ++ (s ++ e) ++ n
five-texts s a b c d e n = simp append_assoc

module _ (t r : ℕ) where
  place-written : (p : ℕ) → place_line (fresh t r 0) p ≡ line_of t r p
  unfolding place_line field_text
  place-written p = two-texts (32 ∷ []) (decimal p) (decimal (element_answer (fresh t r 0) p).element) (10 ∷ [])

  places-written : (p k : ℕ) → place_lines (fresh t r 0) p k ≡ flat_map (line_of t r) (from p k)
  unfolding place_lines flat_map from
  places-written p zero = refl
  places-written p (suc k) = rw (place-written p, add-one p, places-written (suc p) k)

module _ (t r : ℕ) (ok : Admitted t r) where
  clear : Clear (fresh t r 0)
  clear = usable-true (fresh t r 0) (zero-usable (fresh t r 0) (fresh-fit t r 0 ok) refl)

  places : word_length (fresh t r 0) ≡ places_of t
  unfolding word_length places_in
  places = usable-length (fresh t r 0) (places_of t - 0) clear ∙ omega arith

  message : message_length (fresh t r 0) ≡ message_of t
  unfolding message_length message_in
  message = usable-length (fresh t r 0) (message_of t - 0) clear ∙ omega arith

  heading-written :
      heading_text (fresh t r 0)
      ≡ (99 ∷ 111 ∷ 100 ∷ 101 ∷ []) ++ (32 ∷ decimal t) ++ (32 ∷ decimal r) ++ (32 ∷ decimal (places_of t)) ++ (32 ∷ decimal (message_of t)) ++ (10 ∷ [])
  unfolding heading_text field_text
  heading-written =
      rw (places, message)
      (five-texts (32 ∷ []) (99 ∷ 111 ∷ 100 ∷ 101 ∷ []) (decimal t) (decimal r) (decimal (places_of t)) (decimal (message_of t)) (10 ∷ []))

  pub listing-written : listing_text (fresh t r 0) ≡ whole_sheet t r
  unfolding listing_text
  listing-written = ap₂ ◌++◌ heading-written (ap (place_lines (fresh t r 0) 1) places ∙ places-written t r 1 (places_of t))
