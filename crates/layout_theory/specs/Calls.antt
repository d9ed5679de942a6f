-- Which r the sheet and the calls for C open with, and what the shape of a code, the element of a place and the place of an element are, for
-- any two numbers t and r: what the functions of crates parameters and layout answer. Assumes nothing.
use Rattle.std.specs.Prelude.{List, ℕ, zero, suc}
use Rattle.layout_theory.specs.Choice.{zero_unless}
use Rattle.layout_theory.specs.Parameters.{admits, places_of, message_of, binary_of, quaternary_of, moduli_for}
use Rattle.layout_theory.specs.Layout.{element_at, place_of}
use Rattle.layout_theory.specs.declared.Shape.{Shape}

-- the sheet and the calls for C "turn 0 into r = t themselves, before opening" (request C-13)
abbrev pub or_hamming : ℕ → ℕ → ℕ
or_hamming t zero = t
or_hamming t (suc r) = suc r

-- a, b, n, k and the places of a message; each 0 where t and r are not admitted
unfoldable pub shape_for : ℕ → ℕ → Shape
shape_for t r =
    let ok = admits t r in
    record {
      a = zero_unless ok (binary_of t r);
      b = zero_unless ok (quaternary_of t r);
      places = zero_unless ok (places_of t);
      binary = zero_unless ok (places_of r);
      message = zero_unless ok (message_of t);
    }

-- the element of a place, and the place of an element: zero and 0 where t and r are not admitted, for then there are no places
unfoldable pub element_for : ℕ → ℕ → ℕ → List ℕ
element_for t r p = element_at (moduli_for t r) (zero_unless (admits t r) p)

unfoldable pub place_for : ℕ → ℕ → List ℕ → ℕ
place_for t r e = zero_unless (admits t r) (place_of (moduli_for t r) e)
