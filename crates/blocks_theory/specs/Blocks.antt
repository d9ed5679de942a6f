-- The numbers of the elements, by sign, and with the highest components left away. The code finds places and sums syndromes by them; no theorem
-- on the layout speaks of them. Assumes nothing.
use Rattle.std.specs.Prelude.{List, [], ◌∷◌, Bool, true, false, not, ℕ, zero, suc, ◌+◌, eqb, length, take}
use Rattle.group_theory.specs.Group.{Modulus, moduli, element, size}
use Rattle.group_theory.specs.Sign.{is_unit, lead}
use Rattle.layout_theory.specs.Layout.{from}

-- the members that pass a test, in their order
unfoldable pub select : (ℕ → Bool) → List ℕ → List ℕ
select p [] = []
select p (x ∷ xs) = elim (p x) as (λ _. List ℕ) [ true ↦ x ∷ select p xs | false ↦ select p xs ]

abbrev pub sign_at : List Modulus → ℕ → ℕ
sign_at ms x = lead ms (element ms x)

-- the first odd quaternary component is 1; it is not 3; there is none
abbrev pub in_plus : List Modulus → ℕ → Bool
in_plus ms x = eqb (sign_at ms x) 1

abbrev pub in_low : List Modulus → ℕ → Bool
in_low ms x = not (eqb (sign_at ms x) 3)

abbrev pub in_even : List Modulus → ℕ → Bool
in_even ms x = eqb (sign_at ms x) 0

unfoldable pub plus : List Modulus → List ℕ
plus ms = select (in_plus ms) (from 0 (size ms))

unfoldable pub low : List Modulus → List ℕ
low ms = select (in_low ms) (from 0 (size ms))

unfoldable pub even : List Modulus → List ℕ
even ms = select (in_even ms) (from 0 (size ms))

-- zero and the units, which are no part of the message
abbrev pub skips : List Modulus → ℕ → Bool
skips ms zero = true
skips ms (suc x) = is_unit (element ms (suc x))

abbrev pub others : List Modulus → ℕ → Bool
others ms x = not (skips ms x)

-- the first a + j components, and how many numbers of each kind they have
abbrev pub level : ℕ → ℕ → ℕ → List Modulus
level a b j = take (a + j) (moduli a b)

abbrev pub plus_to : ℕ → ℕ → ℕ → ℕ
plus_to a b j = length (plus (level a b j))

abbrev pub even_to : ℕ → ℕ → ℕ → ℕ
even_to a b j = length (even (level a b j))
