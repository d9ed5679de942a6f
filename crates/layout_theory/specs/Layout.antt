-- Document 01, "The layout of places", for every list of moduli. A slot is one binary place or the two places of a pair. Assumes nothing.
use Rattle.std.specs.Prelude.{List, [], ◌∷◌, ◌++◌, map, Bool, true, false, ◌&&◌, not, ℕ, zero, suc, ◌-◌, eqb, get_or}
use Rattle.group_theory.specs.Group.{Modulus, one, two, four, zeros, sum, negative, element, size}
use Rattle.group_theory.specs.Sign.{same, is_unit, lead}

-- the k numbers from a on
unfoldable pub from : ℕ → ℕ → List ℕ
from a zero = []
from a (suc k) = a ∷ from (suc a) k

-- the members that pass a test, in their order
unfoldable pub keep : (List ℕ → Bool) → List (List ℕ) → List (List ℕ)
keep p [] = []
keep p (x ∷ xs) = elim (p x) [ true ↦ x ∷ keep p xs | false ↦ keep p xs ]

pub data Slot : Type 0 where
  single pair : List ℕ → Slot

-- every element but zero, by rising number
unfoldable pub elements : List Modulus → List (List ℕ)
elements ms = map (element ms) (from 1 (size ms - 1))

-- "1. Elements of order 2 other than the a binary unit elements, by rising number, one place each."
abbrev pub in_singles : List Modulus → List ℕ → Bool
in_singles ms e = same (sum ms e e) (zeros ms) && not (is_unit e)

unfoldable pub singles : List Modulus → List (List ℕ)
singles ms = keep (in_singles ms) (elements ms)

-- "2. Pairs for elements of order 4. In z and −z, z is the one whose first odd quaternary component is 1 .. Pairs run by rising number of z,
-- the b quaternary unit elements left out."
abbrev pub in_pairs : List Modulus → List ℕ → Bool
in_pairs ms e = eqb (lead ms e) 1 && not (is_unit e)

unfoldable pub pairs : List Modulus → List (List ℕ)
pairs ms = keep (in_pairs ms) (elements ms)

-- "3. The a binary unit elements, component 1 first. 4. The b pairs of quaternary units, component 1 first": the unit of each component in
-- use, in their order, of which the binary ones come first
abbrev pub unit_slot : Modulus → List ℕ → List Slot → List Slot
unit_slot one e later = later
unit_slot two e later = single e ∷ later
unit_slot four e later = pair e ∷ later

abbrev pub zero_first : Slot → Slot
zero_first (single e) = single (0 ∷ e)
zero_first (pair z) = pair (0 ∷ z)

unfoldable pub units : List Modulus → List Slot
units [] = []
units (m ∷ ms) = unit_slot m (1 ∷ zeros ms) (map zero_first (units ms))

-- "Parts 1 and 2 are the message, 3 and 4 the check"
unfoldable pub message : List Modulus → List Slot
message ms = map single (singles ms) ++ map pair (pairs ms)

unfoldable pub slots : List Modulus → List Slot
slots ms = message ms ++ units ms

-- "The first place of a pair has element −z, the second z": the elements of the places, in their order
unfoldable pub places : List Modulus → List Slot → List (List ℕ)
places ms [] = []
places ms (single e ∷ sl) = e ∷ places ms sl
places ms (pair z ∷ sl) = negative ms z ∷ z ∷ places ms sl

-- the element of a place, places counted from 1; zero where there is no such place
unfoldable pub element_at : List Modulus → ℕ → List ℕ
element_at ms zero = zeros ms
element_at ms (suc i) = get_or (places ms (slots ms)) i (zeros ms)

-- the first place from p on that has element e, or 0
unfoldable pub place_from : ℕ → List ℕ → List (List ℕ) → ℕ
place_from p e [] = 0
place_from p e (x ∷ xs) = elim (same e x) [ true ↦ p | false ↦ place_from (suc p) e xs ]

unfoldable pub place_of : List Modulus → List ℕ → ℕ
place_of ms e = place_from 1 e (places ms (slots ms))
