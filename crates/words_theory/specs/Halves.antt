-- Binary places, and the two places of a pair. Assumes nothing.
use Rattle.std.specs.Prelude.{Bool, List, [], ◌∷◌, ℕ, zero, suc, eqb, get_or}
use Rattle.layout_theory.specs.Choice.{pick}
use Rattle.layout_theory.specs.Layout.{Slot, single, pair}

-- how many places the slot of an index has: 1 for a binary place, 2 for a place of a pair, and 0 where there is no such place. Parts 1 and 3
-- of the layout are binary places, parts 2 and 4 are pairs.
unfoldable pub width_at : List Slot → ℕ → ℕ
width_at [] i = 0
width_at (single e ∷ sl) zero = 1
width_at (single e ∷ sl) (suc i) = width_at sl i
width_at (pair z ∷ sl) zero = 2
width_at (pair z ∷ sl) (suc zero) = 2
width_at (pair z ∷ sl) (suc (suc i)) = width_at sl i

-- the same for places, which count from 1
abbrev pub width : List Slot → ℕ → ℕ
width sl zero = 0
width sl (suc i) = width_at sl i

abbrev pub is_binary : List Slot → ℕ → Bool
is_binary sl p = eqb (width sl p) 1

abbrev pub is_paired : List Slot → ℕ → Bool
is_paired sl p = eqb (width sl p) 2

-- the index of the other half of a pair; a binary place stays where it is
unfoldable pub other_at : List Slot → ℕ → ℕ
other_at [] i = i
other_at (single e ∷ sl) zero = 0
other_at (single e ∷ sl) (suc i) = suc (other_at sl i)
other_at (pair z ∷ sl) zero = 1
other_at (pair z ∷ sl) (suc zero) = 0
other_at (pair z ∷ sl) (suc (suc i)) = suc (suc (other_at sl i))

abbrev pub other_half : List Slot → ℕ → ℕ
other_half sl zero = 0
other_half sl (suc i) = suc (other_at sl i)

-- the place of index i, moved to the other half of its pair where the word differs on the two
unfoldable pub moved_at : List Slot → List ℕ → ℕ → ℕ
moved_at sl w i = pick (eqb (get_or w i 0) (get_or w (other_at sl i) 0)) i (other_at sl i)

abbrev pub moved : List Slot → List ℕ → ℕ → ℕ
moved sl w zero = 0
moved sl w (suc i) = suc (moved_at sl w i)
