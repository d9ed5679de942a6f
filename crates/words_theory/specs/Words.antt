-- Document 01, "Words": what a word is, and what is done to it place by place. Slots say which places are pairs. Assumes nothing.
use Rattle.std.specs.Prelude.{◌≡◌, Bool, not, List, [], ◌∷◌, ℕ, zero, suc, ◌+◌, ◌-◌, ◌%◌, ◌≤◌, eqb, length, get_or, replicate}
use Rattle.group_theory.specs.Group.{hd, tl}
use Rattle.layout_theory.specs.Choice.{one_if}
use Rattle.layout_theory.specs.Layout.{Slot, single, pair}
use Rattle.words_theory.specs.Digits.{gray, digit}

-- "A word is lent as one byte a place, 0 or 1" (document 01): n bytes, each 0 or 1
abbrev pub Bits : List ℕ → Type 0
Bits [] = Unit {0}
Bits (b ∷ w) = (b ≤ 1) × Bits w

pub record Word (n : ℕ) (w : List ℕ) : Type 0 where
  pub places : length w ≡ n
  pub bits : Bits w

-- the byte of a place; "Places count from 1"
abbrev pub byte_at : List ℕ → ℕ → ℕ
byte_at w zero = 0
byte_at w (suc i) = get_or w i 0

-- the zero word
abbrev pub zero_word : ℕ → List ℕ
zero_word n = replicate n 0

-- how many places of a word hold a 1: the sum of its bytes
unfoldable pub weight : List ℕ → ℕ
weight [] = 0
weight (b ∷ w) = b + weight w

-- whether this number is odd
abbrev pub is_odd : List ℕ → Bool
is_odd w = eqb (weight w % 2) 1

-- how many places differ; a place that only one of the two has counts as differing
unfoldable pub distance : List ℕ → List ℕ → ℕ
distance [] [] = 0
distance [] (c ∷ v) = suc (distance [] v)
distance (b ∷ w) [] = suc (distance w [])
distance (b ∷ w) (c ∷ v) = one_if (not (eqb b c)) + distance w v

-- the word with the place of index i, counted from 0, flipped
unfoldable pub flip_at : ℕ → List ℕ → List ℕ
flip_at i [] = []
flip_at zero (b ∷ w) = (1 - b) ∷ w
flip_at (suc i) (b ∷ w) = b ∷ flip_at i w

-- the word with place p flipped, "Places count from 1"; for place 0 the word itself
abbrev pub flip : ℕ → List ℕ → List ℕ
flip zero w = w
flip (suc i) w = flip_at i w

-- "Combining adds binary places modulo 2 and pairs modulo 4."
unfoldable pub combine : List Slot → List ℕ → List ℕ → List ℕ
combine [] x y = []
combine (single e ∷ sl) x y = (hd x + hd y) % 2 ∷ combine sl (tl x) (tl y)
combine (pair z ∷ sl) x y =
    gray ((digit (hd x) (hd (tl x)) + digit (hd y) (hd (tl y))) % 4) (combine sl (tl (tl x)) (tl (tl y)))

-- "The inverse swaps the two places of each pair."
unfoldable pub inverse : List Slot → List ℕ → List ℕ
inverse [] w = []
inverse (single e ∷ sl) w = hd w ∷ inverse sl (tl w)
inverse (pair z ∷ sl) w = hd (tl w) ∷ hd w ∷ inverse sl (tl (tl w))
