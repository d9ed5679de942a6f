-- How the code lays the bytes of a message out as weights, in the order of crate folds: 0 for zero and for the units, which are no part of
-- the message. Assumes nothing.
use Rattle.std.specs.Prelude.{◌≡◌, Bool, true, false, List, [], ◌∷◌, ℕ, zero, suc, ◌+◌, ◌*◌, ◌≤◌, length}
use Rattle.group_theory.specs.Group.{Modulus, moduli, hd, tl, size}
use Rattle.layout_theory.specs.Choice.{pick}
use Rattle.layout_theory.specs.Layout.{Slot, single, pair, singles, pairs}
use Rattle.blocks_theory.specs.Blocks.{skips, plus_to}
use Rattle.folds_theory.specs.Folds.{widest, room, twice}
use Rattle.words_theory.specs.Digits.{digit}
use Rattle.shortened_theory.specs.Allowed.{EndsWhole}
use Rattle.shortened_theory.specs.Code.{fill}

-- of a part of the message, pairs or singles: the next weight, the bytes after it, how many bytes it takes, its slot, and the numbers
-- of the weights: a pair has two
abbrev pub read_of : Bool → List ℕ → ℕ
read_of true w = digit (hd w) (hd (tl w))
read_of false w = hd w

abbrev pub rest_of : Bool → List ℕ → List ℕ
rest_of true w = tl (tl w)
rest_of false w = tl w

abbrev pub width_of : Bool → ℕ
width_of true = 2
width_of false = 1

abbrev pub slot_of : Bool → List ℕ → Slot
slot_of true = pair
slot_of false = single

abbrev pub each_of : Bool → List ℕ → List ℕ
each_of true xs = twice xs
each_of false xs = xs

-- a weight: a pair has two places, and the first of them has the weight of both
abbrev pub weight_of : Bool → ℕ → List ℕ → List ℕ
weight_of true d v = d ∷ 0 ∷ v
weight_of false d v = d ∷ v

-- the weights of a list of numbers
unfoldable pub spread : Bool → List Modulus → List ℕ → List ℕ → List ℕ
spread p ms [] w = []
spread p ms (x ∷ xs) w = pick (skips ms x) (weight_of p 0 (spread p ms xs w)) (weight_of p (read_of p w) (spread p ms xs (rest_of p w)))

-- n of them in a row
unfoldable pub row : Bool → ℕ → List ℕ → List ℕ
row p zero w = []
row p (suc n) w = weight_of p (read_of p w) (row p n (rest_of p w))

-- the places of a message
abbrev pub message_in : ℕ → ℕ → ℕ
message_in a b = length (singles (moduli a b)) + 2 * length (pairs (moduli a b))

-- the group has `count` elements, part 1 of the message `part` places, and a word of n bytes has all the message's
pub record HoldsMessage (a b count part n : ℕ) : Type 0 where
  pub few : a + 2 * b ≤ widest
  pub all : count ≡ size (moduli a b)
  pub front : part ≡ length (singles (moduli a b))
  pub enough : message_in a b ≤ n

-- k weights are enough for the pairs, and no more than there is room for
pub record HoldsPairs (a b k : ℕ) : Type 0 where
  pub enough : 2 * plus_to a b b ≤ k
  pub most : k ≤ room

-- a word whose first d places are left out has, filled with d zeros, all of a message, and pairs are left out whole
pub record HoldsFilled (a b count part d : ℕ) (w : List ℕ) : Type 0 where
  pub message : HoldsMessage a b count part (length (fill d w))
  pub ends : EndsWhole part d
  pub few : d ≤ room
