-- Sums of elements, each times a weight. Assumes nothing.
use Rattle.std.specs.Prelude.{List, [], ◌∷◌, ℕ, ◌+◌, ◌%◌, ◌<◌}
use Rattle.group_theory.specs.Group.{Modulus, hd, tl, zeros, sum, times, element}

-- the sum over a list of numbers: of the element of each number, times its weight. Numbers and weights without a fellow count for nothing
unfoldable pub weigh_on : List Modulus → List ℕ → List ℕ → List ℕ
weigh_on ms [] v = zeros ms
weigh_on ms (x ∷ xs) [] = zeros ms
weigh_on ms (x ∷ xs) (d ∷ v) = sum ms (times ms d (element ms x)) (weigh_on ms xs v)

-- each number of a list, and c more
unfoldable pub shifted : ℕ → List ℕ → List ℕ
shifted c [] = []
shifted c (x ∷ xs) = (x + c) ∷ shifted c xs

-- each number of a list is below n
abbrev pub Below : ℕ → List ℕ → Type 0
Below n [] = Unit {0}
Below n (x ∷ xs) = (x < n) × Below n xs

-- two lists of weights added, weight by weight. Four times an element is zero, so remainders modulo 4 do
unfoldable pub added : List ℕ → List ℕ → List ℕ
added [] v = []
added (p ∷ u) v = (p % 4 + hd v % 4) % 4 ∷ added u (tl v)

-- the sum of weights
unfoldable pub total : List ℕ → ℕ
total [] = 0
total (p ∷ v) = p % 4 + total v
