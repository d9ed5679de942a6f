-- Weights, one for each element, in an order in which their sum can be folded without a table. Assumes nothing.
use Rattle.std.specs.Prelude.{◌≡◌, List, [], ◌∷◌, ◌++◌, true, false, ◌&&◌, ℕ, zero, suc, ◌+◌, ◌*◌, ◌^◌, ◌≤◌, ◌<◌, leb, ltb, length, take, drop}
use Rattle.group_theory.specs.Group.{Modulus, moduli, zeros, size}
use Rattle.group_theory.specs.Weights.{weigh_on, shifted, added, Below}
use Rattle.layout_theory.specs.Parameters.{longest}
use Rattle.blocks_theory.specs.Blocks.{plus, low, even, level}

-- the largest t that there is room for, the largest in use, and the room: 2^t weights
abbrev pub widest : ℕ
widest = longest

abbrev pub room : ℕ
room = 2 ^ widest

-- an array of k weights has one for each element, and no more than there is room for
pub record Holds (a b k : ℕ) : Type 0 where
  pub few : a + 2 * b ≤ widest
  pub enough : size (moduli a b) ≤ k
  pub most : k ≤ room

-- each number twice, one after the other: a pair has two places
unfoldable pub twice : List ℕ → List ℕ
twice [] = []
twice (x ∷ xs) = x ∷ x ∷ twice xs

-- the numbers of sign 1, by rising number, each for the two places of its pair; then those of sign 0, by rising number
unfoldable pub weight_order : List Modulus → List ℕ
weight_order ms = twice (plus ms) ++ even ms

-- what `weighted` answers for n weights: the sum of the elements in this order, each times its weight; zero where there is not one for
-- each element, or where there are more than there is room for
unfoldable pub weighted_for : ℕ → ℕ → ℕ → List ℕ → List ℕ
weighted_for n a b v =
    elim (leb (2 ^ (a + 2 * b)) n && leb n room) as (λ _. List ℕ) [
      | true ↦ weigh_on (moduli a b) (weight_order (moduli a b)) v
      | false ↦ zeros (moduli a b)
    ]

-- ---- what one level makes of the weights
-- n weights from an index on
abbrev pub stretch : ℕ → ℕ → List ℕ → List ℕ
stretch k n v = take n (drop k v)

-- twice and three times the weights
abbrev pub double : List ℕ → List ℕ
double u = added u u

abbrev pub triple : List ℕ → List ℕ
triple u = added u (added u u)

-- One level. The weights of the numbers of sign 1, of one quaternary component more, are four blocks: p for the digit 0, m for 1, and p
-- for each of 2 and 3; those of the numbers whose sign is not 3 are m for each of 0, 1 and 2, and p for 3. Both stand one after the other.
abbrev pub plus_at : ℕ → ℕ → ℕ → List ℕ → List ℕ
plus_at p m zero v = stretch 0 p v
plus_at p m (suc zero) v = stretch p m v
plus_at p m (suc (suc zero)) v = stretch (p + m) p v
plus_at p m (suc (suc (suc d))) v = stretch (2 * p + m) p v

abbrev pub low_at : ℕ → ℕ → ℕ → List ℕ → List ℕ
low_at p m zero v = stretch (3 * p + m) m v
low_at p m (suc zero) v = stretch (3 * p + m + m) m v
low_at p m (suc (suc zero)) v = stretch (3 * p + m + 2 * m) m v
low_at p m (suc (suc (suc d))) v = stretch (3 * p + m + 3 * m) p v

-- what is left for the p numbers of sign 1, and what these blocks add to the last component: with no weights of the second kind, and with
-- such weights
unfoldable pub first_plus : ℕ → ℕ → List ℕ → List ℕ
first_plus p m v = added (plus_at p m 0 v) (added (plus_at p m 2 v) (plus_at p m 3 v))

unfoldable pub first_tops : ℕ → ℕ → List ℕ → List ℕ
first_tops p m v = added (double (plus_at p m 2 v)) (triple (plus_at p m 3 v))

unfoldable pub next_plus : ℕ → ℕ → List ℕ → List ℕ
next_plus p m v = added (added (plus_at p m 0 v) (plus_at p m 2 v)) (added (plus_at p m 3 v) (low_at p m 3 v))

unfoldable pub plus_tops : ℕ → ℕ → List ℕ → List ℕ
plus_tops p m v = added (double (plus_at p m 2 v)) (added (triple (plus_at p m 3 v)) (triple (low_at p m 3 v)))

-- the same for the m numbers whose sign is not 3
unfoldable pub next_low : ℕ → ℕ → List ℕ → List ℕ
next_low p m v = added (added (plus_at p m 1 v) (low_at p m 0 v)) (added (low_at p m 1 v) (low_at p m 2 v))

unfoldable pub low_tops : ℕ → ℕ → List ℕ → List ℕ
low_tops p m v = added (plus_at p m 1 v) (added (low_at p m 1 v) (double (low_at p m 2 v)))

-- the numbers of one level, each twice: those of sign 1, then those whose sign is not 3
abbrev pub both : ℕ → ℕ → ℕ → List ℕ
both a b j = twice (plus (level a b j)) ++ twice (low (level a b j))

-- Halving. Lists of numbers, one for each number of components, each twice the one before: with one more component the numbers have there
-- the digit 0 and, in the same order, the digit 1, or 2 where the component is quaternary
abbrev pub stride : ℕ → ℕ → ℕ
stride a i = elim (ltb i a) as (λ _. ℕ) [ true ↦ 1 | false ↦ 2 ]

pub record Doubling (a b top : ℕ) (L : ℕ → List ℕ) : Type 0 where
  pub below : (i : ℕ) → i ≤ top → Below (size (take i (moduli a b))) (L i)
  pub grows : (i : ℕ) → i < top → L (suc i) ≡ shifted (size (take i (moduli a b)) * 0) (L i) ++ shifted (size (take i (moduli a b)) * stride a i) (L i)

-- r is the sum over such a list, with a weight in v for each number, in the first `top` components, and x in the others
abbrev pub Halved : ℕ → ℕ → ℕ → List ℕ → List ℕ → List ℕ → Type 0
Halved a b top v x r =
    (L : ℕ → List ℕ) → Doubling a b top L → length (L top) ≡ length v → r ≡ weigh_on (take top (moduli a b)) (L top) v ++ drop top x
