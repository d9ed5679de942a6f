-- What the code says of the two parts of the message: the numbers of a sign in their order, taken apart into blocks by their highest digit.
-- Assumes nothing.
use Rattle.std.specs.Prelude.{◌≡◌, List, ◌++◌, ℕ, zero, suc, ◌+◌, ◌*◌, ◌^◌, ◌<◌, ◌≤◌, length, get_or, drop}
use Rattle.group_theory.specs.Group.{Modulus, Valid, moduli, times, element}
use Rattle.group_theory.specs.Sign.{lead}
use Rattle.blocks_theory.specs.Blocks as blocks
use Rattle.blocks_theory.specs.Blocks.{level, plus_to}
use Rattle.blocks_theory.specs.declared.Sign.{Sign}
use Rattle.blocks_theory.specs.declared.Sign.TheVariants.{Zero, One, Three}
use Rattle.blocks_theory.specs.declared.Kind.{Kind}
use Rattle.blocks_theory.specs.declared.Kind.TheVariants.{Even, Plus, Low}

-- ---- signs
abbrev pub digit_of : Sign → ℕ
digit_of Zero = 0
digit_of One = 1
digit_of Three = 3

-- the numbers among which an element is sought; where its sign is 3, its negative is, which is 3 times it
abbrev pub kind_of : Sign → Kind
kind_of Zero = Even
kind_of One = Plus
kind_of Three = Plus

abbrev pub factor_of : Sign → ℕ
factor_of Zero = 1
factor_of One = 1
factor_of Three = 3

-- an element of a sign
pub record Signed (a b : ℕ) (s : Sign) (x : List ℕ) : Type 0 where
  pub room : a + b ≤ 12
  pub valid : Valid (moduli a b) x
  pub sign : lead (moduli a b) x ≡ digit_of s

-- the numbers of a kind
abbrev pub numbers : Kind → List Modulus → List ℕ
numbers Even ms = blocks.even ms
numbers Plus ms = blocks.plus ms
numbers Low ms = blocks.low ms

-- the element of a sign at an index
abbrev pub standing : Sign → List Modulus → ℕ → List ℕ
standing s ms k = times ms (factor_of s) (element ms (get_or (numbers (kind_of s) ms) k 0))

-- ---- blocks
-- With one more quaternary component, the digit d, the numbers of a kind are four blocks of numbers without it: at an even digit those of the
-- same kind, at 1 the low ones, at 3 those of sign 1; even numbers have even digits only. How many the block of digit 1 has; where a block
-- starts, where those of even digits are s wide and that of digit 1 is m wide; and which kind it has
abbrev pub ones : Kind → List Modulus → ℕ
ones Even ms = 0
ones Plus ms = length (blocks.low ms)
ones Low ms = length (blocks.low ms)

abbrev pub offset : ℕ → ℕ → ℕ → ℕ
offset zero s m = 0
offset (suc zero) s m = s
offset (suc (suc zero)) s m = s + m
offset (suc (suc (suc d))) s m = 2 * s + m

abbrev pub kind_after : Kind → ℕ → Kind
kind_after c zero = c
kind_after c (suc zero) = Low
kind_after c (suc (suc zero)) = c
kind_after c (suc (suc (suc d))) = Plus

-- index k lies in the block of a digit
pub record InBlock (k s m digit : ℕ) : Type 0 where
  pub small : digit < 4
  pub begins : offset digit s m ≤ k
  pub ends : digit < 3 → k < offset (suc digit) s m

-- from index k on stand the elements of a kind that differ from z in binary digits only, each at its number
abbrev pub Based : ℕ → ℕ → Kind → List ℕ → ℕ → Type 0
Based a b c z k =
    (u : ℕ) → u < 2 ^ a
    → (k + u < length (numbers c (moduli a b)))
    × (element (moduli a b) (get_or (numbers c (moduli a b)) (k + u) 0) ≡ element (level a 0 0) u ++ drop a z)

-- ---- units
-- how many units have a sign, and at which index of its numbers unit i stands: where the numbers without its component end
abbrev pub units_of : Sign → ℕ → ℕ → ℕ
units_of Zero a b = a
units_of One a b = b
units_of Three a b = b

abbrev pub unit_index : Sign → ℕ → ℕ → ℕ → ℕ
unit_index Zero a b i = 2 ^ i
unit_index One a b i = plus_to a b i
unit_index Three a b i = plus_to a b i

-- c units stand before index k, and k is none of them
pub record Past (s : Sign) (a b c k : ℕ) : Type 0 where
  pub most : c ≤ units_of s a b
  pub last : (i : ℕ) → suc i ≡ c → unit_index s a b i < k
  pub next : c < units_of s a b → k < unit_index s a b c
