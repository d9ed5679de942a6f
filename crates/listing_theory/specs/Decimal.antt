-- Numbers as decimal digits, both ways: what the sheet prints, and the value of what it reads. A text is the list of its bytes, in ASCII.
-- Assumes nothing.
use Rattle.std.specs.Prelude.{Bool, ◌&&◌, List, [], ◌∷◌, ◌++◌, ℕ, zero, suc, ◌+◌, ◌*◌, ◌-◌, ◌/◌, ◌%◌, leb, ltb}
use Rattle.layout_theory.specs.Choice.{pick}

-- the digits of n with no leading zero, where n has at most the given number of digits: 48 is the digit 0
unfoldable pub digits_within : ℕ → ℕ → List ℕ
digits_within zero n = []
digits_within (suc most) n = pick (ltb n 10) ((48 + n) ∷ []) (digits_within most (n / 10) ++ ((48 + n % 10) ∷ []))

-- a number as it is printed: ten digits hold every u32 (`numerals`, in proofs/Decimals.antt, says that these are the digits of n)
unfoldable pub decimal : ℕ → List ℕ
decimal n = digits_within 10 n

-- 48 to 57 are the digits 0 to 9
unfoldable pub is_digit : ℕ → Bool
is_digit b = leb 48 b && leb b 57

-- the value of digits that follow digits of the value v
unfoldable pub value_from : ℕ → List ℕ → ℕ
value_from v [] = v
value_from v (d ∷ ds) = value_from (v * 10 + (d - 48)) ds

abbrev pub value : List ℕ → ℕ
value ds = value_from 0 ds
