-- The form of the input: "t, one space, r and a newline, each number one to four decimal digits, with nothing after".
-- `read_line` reads it from the front on; specs/Spelling.antt says the form without a way of reading it, and proofs/Forms.antt proves that the two agree.
-- Assumes nothing.
use Rattle.std.specs.Prelude.{Bool, false, ◌&&◌, List, [], ◌∷◌, ℕ, leb, eqb, length, Option, Some, None}
use Rattle.layout_theory.specs.Choice.{pick}
use Rattle.listing_theory.specs.Decimal.{is_digit, value}
use Rattle.listing_theory.specs.declared.Asked.{Asked}

-- the digits that a text begins with
unfoldable pub leading_digits : List ℕ → List ℕ
leading_digits [] = []
leading_digits (b ∷ s) = pick (is_digit b) (b ∷ leading_digits s) []

-- what follows them
unfoldable pub after_digits : List ℕ → List ℕ
after_digits [] = []
after_digits (b ∷ s) = pick (is_digit b) (after_digits s) (b ∷ s)

-- "each number one to four decimal digits": how many they may be
unfoldable pub one_to_four : ℕ → Bool
one_to_four n = leb 1 n && leb n 4

-- "a newline .. with nothing after"
unfoldable pub is_end : List ℕ → Bool
is_end [] = false
is_end (b ∷ []) = eqb b 10
is_end (b ∷ c ∷ s) = false

-- the line asks for the code with t and r
abbrev pub asked : ℕ → ℕ → Option Asked
asked t r = Some (record { t = t; r = r })

-- t is read, with the space after it: "r and a newline" are left
unfoldable pub read_second : ℕ → List ℕ → Option Asked
read_second t s = pick (one_to_four (length (leading_digits s)) && is_end (after_digits s)) (asked t (value (leading_digits s))) None

-- t is read: "one space" and what follows are left
unfoldable pub read_rest : ℕ → List ℕ → Option Asked
read_rest t [] = None
read_rest t (b ∷ s) = pick (eqb b 32) (read_second t s) None

-- the t and r of a line of the form, and nothing of any other
unfoldable pub read_line : List ℕ → Option Asked
read_line s = pick (one_to_four (length (leading_digits s))) (read_rest (value (leading_digits s)) (after_digits s)) None
