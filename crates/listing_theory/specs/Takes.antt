-- What a function that reads a number off the front of a text tells of it: the private contracts of crate listing, src/read.rt, cite it. Assumes nothing.
use Rattle.std.specs.Prelude.{◌≡◌, true, List, ℕ, length}
use Rattle.listing_theory.specs.Decimal.{value}
use Rattle.listing_theory.specs.Form.{leading_digits, after_digits, one_to_four}

-- the text s begins with a number of one to four digits, whose value is v, and the text u follows it
pub record Takes (s : List ℕ) (v : ℕ) (u : List ℕ) : Type 0 where
  pub some : one_to_four (length (leading_digits s)) ≡ true
  pub valued : v ≡ value (leading_digits s)
  pub after : u ≡ after_digits s
