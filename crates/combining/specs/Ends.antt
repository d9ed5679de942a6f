-- Where the four parts of what is left of a word end, of a code without its first s places. Assumes nothing.
use Rattle.std.specs.Prelude.{◌≡◌, ℕ, ◌+◌, ◌-◌, ◌%◌, ◌≤◌}
use Rattle.layout_theory.specs.declared.Shape.{Shape}

-- the parts end at p, m, r and n, one after the other, and parts 2 and 4 are whole pairs
pub record EndsAt (h : Shape) (s p m r n : ℕ) : Type 0 where
  pub part : p ≡ h.binary - h.a - s
  pub message : m ≡ h.message - s
  pub units : r ≡ h.message + h.a - s
  pub places : n ≡ h.places - s
  pub one_two : p ≤ m
  pub two_three : m ≤ r
  pub three_four : r ≤ n
  pub pairs : (m - p) % 2 ≡ 0
  pub check_pairs : (n - r) % 2 ≡ 0
