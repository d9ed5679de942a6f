-- The two parts of the message, for the proofs: the sign of their elements, and how many places they have. Assumes nothing.
use Rattle.std.specs.Prelude.{◌≡◌, Bool, true, false, ℕ, ◌+◌, ◌*◌, ◌^◌, ◌<◌, ◌≤◌, length}
use Rattle.group_theory.specs.Group.{moduli}
use Rattle.layout_theory.specs.Layout.{singles, pairs}

-- the sign of the message's pairs, and of its singles
abbrev pub sign_of : Bool → ℕ
sign_of true = 1
sign_of false = 0

-- part 1 has x places and the message y, at the moduli of a and b
pub record Located (a b x y : ℕ) : Type 0 where
  pub room : a + b ≤ 12
  pub part : x ≡ length (singles (moduli a b))
  pub front : y ≡ length (singles (moduli a b)) + 2 * length (pairs (moduli a b))
  pub small : y < 2 ^ 24
