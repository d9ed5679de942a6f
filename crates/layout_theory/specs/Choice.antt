-- One of two things by a test, a number that a test allows, and the first number that passes one. Assumes nothing.
use Rattle.std.specs.Prelude.{Bool, true, false, ℕ, zero, suc}

-- the first where the test holds, and else the second
abbrev pub pick : {A : Type 0} → Bool → A → A → A
pick true x y = x
pick false x y = y

-- a number where the test holds, and else 0; and how often a test holds, once or not at all
abbrev pub zero_unless : Bool → ℕ → ℕ
zero_unless true n = n
zero_unless false n = 0

abbrev pub one_if : Bool → ℕ
one_if b = zero_unless b 1

-- the least of the k numbers from p on that passes, or 0
unfoldable pub least : (ℕ → Bool) → ℕ → ℕ → ℕ
least test p zero = 0
least test p (suc k) = pick (test p) p (least test (suc p) k)
