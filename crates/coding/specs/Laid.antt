-- The sum of a message in a word. Assumes nothing.
use Rattle.std.specs.Prelude.{◌≡◌, List, ℕ, Option, MatchOption, length}
use Rattle.group_theory.specs.Group.{moduli}
use Rattle.layout_theory.specs.Layout.{message}
use Rattle.words_theory.specs.Syndrome.{syndrome_over}
use Rattle.loops_theory.specs.Spread.{message_in}
use Rattle.loops_theory.specs.Passing.{BitsIn, BadIn}

-- the sum of the message's places in a word w, or nothing where a byte is above 1
abbrev pub Sums : ℕ → ℕ → List ℕ → Option (List ℕ) → Type 0
Sums a b w r =
    MatchOption r (BadIn w 0 (length w)) (λ x. BitsIn w 0 (message_in a b) × (x ≡ syndrome_over (moduli a b) (message (moduli a b)) w))
