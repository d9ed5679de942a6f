-- What the functions on words of a whole code answer, for any t and r and any bytes: zero, or place 0, where t and r are not admitted or the
-- word is too short; and the arrays of zeros that words are filled in. `fault` is passed on for contracts that name it beside `fault_for`.
-- Assumes nothing.
use Rattle.std.specs.Prelude.{◌≡◌, Bool, ◌&&◌, List, ℕ, ◌≤◌, leb, length}
use Rattle.group_theory.specs.Group.{zeros}
use Rattle.layout_theory.specs.Choice.{pick}
use Rattle.layout_theory.specs.Parameters.{admits, places_of, moduli_for}
use Rattle.words_theory.specs.Words.{zero_word}
use Rattle.words_theory.specs.Syndrome.{syndrome}
pub use Rattle.words_theory.specs.Calls.{fault}

-- whether t and r are admitted and a word has n places or more
abbrev pub is_long : ℕ → ℕ → List ℕ → Bool
is_long t r w = admits t r && leb (places_of t) (length w)

-- the syndrome of the first n bytes, or zero
unfoldable pub syndrome_for : ℕ → ℕ → List ℕ → List ℕ
syndrome_for t r w = pick (is_long t r w) (syndrome (moduli_for t r) w) (zeros (moduli_for t r))

-- the place at fault, or 0
unfoldable pub fault_for : ℕ → ℕ → List ℕ → ℕ
fault_for t r w = pick (is_long t r w) (fault (moduli_for t r) w) 0

-- zeros, n of them or more
pub record Blank (n : ℕ) (v : List ℕ) : Type 0 where
  pub space : n ≤ length v
  pub zeros : v ≡ zero_word (length v)
