-- The place of the other half of a pair, for any t, r and place. Assumes nothing.
use Rattle.std.specs.Prelude.{◌&&◌, ℕ}
use Rattle.layout_theory.specs.Choice.{zero_unless}
use Rattle.layout_theory.specs.Parameters.{admits, moduli_for}
use Rattle.layout_theory.specs.Layout.{slots}
use Rattle.words_theory.specs.Halves.{other_half}
use Rattle.words_theory.specs.Calls.{is_place}

-- a binary place is its own; 0 where there is no such place
unfoldable pub other_half_for : ℕ → ℕ → ℕ → ℕ
other_half_for t r p = zero_unless (admits t r && is_place t p) (other_half (slots (moduli_for t r)) p)
