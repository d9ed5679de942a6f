-- Request C-17: which numbers of message places may be left out, as a statement and as a test (`allows-allowed`, `allowed-allows`).
-- Assumes nothing.
use Rattle.std.specs.Prelude.{◌≡◌, ◌⊎◌, Bool, ◌&&◌, ◌||◌, ℕ, ◌+◌, ◌-◌, ◌*◌, ◌%◌, ◌<◌, ◌≤◌, eqb, leb, ltb}
use Rattle.layout_theory.specs.Parameters.{places_of, message_of, binary_of}

-- "inside part 1 of the layout, at its end or after a whole pair", where part 1 has p places
abbrev pub EndsWhole : ℕ → ℕ → Type 0
EndsWhole p s = (s ≤ p) ⊎ ((j : ℕ) × (s ≡ p + 2 * j))

-- beyond part 1, what is left over of whole pairs
abbrev pub over : ℕ → ℕ → ℕ
over p s = (s - p) % 2

abbrev pub ends_whole : ℕ → ℕ → Bool
ends_whole p s = leb s p || eqb (over p s) 0

-- the places of part 1: the k binary places but the a binary units
abbrev pub part_of : ℕ → ℕ → ℕ
part_of t r = places_of r - binary_of t r

-- "s may end inside part 1 of the layout, at its end or after a whole pair, and at least one message place stays"
pub record Allowed (t r s : ℕ) : Type 0 where
  pub ends : EndsWhole (part_of t r) s
  pub stays : s < message_of t

unfoldable pub allows : ℕ → ℕ → ℕ → Bool
allows t r s = ends_whole (part_of t r) s && ltb s (message_of t)
