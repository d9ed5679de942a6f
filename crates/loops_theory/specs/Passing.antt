-- What a pass over a word tells of its bytes: whether some of them are above 1. Assumes nothing.
use Rattle.std.specs.Prelude.{Bool, true, false, List, ℕ, ◌<◌, ◌≤◌, ltb, length, get_or}
use Rattle.layout_theory.specs.Choice.{pick}

-- the bytes from the index `start` up to `end` are 0 or 1; or one of them is not
abbrev pub BitsIn : List ℕ → ℕ → ℕ → Type 0
BitsIn w start end = (i : ℕ) → start ≤ i → i < end → get_or w i 0 ≤ 1

pub record BadIn (w : List ℕ) (start end : ℕ) : Type 0 where
  pub index : ℕ
  pub from : start ≤ index
  pub to : index < end
  pub above : 1 < get_or w index 0

-- a test of these bytes
abbrev pub Says : Bool → List ℕ → ℕ → ℕ → Type 0
Says true w start end = BitsIn w start end
Says false w start end = BadIn w start end

-- a pass that ends where it has met a byte above 1: up to `end` there is none; or there is one in the word
abbrev pub Tells : Bool → List ℕ → ℕ → ℕ → Type 0
Tells true w start end = BitsIn w start end
Tells false w start end = BadIn w 0 (length w)

-- none of the bytes is above x, and x is at most 1 or one of them is above 1
pub record Highest (w : List ℕ) (start end x : ℕ) : Type 0 where
  pub most : (i : ℕ) → start ≤ i → i < end → get_or w i 0 ≤ x
  pub some : 1 < x → BadIn w start end

-- as many bytes of a word of n as are tested before the pass
abbrev pub head_of : ℕ → ℕ
head_of n = pick (ltb n 192) n (pick (ltb n 1024) 192 512)
