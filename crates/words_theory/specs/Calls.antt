-- What the functions of crates coding and places that know no s answer, for any t and r and any bytes: they do nothing where t and r are not
-- admitted, a number is none of a place, or an output is too short; the lowest byte above 1, and the place at fault. Assumes nothing.
use Rattle.std.specs.Prelude.{Bool, ◌&&◌, not, ◌≢◌, List, [], ◌∷◌, ◌++◌, ℕ, zero, suc, ◌<◌, ◌≤◌, eqb, leb, ltb, length, drop, Result, Ok, Err}
use Rattle.group_theory.specs.Group.{Modulus, negative}
use Rattle.layout_theory.specs.Choice.{pick}
use Rattle.layout_theory.specs.Parameters.{Admitted, admits, places_of, moduli_for}
use Rattle.layout_theory.specs.Layout.{slots, place_of}
use Rattle.words_theory.specs.Words.{flip}
use Rattle.words_theory.specs.Syndrome.{syndrome}
use Rattle.words_theory.specs.Halves.{width, moved}
use Rattle.words_theory.specs.Coding.{third}

-- the first place, counted from p, of a byte above 1, or 0
unfoldable pub bad_from : ℕ → List ℕ → ℕ
bad_from p [] = 0
bad_from p (b ∷ w) = pick (ltb 1 b) p (bad_from (suc p) w)

-- x where no place has a byte above 1, and else the place
abbrev pub if_bits : {A : Type 0} → ℕ → A → Result A ℕ
if_bits zero x = Ok x
if_bits (suc p) x = Err (suc p)

-- an output into which n bytes are written, the further bytes kept; or as it was
abbrev pub written : Bool → ℕ → List ℕ → List ℕ → List ℕ
written ok n w old = pick ok (w ++ drop n old) old

-- the place at fault in a word of syndrome e: that of minus the syndrome, moved to the other half of its pair where the word differs on the
-- two; 0 where the syndrome is zero. For a word of bits it is the place that correction changes (`corrected-place` in proofs/Rule).
abbrev pub fault_at : List Modulus → List ℕ → List ℕ → ℕ
fault_at ms e w = moved (slots ms) w (place_of ms (negative ms e))

abbrev pub fault : List Modulus → List ℕ → ℕ
fault ms w = fault_at ms (syndrome ms w) w

-- a word with one place flipped, written over the front of an output that has room for it
unfoldable pub flip_for : List ℕ → ℕ → List ℕ → List ℕ
flip_for w p old = written (leb (length w) (length old)) (length w) (flip p w) old

-- 1 for a binary place, 2 for a place of a pair, or 0
unfoldable pub width_for : ℕ → ℕ → ℕ → ℕ
width_for t r p = pick (admits t r) (width (slots (moduli_for t r)) p) 0

-- whether p is a place of the code
abbrev pub is_place : ℕ → ℕ → Bool
is_place t p = leb 1 p && leb p (places_of t)

-- the third place, or 0 where i and j are not two places of the code
unfoldable pub third_for : ℕ → ℕ → ℕ → ℕ → ℕ
third_for t r i j = pick (admits t r && (is_place t i && (is_place t j && not (eqb i j)))) (third (moduli_for t r) i j) 0

-- i and j are two places of the code
pub record TwoPlaces (t r i j : ℕ) : Type 0 where
  pub admitted : Admitted t r
  pub first : 0 < i
  pub first_most : i ≤ places_of t
  pub second : 0 < j
  pub second_most : j ≤ places_of t
  pub apart : i ≢ j
