-- What the functions that know s answer, for any t, r and s and any bytes: they do nothing where t and r are not admitted, s is not
-- allowed, a word or a message is not of its length, or an output is too short. Assumes nothing.
use Rattle.std.specs.Prelude.{◌≡◌, Bool, ◌&&◌, not, List, ℕ, ◌+◌, ◌-◌, eqb, leb, length, Result}
use Rattle.group_theory.specs.Group.{zeros}
use Rattle.layout_theory.specs.Choice.{pick}
use Rattle.layout_theory.specs.Parameters.{Admitted, admits, places_of, message_of, moduli_for}
use Rattle.words_theory.specs.Calls.{bad_from, if_bits, fault_at, fault, written}
use Rattle.shortened_theory.specs.Allowed.{Allowed, allows}
use Rattle.shortened_theory.specs.Code.{fill, shortened_syndrome, shortened_encode, shortened_combine, shortened_inverse, third_old_place, shortened_width}

unfoldable pub allowed_for : ℕ → ℕ → ℕ → Bool
allowed_for t r s = admits t r && allows t r s

-- whether k bytes are those of a word, and of a message
unfoldable pub fits_word : ℕ → ℕ → ℕ → ℕ → Bool
fits_word t r s k = allowed_for t r s && eqb k (places_of t - s)

unfoldable pub fits_message : ℕ → ℕ → ℕ → ℕ → Bool
fits_message t r s k = allowed_for t r s && eqb k (message_of t - s)

-- the same as a statement: k bytes and the s that are left out make n
pub record Fits (t r s n k : ℕ) : Type 0 where
  pub admitted : Admitted t r
  pub allowed : Allowed t r s
  pub all : s + k ≡ n

-- the syndrome, or zero
unfoldable pub shortened_syndrome_for : ℕ → ℕ → ℕ → List ℕ → List ℕ
shortened_syndrome_for t r s w = pick (fits_word t r s (length w)) (shortened_syndrome (moduli_for t r) s w) (zeros (moduli_for t r))

-- what one pass over a word finds: its syndrome, or the lowest place of a byte above 1
unfoldable pub scanned_for : ℕ → ℕ → ℕ → List ℕ → Result (List ℕ) ℕ
scanned_for t r s w = if_bits (pick (fits_word t r s (length w)) (bad_from 1 w) 0) (shortened_syndrome_for t r s w)

-- the place at fault in the filled word, by its old number; of a word of syndrome e
unfoldable pub fault_at_for : ℕ → ℕ → ℕ → List ℕ → List ℕ → ℕ
fault_at_for t r s e w = pick (fits_word t r s (length w)) (fault_at (moduli_for t r) e (fill s w)) 0

unfoldable pub shortened_fault_for : ℕ → ℕ → ℕ → List ℕ → ℕ
shortened_fault_for t r s w = pick (fits_word t r s (length w)) (fault (moduli_for t r) (fill s w)) 0

-- a message of its length is encoded where an output has room for a word and no byte is above 1; the lowest place of one is told
abbrev pub fits_encoding : ℕ → ℕ → ℕ → List ℕ → List ℕ → Bool
fits_encoding t r s m old = fits_message t r s (length m) && leb (places_of t - s) (length old)

unfoldable pub encode_bad_for : ℕ → ℕ → ℕ → List ℕ → List ℕ → ℕ
encode_bad_for t r s m old = pick (fits_encoding t r s m old) (bad_from 1 m) 0

unfoldable pub shortened_encode_for : ℕ → ℕ → ℕ → List ℕ → List ℕ → List ℕ
shortened_encode_for t r s m old =
    written (fits_encoding t r s m old && eqb (bad_from 1 m) 0) (places_of t - s) (shortened_encode (moduli_for t r) s m) old

unfoldable pub shortened_combine_for : ℕ → ℕ → ℕ → List ℕ → List ℕ → List ℕ → List ℕ
shortened_combine_for t r s x y old =
    written (fits_word t r s (length x) && (fits_word t r s (length y) && leb (places_of t - s) (length old))) (places_of t - s) (shortened_combine (moduli_for t r) s x y) old

unfoldable pub shortened_invert_for : ℕ → ℕ → ℕ → List ℕ → List ℕ → List ℕ
shortened_invert_for t r s w old =
    written (fits_word t r s (length w) && leb (places_of t - s) (length old)) (places_of t - s) (shortened_inverse (moduli_for t r) s w) old

-- 1 for a binary place, 2 for a place of a pair, or 0
unfoldable pub shortened_width_for : ℕ → ℕ → ℕ → ℕ → ℕ
shortened_width_for t r s p = pick (allowed_for t r s) (shortened_width (moduli_for t r) s p) 0

-- whether p is a place
abbrev pub is_shortened_place : ℕ → ℕ → ℕ → Bool
is_shortened_place t s p = leb 1 p && leb p (places_of t - s)

-- the third place, by its old number, or 0 where i and j are not two places
unfoldable pub shortened_third_for : ℕ → ℕ → ℕ → ℕ → ℕ → ℕ
shortened_third_for t r s i j =
    pick (allowed_for t r s && (is_shortened_place t s i && (is_shortened_place t s j && not (eqb i j)))) (third_old_place (moduli_for t r) s i j) 0
