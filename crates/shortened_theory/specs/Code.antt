-- Request C-17: "the first s message places are fixed at 0 and left out, and places are renumbered from 1". A word of the shortened code is
-- filled with s zeros in front; what is done to it is what the whole code does to the filled word, and the first s places are dropped again.
-- With s = 0 each definition is that of words_theory (`whole`). Assumes nothing.
use Rattle.std.specs.Prelude.{Bool, ◌&&◌, List, ◌++◌, ℕ, zero, suc, ◌+◌, ◌-◌, ◌<◌, ◌≤◌, leb, drop}
use Rattle.group_theory.specs.Group.{Modulus}
use Rattle.layout_theory.specs.Layout.{slots, element_at}
use Rattle.words_theory.specs.Words.{zero_word}
use Rattle.words_theory.specs.Words as words
use Rattle.words_theory.specs.Syndrome as syndromes
use Rattle.words_theory.specs.Halves as halves
use Rattle.words_theory.specs.Coding as coding

-- "the first s message places are fixed at 0"
abbrev pub fill : ℕ → List ℕ → List ℕ
fill s w = zero_word s ++ w

-- "places are renumbered from 1": the number that place p had, and the one that place q gets; place 0 is none, before and after
abbrev pub old_place : ℕ → ℕ → ℕ
old_place s zero = 0
old_place s (suc i) = suc i + s

abbrev pub new_place : ℕ → ℕ → ℕ
new_place s q = q - s

-- "a left-out place", by its old number, as a statement and as a test
abbrev pub LeftOut : ℕ → ℕ → Type 0
LeftOut s q = (0 < q) × (q ≤ s)

abbrev pub is_left_out : ℕ → ℕ → Bool
is_left_out s q = leb 1 q && leb q s

-- ---- the shortened code
abbrev pub ShortenedCodeword : List Modulus → ℕ → List ℕ → Type 0
ShortenedCodeword ms s w = syndromes.Codeword ms (fill s w)

unfoldable pub shortened_syndrome : List Modulus → ℕ → List ℕ → List ℕ
shortened_syndrome ms s w = syndromes.syndrome ms (fill s w)

abbrev pub is_shortened_codeword : List Modulus → ℕ → List ℕ → Bool
is_shortened_codeword ms s w = coding.is_codeword ms (fill s w)

unfoldable pub shortened_element_at : List Modulus → ℕ → ℕ → List ℕ
shortened_element_at ms s p = element_at ms (old_place s p)

unfoldable pub shortened_encode : List Modulus → ℕ → List ℕ → List ℕ
shortened_encode ms s m = drop s (coding.encode ms (fill s m))

unfoldable pub shortened_combine : List Modulus → ℕ → List ℕ → List ℕ → List ℕ
shortened_combine ms s x y = drop s (words.combine (slots ms) (fill s x) (fill s y))

unfoldable pub shortened_inverse : List Modulus → ℕ → List ℕ → List ℕ
shortened_inverse ms s w = drop s (words.inverse (slots ms) (fill s w))

-- ---- correction: the place that changes in the filled word, by its old number, may be left out; then no codeword is within one place of w
-- (`nearest`)
unfoldable pub corrected_old_place : List Modulus → ℕ → List ℕ → ℕ
corrected_old_place ms s w = coding.corrected_place ms (fill s w)

unfoldable pub shortened_corrected : List Modulus → ℕ → List ℕ → List ℕ
shortened_corrected ms s w = drop s (coding.corrected ms (fill s w))

unfoldable pub shortened_corrected_place : List Modulus → ℕ → List ℕ → ℕ
shortened_corrected_place ms s w = new_place s (corrected_old_place ms s w)

-- ---- the third place likewise
unfoldable pub third_old_place : List Modulus → ℕ → ℕ → ℕ → ℕ
third_old_place ms s i j = coding.third ms (old_place s i) (old_place s j)

unfoldable pub shortened_third : List Modulus → ℕ → ℕ → ℕ → ℕ
shortened_third ms s i j = new_place s (third_old_place ms s i j)

-- ---- binary places and pairs: a place is of the kind that it was before renumbering, and so is the other half of its pair
abbrev pub shortened_width : List Modulus → ℕ → ℕ → ℕ
shortened_width ms s p = halves.width (slots ms) (old_place s p)

abbrev pub is_shortened_binary : List Modulus → ℕ → ℕ → Bool
is_shortened_binary ms s p = halves.is_binary (slots ms) (old_place s p)

abbrev pub is_shortened_paired : List Modulus → ℕ → ℕ → Bool
is_shortened_paired ms s p = halves.is_paired (slots ms) (old_place s p)

abbrev pub shortened_other_half : List Modulus → ℕ → ℕ → ℕ
shortened_other_half ms s p = new_place s (halves.other_half (slots ms) (old_place s p))

abbrev pub shortened_moved : List Modulus → ℕ → List ℕ → ℕ → ℕ
shortened_moved ms s d p = new_place s (halves.moved (slots ms) (fill s d) (old_place s p))
