-- Request C-12: "length n + 1, with a last place that makes the number of ones even", and by request C-17 "extended words follow suit": of a code
-- shortened by s an extended word has n − s + 1 places. Assumes nothing.
use Rattle.std.specs.Prelude.{◌≡◌, Bool, ◌&&◌, not, List, [], ◌∷◌, ◌++◌, ℕ, suc, ◌-◌, ◌%◌, take, drop}
use Rattle.group_theory.specs.Group.{Modulus}
use Rattle.layout_theory.specs.Choice.{pick}
use Rattle.words_theory.specs.Words.{Word, weight, is_odd, flip}
use Rattle.words_theory.specs.Syndrome.{length_of}
use Rattle.shortened_theory.specs.Code.{ShortenedCodeword, is_shortened_codeword, shortened_encode, shortened_corrected, shortened_corrected_place}

-- the number of the last place, n − s + 1; and the places before it, those of a word that is not extended
abbrev pub last_place : List Modulus → ℕ → ℕ
last_place ms s = suc (length_of ms - s)

abbrev pub front_of : List Modulus → ℕ → List ℕ → List ℕ
front_of ms s w = take (length_of ms - s) w

-- an extended codeword: its first n − s places are a codeword, and the number of ones is even
pub record ExtendedCodeword (ms : List Modulus) (s : ℕ) (w : List ℕ) : Type 0 where
  pub is_word : Word (last_place ms s) w
  pub front : ShortenedCodeword ms s (front_of ms s w)
  pub even : weight w % 2 ≡ 0

-- "a last place that makes the number of ones even"
abbrev pub extend : List ℕ → List ℕ
extend c = c ++ (weight c % 2 ∷ [])

unfoldable pub extended_encode : List Modulus → ℕ → List ℕ → List ℕ
extended_encode ms s m = extend (shortened_encode ms s m)

-- "Odd parity: correct the first n places, or flip place n + 1 if their syndrome is zero. Even parity and syndrome zero: clean.": the word, and
-- the place that changes
unfoldable pub extended_corrected : List Modulus → ℕ → List ℕ → List ℕ
extended_corrected ms s w =
    let v = front_of ms s w in
    pick (is_odd w) (pick (is_shortened_codeword ms s v) (flip (last_place ms s) w) (shortened_corrected ms s v ++ drop (length_of ms - s) w)) w

unfoldable pub extended_corrected_place : List Modulus → ℕ → List ℕ → ℕ
extended_corrected_place ms s w =
    let v = front_of ms s w in
    pick (is_odd w) (pick (is_shortened_codeword ms s v) (last_place ms s) (shortened_corrected_place ms s v)) 0

-- "a word of even parity and nonzero syndrome", which is two flips or more away from every extended codeword
abbrev pub is_even_fault : List Modulus → ℕ → List ℕ → Bool
is_even_fault ms s w = not (is_odd w) && not (is_shortened_codeword ms s (front_of ms s w))
