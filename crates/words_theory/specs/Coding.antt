-- Document 01, "Words": encoding, correction, and the third place. Assumes nothing.
use Rattle.std.specs.Prelude.{Bool, ◌&&◌, List, [], ◌∷◌, ◌++◌, ℕ, suc, ◌-◌, eqb}
use Rattle.group_theory.specs.Group.{Modulus, one, two, four, hd, tl, negative}
use Rattle.group_theory.specs.Sign.{same, all_zero}
use Rattle.layout_theory.specs.Choice.{pick, least}
use Rattle.layout_theory.specs.Layout.{Slot, single, pair, message, slots}
use Rattle.words_theory.specs.Digits.{gray, digit, less}
use Rattle.words_theory.specs.Words.{zero_word, weight, flip}
use Rattle.words_theory.specs.Syndrome.{syndrome_over, syndrome, length_of}

-- "Encoding: the message, then the check digits that make the syndrome zero." The check slots are the units, so that their digits are the
-- components of an element, here of minus the message's part of the syndrome.
unfoldable pub check_digits : List Modulus → List ℕ → List ℕ
check_digits [] e = []
check_digits (one ∷ ms) e = check_digits ms (tl e)
check_digits (two ∷ ms) e = hd e ∷ check_digits ms (tl e)
check_digits (four ∷ ms) e = gray (hd e) (check_digits ms (tl e))

unfoldable pub encode : List Modulus → List ℕ → List ℕ
encode ms m = m ++ check_digits ms (negative ms (syndrome_over ms (message ms) m))

-- the test of a word: "A codeword is a word of syndrome zero."
abbrev pub is_codeword : List Modulus → List ℕ → Bool
is_codeword ms w = all_zero (syndrome ms w)

-- "A syndrome of order 2 flips the binary place having it. One that is z or −z subtracts 1 or 3 from that pair's digit": s is the syndrome
unfoldable pub correct_over : List Modulus → List ℕ → List Slot → List ℕ → List ℕ
correct_over ms s [] w = w
correct_over ms s (single e ∷ sl) w = pick (same e s) ((1 - hd w) ∷ tl w) (hd w ∷ correct_over ms s sl (tl w))
correct_over ms s (pair z ∷ sl) w =
    let d = digit (hd w) (hd (tl w)) in
    pick (same z s) (gray (less d 1) (tl (tl w)))
    (pick (same (negative ms z) s) (gray (less d 3) (tl (tl w))) (hd w ∷ hd (tl w) ∷ correct_over ms s sl (tl (tl w))))

-- "Correction: syndrome zero gives place 0 and the word itself."
unfoldable pub corrected : List Modulus → List ℕ → List ℕ
corrected ms w = pick (is_codeword ms w) w (correct_over ms (syndrome ms w) (slots ms) w)

-- "the place given is the one that changes": the first place, counted from p, where w and c differ, or 0
unfoldable pub changed_from : ℕ → List ℕ → List ℕ → ℕ
changed_from p [] c = 0
changed_from p (b ∷ w) c = pick (eqb b (hd c)) (changed_from (suc p) w (tl c)) p

unfoldable pub corrected_place : List Modulus → List ℕ → ℕ
corrected_place ms w = changed_from 1 w (corrected ms w)

-- "Third place: for places i and j, the one place that makes a codeword of weight 3 with them."
abbrev pub ones_at : ℕ → ℕ → ℕ → ℕ → List ℕ
ones_at n i j k = flip k (flip j (flip i (zero_word n)))

abbrev pub makes_three : List Modulus → ℕ → ℕ → ℕ → Bool
makes_three ms i j k = is_codeword ms (ones_at (length_of ms) i j k) && eqb (weight (ones_at (length_of ms) i j k)) 3

unfoldable pub third : List Modulus → ℕ → ℕ → ℕ
third ms i j = least (makes_three ms i j) 1 (length_of ms)
