-- What the theorems on shortened codes say: `allowed-s : AllowedClaim` (proofs/Between), `shortened-code : ShortenedCodes` (proofs/Theorem) and
-- `whole : Whole` (proofs/Whole). Assumes nothing.
use Rattle.std.specs.Prelude.{◌≡◌, ◌≢◌, ◌↔◌, true, List, [], ◌++◌, ℕ, ◌-◌, ◌<◌, ◌≤◌, length, take, drop}
use Rattle.group_theory.specs.Group.{Modulus, sum, negative}
use Rattle.layout_theory.specs.Parameters.{Admitted, places_of, message_of, moduli_for}
use Rattle.layout_theory.specs.Layout.{Slot, message, slots, places, element_at}
use Rattle.words_theory.specs.Words.{Word, zero_word, flip, distance, weight}
use Rattle.words_theory.specs.Words as words
use Rattle.words_theory.specs.Syndrome.{length_of}
use Rattle.words_theory.specs.Syndrome as syndromes
use Rattle.words_theory.specs.Halves as halves
use Rattle.words_theory.specs.Coding.{ones_at}
use Rattle.words_theory.specs.Coding as coding
use Rattle.words_theory.specs.Claims.{message_length_of}
use Rattle.shortened_theory.specs.Allowed.{Allowed, allows}
use Rattle.shortened_theory.specs.Code.{fill, old_place, LeftOut, ShortenedCodeword, shortened_encode, shortened_combine, shortened_inverse, corrected_old_place, shortened_corrected, shortened_corrected_place, third_old_place, shortened_third, shortened_moved, shortened_syndrome, shortened_element_at, shortened_width, shortened_other_half}

-- s is 0 or ends where a slot of the message ends, so not within a pair, and at least one slot is kept. For admitted t and r these are the
-- allowed s (`allowed-s`)
pub record EndsBetween (ms : List Modulus) (s : ℕ) : Type 0 where
  pub gone : List Slot
  pub kept : List Slot
  pub whole : message ms ≡ gone ++ kept
  pub ends : length (places ms gone) ≡ s
  pub stays : kept ≢ []

-- which s are allowed: the test says so, and these are the s that end between two slots of the message; 0 is one of them
pub record AllowedClaim : Type 0 where
  pub test : (t r s : ℕ) → (allows t r s ≡ true) ↔ Allowed t r s
  pub between : (t r s : ℕ) → Admitted t r → Allowed t r s ↔ EndsBetween (moduli_for t r) s
  pub zero : (t r : ℕ) → Admitted t r → Allowed t r 0

-- with s = 0 the shortened code is the code
pub record WholeOf (ms : List Modulus) : Type 0 where
  pub codeword : (w : List ℕ) → ShortenedCodeword ms 0 w ↔ syndromes.Codeword ms w
  pub syndrome : (w : List ℕ) → shortened_syndrome ms 0 w ≡ syndromes.syndrome ms w
  pub element : (p : ℕ) → shortened_element_at ms 0 p ≡ element_at ms p
  pub encode : (m : List ℕ) → shortened_encode ms 0 m ≡ coding.encode ms m
  pub combine : (x y : List ℕ) → shortened_combine ms 0 x y ≡ words.combine (slots ms) x y
  pub inverse : (w : List ℕ) → shortened_inverse ms 0 w ≡ words.inverse (slots ms) w
  pub corrected : (w : List ℕ) → shortened_corrected ms 0 w ≡ coding.corrected ms w
  pub place : (w : List ℕ) → shortened_corrected_place ms 0 w ≡ coding.corrected_place ms w
  pub third : (i j : ℕ) → shortened_third ms 0 i j ≡ coding.third ms i j
  pub width : (p : ℕ) → shortened_width ms 0 p ≡ halves.width (slots ms) p
  pub other : (p : ℕ) → shortened_other_half ms 0 p ≡ halves.other_half (slots ms) p
  pub moved : (d : List ℕ) (p : ℕ) → shortened_moved ms 0 d p ≡ halves.moved (slots ms) d p
  pub left_out : (q : ℕ) → LeftOut 0 q → ⊥

-- filling and dropping are inverse to each other on words whose first s places are 0
pub record Fills (s : ℕ) : Type 0 where
  pub dropped : (w : List ℕ) → drop s (fill s w) ≡ w
  pub filled : (w : List ℕ) → take s w ≡ zero_word s → fill s (drop s w) ≡ w

-- combining, inverse and flipping are those of the filled words: nothing but zeros is dropped
pub record Commutes (ms : List Modulus) (s : ℕ) : Type 0 where
  pub combines : (x y : List ℕ) → fill s (shortened_combine ms s x y) ≡ words.combine (slots ms) (fill s x) (fill s y)
  pub inverts : (w : List ℕ) → fill s (shortened_inverse ms s w) ≡ words.inverse (slots ms) (fill s w)
  pub flips : (p : ℕ) (w : List ℕ) → fill s (flip p w) ≡ flip (old_place s p) (fill s w)

-- so that combining is an abelian group law on the words of n − s bits, the syndrome a homomorphism to the group of elements, the word with a
-- single 1 at place p has the element of p, and the codewords are closed
pub record ShortenedGroupOf (ms : List Modulus) (s : ℕ) : Type 0 where
  pub closed : (x y : List ℕ) → Word (length_of ms - s) x → Word (length_of ms - s) y → Word (length_of ms - s) (shortened_combine ms s x y)
  pub commutes : (x y : List ℕ) → shortened_combine ms s x y ≡ shortened_combine ms s y x
  pub associates : (x y z : List ℕ) → shortened_combine ms s (shortened_combine ms s x y) z ≡ shortened_combine ms s x (shortened_combine ms s y z)
  pub neutral : (x : List ℕ) → Word (length_of ms - s) x → shortened_combine ms s x (zero_word (length_of ms - s)) ≡ x
  pub inverts : (x : List ℕ) → Word (length_of ms - s) x
      → Word (length_of ms - s) (shortened_inverse ms s x) × (shortened_combine ms s x (shortened_inverse ms s x) ≡ zero_word (length_of ms - s))
  pub adds : (x y : List ℕ) → Word (length_of ms - s) x → Word (length_of ms - s) y
      → shortened_syndrome ms s (shortened_combine ms s x y) ≡ sum ms (shortened_syndrome ms s x) (shortened_syndrome ms s y)
  pub negates : (x : List ℕ) → Word (length_of ms - s) x → shortened_syndrome ms s (shortened_inverse ms s x) ≡ negative ms (shortened_syndrome ms s x)
  pub ones : (p : ℕ) → p ≤ length_of ms - s → shortened_syndrome ms s (flip p (zero_word (length_of ms - s))) ≡ shortened_element_at ms s p
  pub sums : (x y : List ℕ) → ShortenedCodeword ms s x → ShortenedCodeword ms s y → ShortenedCodeword ms s (shortened_combine ms s x y)

-- at most one codeword is within one place of w. There is one exactly where the code's correction of the filled word does not fall in
-- a left-out place, and then it is that, and the place is that, renumbered
pub record NearestTo (ms : List Modulus) (s : ℕ) (w : List ℕ) : Type 0 where
  pub only : (c : List ℕ) → ShortenedCodeword ms s c → distance c w ≤ 1 → c ≡ shortened_corrected ms s w
  pub none : LeftOut s (corrected_old_place ms s w) → (c : List ℕ) → ShortenedCodeword ms s c → distance c w ≤ 1 → ⊥
  pub codeword : (LeftOut s (corrected_old_place ms s w) → ⊥) → ShortenedCodeword ms s (shortened_corrected ms s w)
  pub near : (LeftOut s (corrected_old_place ms s w) → ⊥) → distance (shortened_corrected ms s w) w ≤ 1
  -- the place told: flipped there, w is that codeword, and flipped at any other place it is none; flipped at place 0 it is w itself
  pub renumbered : (LeftOut s (corrected_old_place ms s w) → ⊥) → old_place s (shortened_corrected_place ms s w) ≡ corrected_old_place ms s w
  pub within : shortened_corrected_place ms s w ≤ length_of ms - s
  pub flipped : (LeftOut s (corrected_old_place ms s w) → ⊥) → shortened_corrected ms s w ≡ flip (shortened_corrected_place ms s w) w
  pub place : (p : ℕ) → p ≤ length_of ms - s → ShortenedCodeword ms s (flip p w)
      → (LeftOut s (corrected_old_place ms s w) → ⊥) × (p ≡ shortened_corrected_place ms s w)

-- encoding gives the one codeword that begins with the message
pub record ShortenedEncodingOf (ms : List Modulus) (s : ℕ) (m : List ℕ) : Type 0 where
  pub codeword : ShortenedCodeword ms s (shortened_encode ms s m)
  pub begins : take (message_length_of ms - s) (shortened_encode ms s m) ≡ m
  pub only : (c : List ℕ) → ShortenedCodeword ms s c → take (message_length_of ms - s) c ≡ m → c ≡ shortened_encode ms s m

-- combining with a codeword d carries correction along, and w has a codeword within one place exactly where d combined with w has
pub record ShortenedCarriedBy (ms : List Modulus) (s : ℕ) (d w : List ℕ) : Type 0 where
  pub both : LeftOut s (corrected_old_place ms s (shortened_combine ms s d w)) ↔ LeftOut s (corrected_old_place ms s w)
  pub corrects : (LeftOut s (corrected_old_place ms s w) → ⊥) → shortened_corrected ms s (shortened_combine ms s d w) ≡ shortened_combine ms s d (shortened_corrected ms s w)
  pub place : (LeftOut s (corrected_old_place ms s w) → ⊥) → shortened_corrected_place ms s (shortened_combine ms s d w) ≡ shortened_moved ms s d (shortened_corrected_place ms s w)

-- k makes a codeword of weight 3 with i and j
pub record ShortenedThreeAt (ms : List Modulus) (s i j k : ℕ) : Type 0 where
  pub least : 0 < k
  pub most : k ≤ length_of ms - s
  pub codeword : ShortenedCodeword ms s (ones_at (length_of ms - s) i j k)
  pub weighs : weight (ones_at (length_of ms - s) i j k) ≡ 3

-- at most one does, and one does exactly where the whole code's third place is not left out
pub record ShortenedThirdOf (ms : List Modulus) (s i j : ℕ) : Type 0 where
  pub makes : (LeftOut s (third_old_place ms s i j) → ⊥) → ShortenedThreeAt ms s i j (shortened_third ms s i j)
  pub only : (k : ℕ) → ShortenedThreeAt ms s i j k → (LeftOut s (third_old_place ms s i j) → ⊥) × (k ≡ shortened_third ms s i j)
  pub symmetric : shortened_third ms s i j ≡ shortened_third ms s j i

-- all of it for the code with t and r shortened by s: words of n − s bits and messages of n − t − s
pub record ShortenedOf (t r s : ℕ) : Type 0 where
  pub fills : Fills s
  pub commutes : Commutes (moduli_for t r) s
  pub groups : ShortenedGroupOf (moduli_for t r) s
  pub nearest : (w : List ℕ) → Word (places_of t - s) w → NearestTo (moduli_for t r) s w
  pub encodes : (m : List ℕ) → Word (message_of t - s) m → ShortenedEncodingOf (moduli_for t r) s m
  pub encoded : (c : List ℕ) → ShortenedCodeword (moduli_for t r) s c
      → Word (message_of t - s) (take (message_of t - s) c) × (c ≡ shortened_encode (moduli_for t r) s (take (message_of t - s) c))
  pub carries : (d w : List ℕ) → ShortenedCodeword (moduli_for t r) s d → Word (places_of t - s) w → ShortenedCarriedBy (moduli_for t r) s d w
  pub thirds : (i j : ℕ) → 0 < i → i ≤ places_of t - s → 0 < j → j ≤ places_of t - s → i ≢ j → ShortenedThirdOf (moduli_for t r) s i j

abbrev pub Whole : Type 0
Whole = (ms : List Modulus) → WholeOf ms

abbrev pub ShortenedCodes : Type 0
ShortenedCodes = (t r s : ℕ) → Admitted t r → Allowed t r s → ShortenedOf t r s
