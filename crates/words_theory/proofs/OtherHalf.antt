-- The other half of a pair, by index: the map is its own inverse, stays among the places, takes an element to its negative, and is what
-- `inverse` does to a word; and where it leads in each part of the layout. Assumes nothing.
use mathlib.Core.Path.{◌≡◌, refl, sym, ap, ap₂, ◌∙◌}
use mathlib.Core.List.{List, [], ◌∷◌, ◌++◌, map}
use Prim.Native.Nat.{ℕ, zero, suc, ◌+◌, ◌-◌, ◌*◌, ◌/◌, ◌%◌, ◌<◌, ◌≤◌}
use native.Mathlib.Omega.{arith}
use lib.ListN.{length, get_or}
use Rattle.group_theory.specs.Group.{Modulus, moduli_of, moduli, tl, zeros, negative}
use Rattle.group_theory.proofs.Laws.{negative-negative, negative-zeros}
use Rattle.layout_theory.specs.Layout.{Slot, single, pair, singles, pairs, zero_first, units, message, slots, places}
use Rattle.layout_theory.specs.Claims.{Good}
use Rattle.layout_theory.specs.Parts.{Located}
use Rattle.layout_theory.proofs.Cover.{places-singles}
use Rattle.layout_theory.proofs.Sizes.{length-message}
use Rattle.words_theory.specs.Words.{inverse}
use Rattle.words_theory.specs.Halves.{other_at}
use Rattle.words_theory.proofs.Syndromes.{hd-drop}

-- ---- any slots
pub other-other : (sl : List Slot) (i : ℕ) → other_at sl (other_at sl i) ≡ i
unfolding other_at
other-other [] i = refl
other-other (single e ∷ sl) zero = refl
other-other (single e ∷ sl) (suc i) = ap suc (other-other sl i)
other-other (pair z ∷ sl) zero = refl
other-other (pair z ∷ sl) (suc zero) = refl
other-other (pair z ∷ sl) (suc (suc i)) = ap (λ (k : ℕ). suc (suc k)) (other-other sl i)

pub other-lt : (ms : List Modulus) (sl : List Slot) (i : ℕ) → i < length (places ms sl) → other_at sl i < length (places ms sl)
unfolding other_at places
other-lt ms [] i h = h
other-lt ms (single e ∷ sl) zero h = h
other-lt ms (single e ∷ sl) (suc i) h = let k = other-lt ms sl i (omega arith) in omega arith
other-lt ms (pair z ∷ sl) zero h = omega arith
other-lt ms (pair z ∷ sl) (suc zero) h = omega arith
other-lt ms (pair z ∷ sl) (suc (suc i)) h = let k = other-lt ms sl i (omega arith) in omega arith

-- the element of the other half is the negative; that of a single is its own
pub other-negative : (ms : List Modulus) (sl : List Slot) (i : ℕ) → Good ms sl
    → get_or (places ms sl) (other_at sl i) (zeros ms) ≡ negative ms (get_or (places ms sl) i (zeros ms))
unfolding other_at places
other-negative ms [] i g = sym (negative-zeros ms)
other-negative ms (single e ∷ sl) zero g = sym g.1
other-negative ms (single e ∷ sl) (suc i) g = other-negative ms sl i g.2
other-negative ms (pair z ∷ sl) zero g = sym (negative-negative ms z g.0)
other-negative ms (pair z ∷ sl) (suc zero) g = refl
other-negative ms (pair z ∷ sl) (suc (suc i)) g = other-negative ms sl i g.2

-- ---- the inverse of a word, by index
pub later-at : (w : List ℕ) (i : ℕ) → get_or (tl w) i 0 ≡ get_or w (suc i) 0
later-at [] i = refl
later-at (b ∷ w) i = refl

pub inverse-at : (ms : List Modulus) (sl : List Slot) (w : List ℕ) (i : ℕ) → i < length (places ms sl)
    → get_or (inverse sl w) i 0 ≡ get_or w (other_at sl i) 0
unfolding inverse other_at places
inverse-at ms [] w i h = absurd (omega arith)
inverse-at ms (single e ∷ sl) w zero h = hd-drop w 0
inverse-at ms (single e ∷ sl) w (suc i) h = inverse-at ms sl (tl w) i (omega arith) ∙ later-at w (other_at sl i)
inverse-at ms (pair z ∷ sl) w zero h = hd-drop (tl w) 0 ∙ later-at w 0
inverse-at ms (pair z ∷ sl) w (suc zero) h = hd-drop w 0
inverse-at ms (pair z ∷ sl) w (suc (suc i)) h =
    inverse-at ms sl (tl (tl w)) i (omega arith) ∙ later-at (tl w) (other_at sl i) ∙ later-at w (suc (other_at sl i))

pub length-inverse : (ms : List Modulus) (sl : List Slot) (w : List ℕ) → length (inverse sl w) ≡ length (places ms sl)
unfolding inverse places
length-inverse ms [] w = refl
length-inverse ms (single e ∷ sl) w = ap suc (length-inverse ms sl (tl w))
length-inverse ms (pair z ∷ sl) w = ap (λ (n : ℕ). suc (suc n)) (length-inverse ms sl (tl (tl w)))

-- ---- slots in two parts
other-front : (ms : List Modulus) (sl sk : List Slot) (i : ℕ) → i < length (places ms sl) → other_at (sl ++ sk) i ≡ other_at sl i
unfolding other_at places
other-front ms [] sk i h = absurd (omega arith)
other-front ms (single e ∷ sl) sk zero h = refl
other-front ms (single e ∷ sl) sk (suc i) h = ap suc (other-front ms sl sk i (omega arith))
other-front ms (pair z ∷ sl) sk zero h = refl
other-front ms (pair z ∷ sl) sk (suc zero) h = refl
other-front ms (pair z ∷ sl) sk (suc (suc i)) h = ap (λ (k : ℕ). suc (suc k)) (other-front ms sl sk i (omega arith))

other-back : (ms : List Modulus) (sl sk : List Slot) (i : ℕ) → other_at (sl ++ sk) (length (places ms sl) + i) ≡ length (places ms sl) + other_at sk i
unfolding other_at places
other-back ms [] sk i = let e : 0 + i ≡ i = omega arith in rw e (omega arith)
other-back ms (single e ∷ sl) sk i =
    let n = length (places ms sl) in
    let e : suc n + i ≡ suc (n + i) = omega arith in
    rw e (ap suc (other-back ms sl sk i) ∙ omega arith)
other-back ms (pair z ∷ sl) sk i =
    let n = length (places ms sl) in
    let e : suc (suc n) + i ≡ suc (suc (n + i)) = omega arith in
    rw e (ap (λ (k : ℕ). suc (suc k)) (other-back ms sl sk i) ∙ omega arith)

-- ---- slots of one kind
other-single : (xs : List (List ℕ)) (i : ℕ) → other_at (map single xs) i ≡ i
unfolding other_at
other-single [] i = refl
other-single (x ∷ xs) zero = refl
other-single (x ∷ xs) (suc i) = ap suc (other-single xs i)

-- the other of the indexes 2j and 2j + 1
abbrev pub swapped : ℕ → ℕ
swapped i = 2 * (i / 2) + (1 - i % 2)

swapped-later : (i : ℕ) → suc (suc (swapped i)) ≡ swapped (suc (suc i))
swapped-later i = omega arith

other-pair : (xs : List (List ℕ)) (i : ℕ) → i < 2 * length xs → other_at (map pair xs) i ≡ swapped i
unfolding other_at
other-pair [] i h = absurd (omega arith)
other-pair (x ∷ xs) zero h = refl
other-pair (x ∷ xs) (suc zero) h = refl
other-pair (x ∷ xs) (suc (suc i)) h = ap (λ (k : ℕ). suc (suc k)) (other-pair xs i (omega arith)) ∙ swapped-later i

other-under : (sl : List Slot) (i : ℕ) → other_at (map zero_first sl) i ≡ other_at sl i
unfolding other_at
other-under [] i = refl
other-under (single e ∷ sl) zero = refl
other-under (single e ∷ sl) (suc i) = ap suc (other-under sl i)
other-under (pair z ∷ sl) zero = refl
other-under (pair z ∷ sl) (suc zero) = refl
other-under (pair z ∷ sl) (suc (suc i)) = ap (λ (k : ℕ). suc (suc k)) (other-under sl i)

-- ---- the units: a singles, then b pairs
unit-single : (n a b i : ℕ) → a + b ≤ n → i < a → other_at (units (moduli_of n a b)) i ≡ i
unfolding other_at units
unit-single n zero b i h k = absurd (omega arith)
unit-single zero (suc a) b i h k = absurd (omega arith)
unit-single (suc n) (suc a) b zero h k = refl
unit-single (suc n) (suc a) b (suc i) h k =
    ap suc (other-under (units (moduli_of n a b)) i ∙ unit-single n a b i (omega arith) (omega arith))

unit-pair : (n a b i : ℕ) → a + b ≤ n → i < 2 * b → other_at (units (moduli_of n a b)) (a + i) ≡ a + swapped i
unfolding other_at units
unit-pair n a zero i h k = absurd (omega arith)
unit-pair zero a (suc b) i h k = absurd (omega arith)
unit-pair (suc n) zero (suc b) zero h k = refl
unit-pair (suc n) zero (suc b) (suc zero) h k = refl
unit-pair (suc n) zero (suc b) (suc (suc i)) h k =
    let e : 0 + suc (suc i) ≡ suc (suc (0 + i)) = omega arith in
    rw e
    (ap (λ (k : ℕ). suc (suc k)) (other-under (units (moduli_of n 0 b)) (0 + i) ∙ unit-pair n 0 b i (omega arith) (omega arith)) ∙ omega arith)
unit-pair (suc n) (suc a) (suc b) i h k =
    let e : suc a + i ≡ suc (a + i) = omega arith in
    rw e (ap suc (other-under (units (moduli_of n a (suc b))) (a + i) ∙ unit-pair n a (suc b) i (omega arith) (omega arith)) ∙ omega arith)

-- ---- the layout of a shape, part by part: the pairs of part 2 begin after part 1, those of part 4 after the a places of part 3
module _ (a b part front : ℕ) (l : Located a b part front) where
  abbrev ms : List Modulus
  ms = moduli a b

  first_part : length (places ms (map single (singles ms))) ≡ part
  first_part = ap length (places-singles ms (singles ms)) ∙ sym l.part

  message-part : length (places ms (message ms)) ≡ front
  message-part = length-message ms ∙ sym l.front

  -- an index of the message, and one of the check part
  in-message : (i : ℕ) → i < front → other_at (slots ms) i ≡ other_at (message ms) i
  unfolding slots
  in-message i h = other-front ms (message ms) (units ms) i (omega (arith, message-part))

  in-check : (i : ℕ) → front ≤ i → other_at (slots ms) i ≡ front + other_at (units ms) (i - front)
  unfolding slots
  in-check i h =
      let e : i ≡ length (places ms (message ms)) + (i - front) = omega (arith, message-part) in
      ap (other_at (message ms ++ units ms)) e
      ∙ other-back ms (message ms) (units ms) (i - front)
      ∙ ap (λ (n : ℕ). n + other_at (units ms) (i - front)) message-part

  pub other-one : (i : ℕ) → i < part → other_at (slots (moduli a b)) i ≡ i
  unfolding message
  other-one i h =
      in-message i (omega (arith, l.part, l.front))
      ∙ other-front ms (map single (singles ms)) (map pair (pairs ms)) i (omega (arith, first_part))
      ∙ other-single (singles ms) i

  pub other-two : (i : ℕ) → part ≤ i → i < front → other_at (slots (moduli a b)) i ≡ part + swapped (i - part)
  unfolding message
  other-two i h k =
      let e : i ≡ length (places ms (map single (singles ms))) + (i - part) = omega (arith, first_part) in
      in-message i k
      ∙ ap (other_at (map single (singles ms) ++ map pair (pairs ms))) e
      ∙ other-back ms (map single (singles ms)) (map pair (pairs ms)) (i - part)
      ∙ ap₂ ◌+◌ first_part (other-pair (pairs ms) (i - part) (omega (arith, l.part, l.front)))

  pub other-three : (i : ℕ) → front ≤ i → i < front + a → other_at (slots (moduli a b)) i ≡ i
  unfolding moduli
  other-three i h k =
      in-check i h ∙ ap (λ (n : ℕ). front + n) (unit-single 12 a b (i - front) l.room (omega arith)) ∙ omega arith

  pub other-four : (i : ℕ) → front + a ≤ i → i < front + a + 2 * b
      → other_at (slots (moduli a b)) i ≡ front + a + swapped (i - (front + a))
  unfolding moduli
  other-four i h k =
      let e : i - front ≡ a + (i - (front + a)) = omega arith in
      in-check i (omega arith)
      ∙ ap (λ (n : ℕ). front + other_at (units ms) n) e
      ∙ ap (λ (n : ℕ). front + n) (unit-pair 12 a b (i - (front + a)) l.room (omega arith))
      ∙ sum_of front a (swapped (i - (front + a)))
    where
      sum_of : (x y z : ℕ) → x + (y + z) ≡ x + y + z
      sum_of x y z = omega arith
