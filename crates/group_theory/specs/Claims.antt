-- What the theorems on the group say: `group_laws : Groups`, for every list of moduli, `moduli-are : Moduli` (proofs/Theorem),
-- `unit-elements : UnitElements` (proofs/Components) and `size-moduli : Sizes` (proofs/Numbers). "The coder relies on its stated laws, never on
-- how it adds." (document 01). Assumes nothing.
use Rattle.std.specs.Prelude.{◌≡◌, ◌≢◌, ◌↔◌, true, List, ℕ, ◌+◌, ◌-◌, ◌*◌, ◌/◌, ◌%◌, ◌^◌, ◌<◌, ◌≤◌, length, get_or}
use Rattle.group_theory.specs.Group.{Modulus, one, two, four, radix, moduli, Valid, zeros, sum, negative, times, number, element, size}
use Rattle.group_theory.specs.Sign.{is_unit, lead}

-- the first odd quaternary component stands at index i: the quaternary components before it are even
abbrev pub FirstOdd : List Modulus → List ℕ → ℕ → Type 0
FirstOdd ms e i =
    (get_or ms i one ≡ four) × (get_or e i 0 % 2 ≡ 1) × ((j : ℕ) → j < i → get_or ms j one ≡ four → get_or e j 0 % 2 ≡ 0)

pub record GroupLaws (ms : List Modulus) : Type 0 where
  -- "Numbers run from 0 to n.": each number below the size is that of one element
  pub numbers : (e : List ℕ) → Valid ms e → (number ms e < size ms) × (element ms (number ms e) ≡ e)
  pub elements : (x : ℕ) → x < size ms → Valid ms (element ms x) × (number ms (element ms x) ≡ x)
  -- added component by component, each by its modulus: an abelian group, in which four times an element is zero
  pub adds : (x y : List ℕ) (i : ℕ) → i < length ms → get_or (sum ms x y) i 0 ≡ (get_or x i 0 + get_or y i 0) % radix (get_or ms i one)
  pub closed : (x y : List ℕ) → Valid ms (sum ms x y) × Valid ms (negative ms x)
  pub commutes : (x y : List ℕ) → sum ms x y ≡ sum ms y x
  pub associates : (x y z : List ℕ) → sum ms (sum ms x y) z ≡ sum ms x (sum ms y z)
  pub neutral : (x : List ℕ) → Valid ms x → sum ms (zeros ms) x ≡ x
  pub inverts : (x : List ℕ) → sum ms x (negative ms x) ≡ zeros ms
  pub four_times : (x : List ℕ) → times ms 4 x ≡ zeros ms
  -- the elements of order 2, and zero, are those whose quaternary components are even; of z and −z one has the sign 1 and the other 3
  pub order : (x : List ℕ) → Valid ms x → (negative ms x ≡ x) ↔ (times ms 2 x ≡ zeros ms)
  pub even : (x : List ℕ) → Valid ms x → (negative ms x ≡ x) ↔ (lead ms x ≡ 0)
  pub turned : (x : List ℕ) → Valid ms x → lead ms (negative ms x) ≡ (4 - lead ms x) % 4
  -- where the sign is not 0 it is the first odd quaternary component
  pub first : (x : List ℕ) → Valid ms x → lead ms x ≢ 0 → (i : ℕ) × FirstOdd ms x i × (get_or x i 0 ≡ lead ms x)

abbrev pub Groups : Type 0
Groups = (ms : List Modulus) → GroupLaws ms

-- a unit element: one component is 1, every other 0
abbrev pub UnitAt : List ℕ → ℕ → Type 0
UnitAt e i = (get_or e i 0 ≡ 1) × ((j : ℕ) → j ≢ i → get_or e j 0 ≡ 0)

abbrev pub UnitElements : Type 0
UnitElements = (e : List ℕ) → (is_unit e ≡ true) ↔ ((i : ℕ) × UnitAt e i)

-- "The group has a components modulo 2, then b components modulo 4."; further ones, up to twelve, are modulo 1
pub record ModuliOf (a b : ℕ) : Type 0 where
  pub twelve : length (moduli a b) ≡ 12
  pub binary : (i : ℕ) → i < a → get_or (moduli a b) i one ≡ two
  pub quaternary : (i : ℕ) → i < b → get_or (moduli a b) (a + i) one ≡ four
  pub others : (i : ℕ) → get_or (moduli a b) (a + b + i) one ≡ one
  -- "Its number is u1 + 2·u2 + .. over the binary components, plus 2^a times (q1 + 4·q2 + ..) over the quaternary ones.": the components of the
  -- element that has the number x are its digits
  pub binary_digit : (x i : ℕ) → i < a → get_or (element (moduli a b) x) i 0 ≡ x / 2 ^ i % 2
  pub quaternary_digit : (x i : ℕ) → i < b → get_or (element (moduli a b) x) (a + i) 0 ≡ x / 2 ^ a / 4 ^ i % 4

abbrev pub Moduli : Type 0
Moduli = (a b : ℕ) → a + b ≤ 12 → ModuliOf a b

-- and 2^(a + 2b) elements
abbrev pub Sizes : Type 0
Sizes = (a b : ℕ) → a + b ≤ 12 → size (moduli a b) ≡ 2 ^ (a + 2 * b)
