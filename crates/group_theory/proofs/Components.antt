-- The components of the element that has a number are the digits of that number, a binary ones, then quaternary ones; and what components a
-- unit has: `unit-elements`, whose statement is in specs/Claims. Assumes nothing.
use mathlib.Core.Path.{◌≡◌, refl, sym, ap, ◌∙◌}
use mathlib.Core.Logic.{◌≢◌}
use mathlib.Core.Bool.{true, false≢true}
use mathlib.Core.List.{List, [], ◌∷◌}
use Prim.Native.Nat.{ℕ, zero, suc, ◌+◌, ◌/◌, ◌%◌, ◌^◌, ◌<◌, ◌≤◌}
use native.Mathlib.Nat.{pow-succ', div-div-eq-div-mul}
use native.Mathlib.Omega.{arith}
use borrow.Author.Tests.{eqb-true}
use lib.Dec.{eqb}
use lib.ListN.{get_or}
use Rattle.group_theory.specs.Group.{moduli_of, moduli, element}
use Rattle.group_theory.specs.Sign.{all_zero, is_unit}
use Rattle.group_theory.specs.Claims.{UnitAt, UnitElements}
use Rattle.group_theory.proofs.Signs.{both}

-- one digit further on
further : (x b i : ℕ) → x / b / b ^ i ≡ x / b ^ suc i
further x b i = div-div-eq-div-mul x b (b ^ i) ∙ ap (λ (y : ℕ). x / y) (sym (pow-succ' b i))

binary-at : (n a b x i : ℕ) → a ≤ n → i < a → get_or (element (moduli_of n a b) x) i 0 ≡ x / 2 ^ i % 2
unfolding element
binary-at zero a b x i h k = absurd (omega arith)
binary-at (suc n) zero b x i h k = absurd (omega arith)
binary-at (suc n) (suc a) b x zero h k = omega arith
binary-at (suc n) (suc a) b x (suc i) h k = binary-at n a b (x / 2) i (omega arith) (omega arith) ∙ ap (λ (y : ℕ). y % 2) (further x 2 i)

fours-at : (n b x i : ℕ) → b ≤ n → i < b → get_or (element (moduli_of n 0 b) x) i 0 ≡ x / 4 ^ i % 4
unfolding element
fours-at zero b x i h k = absurd (omega arith)
fours-at (suc n) zero x i h k = absurd (omega arith)
fours-at (suc n) (suc b) x zero h k = omega arith
fours-at (suc n) (suc b) x (suc i) h k = fours-at n b (x / 4) i (omega arith) (omega arith) ∙ ap (λ (y : ℕ). y % 4) (further x 4 i)

behind : (a i : ℕ) → suc a + i ≡ suc (a + i)
behind a i = omega arith

quaternary-at : (n a b x i : ℕ) → a + b ≤ n → i < b → get_or (element (moduli_of n a b) x) (a + i) 0 ≡ x / 2 ^ a / 4 ^ i % 4
unfolding element
quaternary-at n zero b x i h k =
    ap (λ (j : ℕ). get_or (element (moduli_of n 0 b) x) j 0) (omega arith) ∙ fours-at n b x i (omega arith) k ∙ ap (λ (y : ℕ). y / 4 ^ i % 4) (omega arith)
quaternary-at zero (suc a) b x i h k = absurd (omega arith)
quaternary-at (suc n) (suc a) b x i h k =
    ap (λ (j : ℕ). get_or (element (moduli_of (suc n) (suc a) b) x) j 0) (behind a i)
    ∙ quaternary-at n a b (x / 2) i (omega arith) k ∙ ap (λ (y : ℕ). y / 4 ^ i % 4) (further x 2 a)

module _ (a b : ℕ) (h : a + b ≤ 12) where
  pub binary-digit : (x i : ℕ) → i < a → get_or (element (moduli a b) x) i 0 ≡ x / 2 ^ i % 2
  unfolding moduli
  binary-digit x i k = binary-at 12 a b x i (omega arith) k

  pub quaternary-digit : (x i : ℕ) → i < b → get_or (element (moduli a b) x) (a + i) 0 ≡ x / 2 ^ a / 4 ^ i % 4
  unfolding moduli
  quaternary-digit x i k = quaternary-at 12 a b x i h k

-- ---- units
zero-at : (e : List ℕ) → all_zero e ≡ true → (j : ℕ) → get_or e j 0 ≡ 0
unfolding all_zero
zero-at [] h j = refl
zero-at (x ∷ e) h zero = eqb-true x 0 (both (eqb x 0) (all_zero e) h).0
zero-at (x ∷ e) h (suc j) = zero-at e (both (eqb x 0) (all_zero e) h).1 j

at_zero : (e : List ℕ) → ((j : ℕ) → get_or e j 0 ≡ 0) → all_zero e ≡ true
unfolding all_zero
at_zero [] h = refl
at_zero (zero ∷ e) h = at_zero e (λ j. h (suc j))
at_zero (suc x ∷ e) h = let z = h 0 in absurd (omega arith)

-- every component but that of index i is 0, with one more in front
after-zero : (e : List ℕ) (i : ℕ) → ((j : ℕ) → j ≢ i → get_or e j 0 ≡ 0) → (j : ℕ) → j ≢ suc i → get_or (0 ∷ e) j 0 ≡ 0
after-zero e i g zero n = refl
after-zero e i g (suc j) n = g j (λ z. n (ap suc z))

after_one : (e : List ℕ) → ((j : ℕ) → get_or e j 0 ≡ 0) → (j : ℕ) → j ≢ 0 → get_or (1 ∷ e) j 0 ≡ 0
after_one e g zero n = absurd (n refl)
after_one e g (suc j) n = g j

unit-at : (e : List ℕ) → is_unit e ≡ true → (i : ℕ) × UnitAt e i
unfolding is_unit
unit-at [] h = absurd (false≢true h)
unit-at (suc (suc x) ∷ e) h = absurd (false≢true h)
unit-at (zero ∷ e) h = let u = unit-at e h in (suc u.0, (u.1.0, after-zero e u.0 u.1.1))
unit-at (suc zero ∷ e) h = (0, (refl, after_one e (zero-at e h)))

at_unit : (e : List ℕ) (i : ℕ) → UnitAt e i → is_unit e ≡ true
unfolding is_unit
at_unit [] i u = absurd (omega (arith, u.0))
at_unit (x ∷ e) (suc i) u = go x (u.1 0 (omega arith)) (at_unit e i (u.0, λ j n. u.1 (suc j) (λ z. n (omega arith))))
  where
    go : (x : ℕ) → x ≡ 0 → is_unit e ≡ true → is_unit (x ∷ e) ≡ true
    go zero z y = y
    go (suc x) z y = absurd (omega arith)
at_unit (x ∷ e) zero u = go x u.0
  where
    go : (x : ℕ) → x ≡ 1 → is_unit (x ∷ e) ≡ true
    go zero z = absurd (omega arith)
    go (suc zero) z = at_zero e (λ j. u.1 (suc j) (omega arith))
    go (suc (suc x)) z = absurd (omega arith)

pub unit-elements : UnitElements
unit-elements e = (unit-at e, λ u. at_unit e u.0 u.1)
