-- The parts of the layout, for every list of moduli: each by rising number, units in the check alone, −z before z. Assumes nothing.
use mathlib.Core.Path.{◌≡◌, refl, sym, ap, subst}
use mathlib.Core.List.{List, [], ◌∷◌, map}
use mathlib.Core.Bool.{Bool, true, false, not, ◌&&◌}
use Prim.Native.Nat.{ℕ, zero, suc, ◌+◌, ◌-◌, ◌*◌, ◌%◌, ◌<◌, ◌≤◌}
use native.Mathlib.Omega.{arith}
use lib.Dec.{eqb}
use lib.ListN.{length, get_or}
use borrow.Author.Tests.{not-true}
use Rattle.group_theory.specs.Group.{Modulus, one, two, four, radix, zeros, sum, negative, number, element, size}
use Rattle.group_theory.specs.Sign.{same, is_unit, lead}
use Rattle.group_theory.proofs.Numbers.{number-element, number-zeros, size-pos}
use Rattle.group_theory.proofs.Signs.{both, own-even, zeros-all_zero}
use Rattle.layout_theory.specs.Layout.{Slot, single, pair, from, keep, elements, in_singles, singles, in_pairs, pairs, zero_first, units, message, slots, places}
use Rattle.layout_theory.specs.Claims.{Good, named, RisesFrom, AllUnits, PartsOf}
use Rattle.layout_theory.proofs.Lists.{keep-yes, keep-no}
use Rattle.layout_theory.proofs.Places.{good-slots}

lower : (m n : ℕ) (xs : List ℕ) → m ≤ n → RisesFrom n xs → RisesFrom m xs
lower m n [] h r = tt
lower m n (x ∷ xs) h r = (omega (arith, r.0), r.1)

-- ---- parts 1 and 2: what a test keeps of the numbers from a on
module _ (ms : List Modulus) (test : List ℕ → Bool) where
  kept : (a k : ℕ) → a + k ≤ size ms → RisesFrom a (map (number ms) (keep test (map (element ms) (from a k))))
  unfolding from keep
  kept a zero h = tt
  kept a (suc k) h = go (kept (suc a) k (omega arith)) (test (element ms a)) refl
    where
      rest : List (List ℕ)
      rest = map (element ms) (from (suc a) k)

      go : RisesFrom (suc a) (map (number ms) (keep test rest)) → (b : Bool) → test (element ms a) ≡ b → RisesFrom a (map (number ms) (keep test (element ms a ∷ rest)))
      go i true e =
          let n = number-element ms a (omega arith) in
          rw (keep-yes test (element ms a) rest e) (omega (arith, n), subst (λ (x : ℕ). RisesFrom (suc x) (map (number ms) (keep test rest))) (sym n) i)
      go i false e = rw (keep-no test (element ms a) rest e) (lower a (suc a) (map (number ms) (keep test rest)) (omega arith) i)

  pub rises : RisesFrom 1 (map (number ms) (keep test (elements ms)))
  unfolding elements
  rises = let p = size-pos ms in kept 1 (size ms - 1) (omega arith)

-- a test that asks for no unit keeps none
no-units : (other : List ℕ → Bool) (xs : List (List ℕ)) → AllUnits false (keep (λ e. other e && not (is_unit e)) xs)
unfolding keep
no-units other [] = tt
no-units other (x ∷ xs) = go (no-units other xs) (other x && not (is_unit x)) refl
  where
    test : List ℕ → Bool
    test e = other e && not (is_unit e)

    go : AllUnits false (keep test xs) → (b : Bool) → test x ≡ b → AllUnits false (keep test (x ∷ xs))
    go i true e = rw (keep-yes test x xs e) (not-true (is_unit x) (both (other x) (not (is_unit x)) e).1, i)
    go i false e = rw (keep-no test x xs e) i

-- ---- parts 3 and 4
abbrev later : List (List ℕ) → List (List ℕ)
later es = map (λ (e : List ℕ). 0 ∷ e) es

named-later : (sl : List Slot) → named (map zero_first sl) ≡ later (named sl)
named-later [] = refl
named-later (single e ∷ sl) = ap {B = List (List ℕ)} (λ es. (0 ∷ e) ∷ es) (named-later sl)
named-later (pair z ∷ sl) = ap {B = List (List ℕ)} (λ es. (0 ∷ z) ∷ es) (named-later sl)

-- one more component in front: each number times its modulus
step : (m : Modulus) (n x : ℕ) → n ≤ x → (radix m * n ≤ 0 % radix m + radix m * x) × (suc (0 % radix m + radix m * x) ≤ radix m * suc x)
step one n x h = (omega arith, omega arith)
step two n x h = (omega arith, omega arith)
step four n x h = (omega arith, omega arith)

times-rise : (m : Modulus) (ms : List Modulus) (es : List (List ℕ)) (n : ℕ) → RisesFrom n (map (number ms) es)
    → RisesFrom (radix m * n) (map (number (m ∷ ms)) (later es))
unfolding number
times-rise m ms [] n r = tt
times-rise m ms (e ∷ es) n r =
    let s = step m n (number ms e) r.0 in
    (s.0, lower _ (radix m * suc (number ms e)) (map (number (m ∷ ms)) (later es)) s.1 (times-rise m ms es (suc (number ms e)) r.1))

-- the unit of a component in front has the number 1, and the others follow
front-one : (m : Modulus) (ms : List Modulus) → 2 ≤ radix m → number (m ∷ ms) (1 ∷ zeros ms) ≡ 1
unfolding number
front-one one ms h = absurd (omega arith)
front-one two ms h = rw (number-zeros ms)
front-one four ms h = rw (number-zeros ms)

front-rises : (m : Modulus) (ms : List Modulus) (es : List (List ℕ)) → 2 ≤ radix m → RisesFrom 1 (map (number ms) es)
    → RisesFrom 1 (map (number (m ∷ ms)) ((1 ∷ zeros ms) ∷ later es))
front-rises m ms es h r =
    let e = front-one m ms h in
    (omega (arith, e), lower _ (radix m * 1) (map (number (m ∷ ms)) (later es)) (omega (arith, e)) (times-rise m ms es 1 r))

units-rise : (ms : List Modulus) → RisesFrom 1 (map (number ms) (named (units ms)))
unfolding units
units-rise [] = tt
units-rise (one ∷ ms) = rw (named-later (units ms)) (times-rise one ms (named (units ms)) 1 (units-rise ms))
units-rise (two ∷ ms) = rw (named-later (units ms)) (front-rises two ms (named (units ms)) (omega arith) (units-rise ms))
units-rise (four ∷ ms) = rw (named-later (units ms)) (front-rises four ms (named (units ms)) (omega arith) (units-rise ms))

units-later : (es : List (List ℕ)) → AllUnits true es → AllUnits true (later es)
unfolding is_unit
units-later [] h = tt
units-later (e ∷ es) h = (h.0, units-later es h.1)

only-units : (ms : List Modulus) → AllUnits true (named (units ms))
unfolding units is_unit
only-units [] = tt
only-units (one ∷ ms) = rw (named-later (units ms)) (units-later (named (units ms)) (only-units ms))
only-units (two ∷ ms) = rw (named-later (units ms)) (zeros-all_zero ms, units-later (named (units ms)) (only-units ms))
only-units (four ∷ ms) = rw (named-later (units ms)) (zeros-all_zero ms, units-later (named (units ms)) (only-units ms))

-- ---- −z stands directly before z
minus-first : (ms : List Modulus) (sl : List Slot) → Good ms sl → (i : ℕ) → i < length (places ms sl) → lead ms (get_or (places ms sl) i (zeros ms)) ≡ 3
    → negative ms (get_or (places ms sl) (suc i) (zeros ms)) ≡ get_or (places ms sl) i (zeros ms)
unfolding places
minus-first ms [] g i h e = absurd (omega arith)
minus-first ms (single x ∷ sl) g zero h e = let z = own-even ms x g.0 g.1 in absurd (omega arith)
minus-first ms (single x ∷ sl) g (suc i) h e = minus-first ms sl g.2 i (omega arith) e
minus-first ms (pair z ∷ sl) g zero h e = refl
minus-first ms (pair z ∷ sl) g (suc zero) h e = let l = g.1 in absurd (omega arith)
minus-first ms (pair z ∷ sl) g (suc (suc i)) h e = minus-first ms sl g.2 i (omega arith) e

pub parts-of : (ms : List Modulus) → PartsOf ms
unfolding slots message singles pairs
parts-of ms =
    record {
      parts = refl;
      singles_rise = rises ms (in_singles ms);
      pairs_rise = rises ms (in_pairs ms);
      units_rise = units-rise ms;
      no_units = (no-units (λ e. same (sum ms e e) (zeros ms)) (elements ms), no-units (λ e. eqb (lead ms e) 1) (elements ms));
      only_units = only-units ms;
      minus_first = minus-first ms (slots ms) (good-slots ms);
    }
