-- How many elements of a sign, and how many units of it, have a number below a bound. Assumes nothing.
use mathlib.Core.Path.{◌≡◌, refl, sym, ap, ◌∙◌}
use mathlib.Core.List.{List, ◌∷◌}
use mathlib.Core.Bool.{Bool, true, false, ◌&&◌, not}
use Prim.Native.Nat.{ℕ, zero, suc, ◌+◌, ◌*◌, ◌<◌, ◌≤◌}
use native.Mathlib.Omega.{arith}
use lib.Dec.{eqb, leb, ltb}
use borrow.Author.Tests.{eq-eqb, ne_eqb, lt-ltb, le-ltb}
use Rattle.group_theory.specs.Group.{Modulus, one, two, four, Valid, zeros, number, element, size}
use Rattle.group_theory.specs.Sign.{all_zero, is_unit, lead}
use Rattle.group_theory.proofs.Laws.{valid-element}
use Rattle.group_theory.proofs.Numbers.{number-element, element-zero, number-zeros}
use Rattle.group_theory.proofs.Signs.{lead-zeros, all_zero-zeros, zeros-all_zero, agree, true-T}
use Rattle.layout_theory.specs.Choice.{zero_unless, one_if}
use Rattle.layout_theory.specs.Parts.{sign_of}
use Rattle.layout_theory.proofs.Sums.{sum_to, sum_to-ext, sum_to-add, sum_to-unless, sum_to-ones, below, below_one, below_two, below-four, rest}
use Rattle.layout_theory.proofs.Cover.{of_sign}

-- of the elements with a number below x: those with the sign of the part, and those of them that are units
abbrev pub led : Bool → List Modulus → ℕ → ℕ
led p ms x = below (λ e. one_if (eqb (lead ms e) (sign_of p))) ms x

abbrev pub units_led : Bool → List Modulus → ℕ → ℕ
units_led p ms x = below (λ e. zero_unless (is_unit e) (one_if (eqb (lead ms e) (sign_of p)))) ms x

-- those that stand in the part
abbrev pub members : Bool → List Modulus → ℕ → ℕ
members p ms x = below (λ e. one_if (of_sign (sign_of p) ms e)) ms x

split : (a u : Bool) → one_if (a && not u) + zero_unless u (one_if a) ≡ one_if a
split true true = refl
split true false = refl
split false true = refl
split false false = refl

pub members-units : (p : Bool) (ms : List Modulus) (x : ℕ) → members p ms x + units_led p ms x ≡ led p ms x
members-units p ms x =
    sym
    (sum_to-add (λ y. one_if (of_sign (sign_of p) ms (element ms y))) (λ y. zero_unless (is_unit (element ms y)) (one_if (eqb (lead ms (element ms y)) (sign_of p)))) x)
    ∙ sum_to-ext
    (λ y. one_if (of_sign (sign_of p) ms (element ms y)) + zero_unless (is_unit (element ms y)) (one_if (eqb (lead ms (element ms y)) (sign_of p))))
    (λ y. one_if (eqb (lead ms (element ms y)) (sign_of p))) x
    (λ y l. split (eqb (lead ms (element ms y)) (sign_of p)) (is_unit (element ms y)))

-- ---- zero is the element of number 0 alone
zero_number : (ms : List Modulus) (y : ℕ) → y < size ms → all_zero (element ms y) ≡ eqb y 0
zero_number ms zero l = ap all_zero (element-zero ms) ∙ zeros-all_zero ms ∙ sym (eq-eqb 0 0 refl)
zero_number ms (suc y) l =
    agree (all_zero (element ms (suc y))) (eqb (suc y) 0)
    (λ t.
    let z : element ms (suc y) ≡ zeros ms = all_zero-zeros ms (element ms (suc y)) (valid-element ms (suc y)) t in
    let n : suc y ≡ 0 = sym (number-element ms (suc y) l) ∙ ap (number ms) z ∙ number-zeros ms in
    absurd (omega arith))
    (λ t. let n : suc y ≡ 0 = lib.Dec.eqb→eq (suc y) 0 (true-T (eqb (suc y) 0) t) in absurd (omega arith))

first-only : (v : ℕ) → sum_to (λ y. one_if (eqb y 0)) v ≡ one_if (ltb 0 v)
unfolding sum_to
first-only zero = sym (ap one_if (le-ltb 0 0 (omega arith)))
first-only (suc zero) = refl
first-only (suc (suc v)) =
    let i = first-only (suc v) in
    let a = lt-ltb 0 (suc v) (omega arith) in
    rw (ne_eqb (suc v) 0 (omega arith), lt-ltb 0 (suc (suc v)) (omega arith)) (omega (arith, i ∙ ap one_if a))

zero-below : (ms : List Modulus) (v : ℕ) → v ≤ size ms → below (λ e. one_if (all_zero e)) ms v ≡ one_if (ltb 0 v)
zero-below ms v l =
    sum_to-ext (λ y. one_if (all_zero (element ms y))) (λ y. one_if (eqb y 0)) v (λ y k. ap one_if (zero_number ms y (omega arith))) ∙ first-only v

-- zero has the sign 0
zero-sign : (p : Bool) (ms : List Modulus) (e : List ℕ) → Valid ms e
    → zero_unless (all_zero e) (one_if (eqb (lead ms e) (sign_of p))) ≡ zero_unless (eqb (sign_of p) 0) (one_if (all_zero e))
zero-sign p ms e h = go p (all_zero e) refl
  where
    sign : all_zero e ≡ true → lead ms e ≡ 0
    sign t = ap (lead ms) (all_zero-zeros ms e h t) ∙ lead-zeros ms

    go : (p : Bool) (b : Bool) → all_zero e ≡ b → zero_unless b (one_if (eqb (lead ms e) (sign_of p))) ≡ zero_unless (eqb (sign_of p) 0) (one_if b)
    go true true t = rw (sign t)
    go true false t = refl
    go false true t = rw (sign t)
    go false false t = refl

-- ---- one component more
module _ (p : Bool) (ms : List Modulus) where
  abbrev has : List ℕ → ℕ
  has e = one_if (eqb (lead ms e) (sign_of p))

  abbrev has_unit : List ℕ → ℕ
  has_unit e = zero_unless (is_unit e) (has e)

  pub led-one : (x : ℕ) → led p (one ∷ ms) x ≡ led p ms x
  unfolding lead
  led-one x = below_one (λ e. one_if (eqb (lead (one ∷ ms) e) (sign_of p))) ms x

  pub led-two : (d v : ℕ) → d < 2 → led p (two ∷ ms) (d + 2 * v) ≡ 2 * led p ms v + zero_unless (eqb d 1) (has (element ms v))
  unfolding lead
  led-two d v l = below_two (λ e. one_if (eqb (lead (two ∷ ms) e) (sign_of p))) ms d v l ∙ go d l
    where
      twice : below (λ e. has e + has e) ms v ≡ 2 * led p ms v
      twice = sum_to-add (λ y. has (element ms y)) (λ y. has (element ms y)) v ∙ omega arith

      go : (d : ℕ) → d < 2
          → below (λ e. has e + has e) ms v + rest (λ e. one_if (eqb (lead (two ∷ ms) e) (sign_of p))) ms d v ≡ 2 * led p ms v + zero_unless (eqb d 1) (has (element ms v))
      go zero l = omega (arith, twice)
      go (suc zero) l = omega (arith, twice)
      go (suc (suc d)) l = absurd (omega arith)

  pub led-four : (d v : ℕ) → d < 4
      → led p (four ∷ ms) (d + 4 * v)
      ≡ 2 * led p ms v + (zero_unless p v + (zero_unless (leb 1 d) (has (element ms v)) + (zero_unless (leb 2 d) (zero_unless p 1) + zero_unless (leb 3 d) (has (element ms v)))))
  unfolding lead
  led-four d v l = below-four (λ e. one_if (eqb (lead (four ∷ ms) e) (sign_of p))) ms d v l ∙ go d l
    where
      each : List ℕ → ℕ
      each e = (has e + one_if (eqb 1 (sign_of p))) + (has e + one_if (eqb 3 (sign_of p)))

      plain : (q : Bool) → (one_if (eqb 1 (sign_of q)) ≡ zero_unless q 1) × (one_if (eqb 3 (sign_of q)) ≡ 0)
      plain true = (refl, refl)
      plain false = (refl, refl)

      blocks : below each ms v ≡ 2 * led p ms v + zero_unless p v
      blocks =
          let f : ℕ → ℕ = λ y. has (element ms y) in
          let a = sum_to-ext (λ y. each (element ms y)) (λ y. f y + (f y + zero_unless p 1)) v (λ y k. omega (arith, (plain p).0, (plain p).1)) in
          let b = sum_to-add f (λ y. f y + zero_unless p 1) v in
          let c = sum_to-add f (λ y. zero_unless p 1) v in
          let d = sum_to-unless p (λ y. 1) v ∙ ap (zero_unless p) (sum_to-ones v) in
          omega arith

      go : (d : ℕ) → d < 4
          → below each ms v + rest (λ e. one_if (eqb (lead (four ∷ ms) e) (sign_of p))) ms d v
          ≡ 2 * led p ms v + (zero_unless p v + (zero_unless (leb 1 d) (has (element ms v)) + (zero_unless (leb 2 d) (zero_unless p 1) + zero_unless (leb 3 d) (has (element ms v)))))
      go zero l = omega (arith, blocks)
      go (suc zero) l = omega (arith, blocks)
      go (suc (suc zero)) l = omega (arith, blocks, (plain p).0)
      go (suc (suc (suc zero))) l = omega (arith, blocks, (plain p).0)
      go (suc (suc (suc (suc d)))) l = absurd (omega arith)

  pub units-one : (x : ℕ) → units_led p (one ∷ ms) x ≡ units_led p ms x
  unfolding lead is_unit
  units-one x = below_one (λ e. zero_unless (is_unit e) (one_if (eqb (lead (one ∷ ms) e) (sign_of p)))) ms x

  pub units-two : (d v : ℕ) → d < 2 → v ≤ size ms
      → units_led p (two ∷ ms) (d + 2 * v)
      ≡ units_led p ms v + (zero_unless (eqb (sign_of p) 0) (one_if (ltb 0 v)) + zero_unless (eqb d 1) (has_unit (element ms v)))
  unfolding lead is_unit
  units-two d v l k = below_two (λ e. zero_unless (is_unit e) (one_if (eqb (lead (two ∷ ms) e) (sign_of p)))) ms d v l ∙ go d l
    where
      each : List ℕ → ℕ
      each e = has_unit e + zero_unless (all_zero e) (has e)

      blocks : below each ms v ≡ units_led p ms v + zero_unless (eqb (sign_of p) 0) (one_if (ltb 0 v))
      blocks =
          sum_to-add (λ y. has_unit (element ms y)) (λ y. zero_unless (all_zero (element ms y)) (has (element ms y))) v
          ∙ ap (λ (n : ℕ). units_led p ms v + n)
          (sum_to-ext (λ y. zero_unless (all_zero (element ms y)) (has (element ms y))) (λ y. zero_unless (eqb (sign_of p) 0) (one_if (all_zero (element ms y)))) v
          (λ y j. zero-sign p ms (element ms y) (valid-element ms y))
          ∙ sum_to-unless (eqb (sign_of p) 0) (λ y. one_if (all_zero (element ms y))) v
          ∙ ap (zero_unless (eqb (sign_of p) 0)) (zero-below ms v k))

      go : (d : ℕ) → d < 2
          → below each ms v + rest (λ e. zero_unless (is_unit e) (one_if (eqb (lead (two ∷ ms) e) (sign_of p)))) ms d v
          ≡ units_led p ms v + (zero_unless (eqb (sign_of p) 0) (one_if (ltb 0 v)) + zero_unless (eqb d 1) (has_unit (element ms v)))
      go zero l = omega (arith, blocks)
      go (suc zero) l = omega (arith, blocks)
      go (suc (suc d)) l = absurd (omega arith)

  pub units-four : (d v : ℕ) → d < 4 → v ≤ size ms
      → units_led p (four ∷ ms) (d + 4 * v)
      ≡ units_led p ms v
      + (zero_unless p (one_if (ltb 0 v)) + (zero_unless (leb 1 d) (has_unit (element ms v)) + zero_unless (leb 2 d) (zero_unless p (one_if (all_zero (element ms v))))))
  unfolding lead is_unit
  units-four d v l k = below-four (λ e. zero_unless (is_unit e) (one_if (eqb (lead (four ∷ ms) e) (sign_of p)))) ms d v l ∙ go d l
    where
      each : List ℕ → ℕ
      each e = (has_unit e + zero_unless (all_zero e) (one_if (eqb 1 (sign_of p)))) + (0 + 0)

      plain : (q : Bool) (e : List ℕ) → zero_unless (all_zero e) (one_if (eqb 1 (sign_of q))) ≡ zero_unless q (one_if (all_zero e))
      plain q e = at q (all_zero e)
        where
          at : (q b : Bool) → zero_unless b (one_if (eqb 1 (sign_of q))) ≡ zero_unless q (one_if b)
          at true true = refl
          at true false = refl
          at false true = refl
          at false false = refl

      blocks : below each ms v ≡ units_led p ms v + zero_unless p (one_if (ltb 0 v))
      blocks =
          sum_to-ext (λ y. each (element ms y)) (λ y. has_unit (element ms y) + zero_unless p (one_if (all_zero (element ms y)))) v
          (λ y j. omega (arith, plain p (element ms y)))
          ∙ sum_to-add (λ y. has_unit (element ms y)) (λ y. zero_unless p (one_if (all_zero (element ms y)))) v
          ∙ ap (λ (n : ℕ). units_led p ms v + n)
          (sum_to-unless p (λ y. one_if (all_zero (element ms y))) v ∙ ap (zero_unless p) (zero-below ms v k))

      go : (d : ℕ) → d < 4
          → below each ms v + rest (λ e. zero_unless (is_unit e) (one_if (eqb (lead (four ∷ ms) e) (sign_of p)))) ms d v
          ≡ units_led p ms v
          + (zero_unless p (one_if (ltb 0 v)) + (zero_unless (leb 1 d) (has_unit (element ms v)) + zero_unless (leb 2 d) (zero_unless p (one_if (all_zero (element ms v))))))
      go zero l = omega (arith, blocks)
      go (suc zero) l = omega (arith, blocks)
      go (suc (suc zero)) l = omega (arith, blocks, plain p (element ms v))
      go (suc (suc (suc zero))) l = omega (arith, blocks, plain p (element ms v))
      go (suc (suc (suc (suc d)))) l = absurd (omega arith)
