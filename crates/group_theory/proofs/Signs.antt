-- Equality as a test, the sign and the units: what the sign means, and how it behaves under the negative. Assumes nothing.
use mathlib.Core.Path.{◌≡◌, refl, sym, ap, ap₂, ◌∙◌, subst}
use mathlib.Core.Logic.{◌≢◌}
use mathlib.Core.List.{List, [], ◌∷◌}
use mathlib.Core.Bool.{Bool, true, false, ◌&&◌, false≢true, and-false}
use Prim.Native.Nat.{ℕ, zero, suc, ◌-◌, ◌%◌, ◌<◌}
use native.Mathlib.Omega.{arith}
use lib.Dec.{T, eqb, eqb→eq, eqb_refl}
use lib.ListN.{get_or}
use Rattle.group_theory.specs.Group.{Modulus, one, two, four, radix, hd, tl, Valid, zeros, negative}
use Rattle.group_theory.specs.Claims.{FirstOdd}
use Rattle.group_theory.specs.Sign.{same, all_zero, is_unit, odd_or, lead}
use Rattle.group_theory.proofs.Laws.{valid-negative, negative-negative, negative-zeros}

-- ---- tests
abbrev IsFour : Modulus → Type 0
IsFour one = ⊥
IsFour two = ⊥
IsFour four = Unit {0}

one≢four : one ≢ four
one≢four e = subst IsFour (sym e) tt

two≢four : two ≢ four
two≢four e = subst IsFour (sym e) tt

pub T_true : (b : Bool) → T b → b ≡ true
T_true true t = refl
T_true false t = absurd t

pub true-T : (b : Bool) → b ≡ true → T b
true-T true e = tt
true-T false e = false≢true e

pub both : (a b : Bool) → (a && b) ≡ true → (a ≡ true) × (b ≡ true)
both true b e = (refl, e)
both false b e = absurd (false≢true e)

pub not-true : (b : Bool) → (b ≡ true → ⊥) → b ≡ false
not-true true f = absurd (f refl)
not-true false f = refl

-- two tests agree where each passes only where the other does
pub agree : (a b : Bool) → (a ≡ true → b ≡ true) → (b ≡ true → a ≡ true) → a ≡ b
agree true b f g = sym (f refl)
agree false true f g = g refl
agree false false f g = refl

pub same_refl : (x : List ℕ) → same x x ≡ true
unfolding same
same_refl [] = refl
same_refl (x ∷ e) = ap₂ ◌&&◌ (T_true (eqb x x) (eqb_refl x)) (same_refl e)

pub same-eq : (x y : List ℕ) → same x y ≡ true → x ≡ y
unfolding same
same-eq [] [] t = refl
same-eq [] (y ∷ f) t = absurd (false≢true t)
same-eq (x ∷ e) [] t = absurd (false≢true t)
same-eq (x ∷ e) (y ∷ f) t =
    let b = both (eqb x y) (same e f) t in
    ap₂ {C = List ℕ} ◌∷◌ (eqb→eq x y (true-T (eqb x y) b.0)) (same-eq e f b.1)

pub same-ne : (x y : List ℕ) → x ≢ y → same x y ≡ false
same-ne x y n = not-true (same x y) (λ t. n (same-eq x y t))

pub same-neg : (ms : List Modulus) (s x : List ℕ) → Valid ms s → Valid ms x → same s (negative ms x) ≡ same (negative ms s) x
same-neg ms s x h k =
    agree (same s (negative ms x)) (same (negative ms s) x)
    (λ t. ap (λ (r : List ℕ). same r x) (ap (negative ms) (same-eq s (negative ms x) t) ∙ negative-negative ms x k) ∙ same_refl x)
    (λ t. ap (same s) (ap (negative ms) (sym (same-eq (negative ms s) x t)) ∙ negative-negative ms s h) ∙ same_refl s)

-- ---- the first odd quaternary component
pub data Lead : ℕ → Type 0 where
  even : Lead 0
  plus : Lead 1
  minus : Lead 3

pub lead-cases : (ms : List Modulus) (e : List ℕ) → Lead (lead ms e)
unfolding lead
lead-cases [] e = even
lead-cases (one ∷ ms) e = lead-cases ms (tl e)
lead-cases (two ∷ ms) e = lead-cases ms (tl e)
lead-cases (four ∷ ms) e = go (hd e) (lead-cases ms (tl e))
  where
    go : (x : ℕ) {r : ℕ} → Lead r → Lead (odd_or x r)
    go zero l = l
    go (suc zero) l = plus
    go (suc (suc zero)) l = l
    go (suc (suc (suc n))) l = minus

pub lead-zeros : (ms : List Modulus) → lead ms (zeros ms) ≡ 0
unfolding lead zeros
lead-zeros [] = refl
lead-zeros (one ∷ ms) = lead-zeros ms
lead-zeros (two ∷ ms) = lead-zeros ms
lead-zeros (four ∷ ms) = lead-zeros ms

-- where it is 0 the element is its own negative
pub even-own : (ms : List Modulus) (e : List ℕ) → Valid ms e → lead ms e ≡ 0 → negative ms e ≡ e
unfolding lead negative
even-own [] [] h l = refl
even-own [] (x ∷ e) h l = absurd h
even-own (m ∷ ms) [] h l = absurd h
even-own (one ∷ ms) (x ∷ e) h l =
    let k = h.0 in
    let a : (1 - x % 1) % 1 ≡ x = omega arith in
    ap₂ {C = List ℕ} ◌∷◌ a (even-own ms e h.1 l)
even-own (two ∷ ms) (x ∷ e) h l =
    let k = h.0 in
    let a : (2 - x % 2) % 2 ≡ x = omega arith in
    ap₂ {C = List ℕ} ◌∷◌ a (even-own ms e h.1 l)
even-own (four ∷ ms) (zero ∷ e) h l = ap {B = List ℕ} (λ (r : List ℕ). 0 ∷ r) (even-own ms e h.1 l)
even-own (four ∷ ms) (suc zero ∷ e) h l = absurd (omega arith)
even-own (four ∷ ms) (suc (suc zero) ∷ e) h l = ap {B = List ℕ} (λ (r : List ℕ). 2 ∷ r) (even-own ms e h.1 l)
even-own (four ∷ ms) (suc (suc (suc n)) ∷ e) h l = absurd (omega arith)

-- of z and −z one has 1 and the other 3
pub lead-negative : (ms : List Modulus) (e : List ℕ) → Valid ms e → lead ms (negative ms e) ≡ (4 - lead ms e) % 4
unfolding lead negative
lead-negative [] [] h = refl
lead-negative [] (x ∷ e) h = absurd h
lead-negative (m ∷ ms) [] h = absurd h
lead-negative (one ∷ ms) (x ∷ e) h = lead-negative ms e h.1
lead-negative (two ∷ ms) (x ∷ e) h = lead-negative ms e h.1
lead-negative (four ∷ ms) (zero ∷ e) h = lead-negative ms e h.1
lead-negative (four ∷ ms) (suc zero ∷ e) h = refl
lead-negative (four ∷ ms) (suc (suc zero) ∷ e) h = lead-negative ms e h.1
lead-negative (four ∷ ms) (suc (suc (suc zero)) ∷ e) h = refl
lead-negative (four ∷ ms) (suc (suc (suc (suc n))) ∷ e) h = absurd (omega arith)

-- so an element that is its own negative has 0: the sign is 0 exactly at order 1 or 2
pub own-even : (ms : List Modulus) (e : List ℕ) → Valid ms e → negative ms e ≡ e → lead ms e ≡ 0
own-even ms e h p = go (lead-cases ms e) (ap (lead ms) (sym p) ∙ lead-negative ms e h)
  where
    go : {l : ℕ} → Lead l → l ≡ (4 - l) % 4 → l ≡ 0
    go even q = refl
    go plus q = absurd (omega arith)
    go minus q = absurd (omega arith)

-- where it is not 0 it is the first odd one: it stands at a quaternary component, and the quaternary components before it are even
abbrev Leads : List Modulus → List ℕ → ℕ → Type 0
Leads ms e l = (i : ℕ) × FirstOdd ms e i × (get_or e i 0 ≡ l)

later : (m : Modulus) (ms : List Modulus) (x : ℕ) (e : List ℕ) (l : ℕ) → (m ≡ four → x % 2 ≡ 0) → Leads ms e l → Leads (m ∷ ms) (x ∷ e) l
later m ms x e l h f = (suc f.0, (f.1.0, f.1.1, before), f.2)
  where
    before : (j : ℕ) → j < suc f.0 → get_or (m ∷ ms) j one ≡ four → get_or (x ∷ e) j 0 % 2 ≡ 0
    before zero k q = h q
    before (suc j) k q = f.1.2 j (omega arith) q

pub lead-first : (ms : List Modulus) (e : List ℕ) → Valid ms e → lead ms e ≢ 0 → Leads ms e (lead ms e)
unfolding lead
lead-first [] e h n = absurd (n refl)
lead-first (m ∷ ms) [] h n = absurd h
lead-first (one ∷ ms) (x ∷ e) h n = later one ms x e (lead ms e) (λ q. absurd (one≢four q)) (lead-first ms e h.1 n)
lead-first (two ∷ ms) (x ∷ e) h n = later two ms x e (lead ms e) (λ q. absurd (two≢four q)) (lead-first ms e h.1 n)
lead-first (four ∷ ms) (zero ∷ e) h n = later four ms 0 e (lead ms e) (λ q. refl) (lead-first ms e h.1 n)
lead-first (four ∷ ms) (suc zero ∷ e) h n = (0, (refl, refl, (λ j k q. absurd (omega arith))), refl)
lead-first (four ∷ ms) (suc (suc zero) ∷ e) h n = later four ms 2 e (lead ms e) (λ q. refl) (lead-first ms e h.1 n)
lead-first (four ∷ ms) (suc (suc (suc zero)) ∷ e) h n = (0, (refl, refl, (λ j k q. absurd (omega arith))), refl)
lead-first (four ∷ ms) (suc (suc (suc (suc x))) ∷ e) h n = absurd (omega arith)

-- ---- zero, and units
pub all_zero-zeros : (ms : List Modulus) (e : List ℕ) → Valid ms e → all_zero e ≡ true → e ≡ zeros ms
unfolding all_zero zeros
all_zero-zeros [] [] h t = refl
all_zero-zeros [] (x ∷ e) h t = absurd h
all_zero-zeros (m ∷ ms) [] h t = absurd h
all_zero-zeros (m ∷ ms) (x ∷ e) h t =
    let b = both (eqb x 0) (all_zero e) t in
    ap₂ {C = List ℕ} ◌∷◌ (eqb→eq x 0 (true-T (eqb x 0) b.0)) (all_zero-zeros ms e h.1 b.1)

pub zeros-all_zero : (ms : List Modulus) → all_zero (zeros ms) ≡ true
unfolding all_zero zeros
zeros-all_zero [] = refl
zeros-all_zero (m ∷ ms) = zeros-all_zero ms

-- minus what has no component other than 0, however many there are
hd-zero : (e : List ℕ) → all_zero e ≡ true → hd e ≡ 0
unfolding all_zero
hd-zero [] t = refl
hd-zero (x ∷ e) t = eqb→eq x 0 (true-T (eqb x 0) (both (eqb x 0) (all_zero e) t).0)

tl-zero : (e : List ℕ) → all_zero e ≡ true → all_zero (tl e) ≡ true
unfolding all_zero
tl-zero [] t = refl
tl-zero (x ∷ e) t = (both (eqb x 0) (all_zero e) t).1

pub negative-none : (ms : List Modulus) (e : List ℕ) → all_zero e ≡ true → negative ms e ≡ zeros ms
unfolding zeros negative
negative-none [] e t = refl
negative-none (m ∷ ms) e t = ap₂ {C = List ℕ} ◌∷◌ (none m (hd e) (hd-zero e t)) (negative-none ms (tl e) (tl-zero e t))
  where
    none : (m : Modulus) (x : ℕ) → x ≡ 0 → (radix m - x % radix m) % radix m ≡ 0
    none one x h = rw h refl
    none two x h = rw h refl
    none four x h = rw h refl

pub all_zero-same : (ms : List Modulus) (e : List ℕ) → Valid ms e → same e (zeros ms) ≡ all_zero e
all_zero-same ms e h =
    agree (same e (zeros ms)) (all_zero e)
    (λ t. ap all_zero (same-eq e (zeros ms) t) ∙ zeros-all_zero ms)
    (λ t. ap (λ (r : List ℕ). same r (zeros ms)) (all_zero-zeros ms e h t) ∙ same_refl (zeros ms))

pub all_zero-negative : (ms : List Modulus) (e : List ℕ) → Valid ms e → all_zero (negative ms e) ≡ all_zero e
all_zero-negative ms e h =
    agree (all_zero (negative ms e)) (all_zero e)
    (λ t. ap all_zero (sym (negative-negative ms e h) ∙ ap (negative ms) (all_zero-zeros ms (negative ms e) (valid-negative ms e) t) ∙ negative-zeros ms)
    ∙ zeros-all_zero ms)
    (λ t. ap (λ (r : List ℕ). all_zero (negative ms r)) (all_zero-zeros ms e h t) ∙ ap all_zero (negative-zeros ms) ∙ zeros-all_zero ms)

pub zeros-unit : (ms : List Modulus) → is_unit (zeros ms) ≡ false
unfolding is_unit zeros
zeros-unit [] = refl
zeros-unit (m ∷ ms) = zeros-unit ms

-- the negative of a unit of modulus 4, told by its component 3
abbrev pub unit3_or : ℕ → Bool → Bool → Bool
unit3_or zero u z = u
unit3_or (suc zero) u z = false
unit3_or (suc (suc zero)) u z = false
unit3_or (suc (suc (suc n))) u z = z

unfoldable pub is_unit3 : List ℕ → Bool
is_unit3 [] = false
is_unit3 (x ∷ e) = unit3_or x (is_unit3 e) (all_zero e)

zero-lead : (ms : List Modulus) (e : List ℕ) → Valid ms e → (eqb (lead ms e) 3 && all_zero e) ≡ false
zero-lead ms e h =
    not-true (eqb (lead ms e) 3 && all_zero e)
    (λ t.
    let b = both (eqb (lead ms e) 3) (all_zero e) t in
    let l : lead ms e ≡ 3 = eqb→eq (lead ms e) 3 (true-T (eqb (lead ms e) 3) b.0) in
    let k : lead ms e ≡ 0 = ap (lead ms) (all_zero-zeros ms e h b.1) ∙ lead-zeros ms in
    omega arith)

pub unit3 : (ms : List Modulus) (e : List ℕ) → Valid ms e → is_unit3 e ≡ (eqb (lead ms e) 3 && is_unit (negative ms e))
unfolding is_unit3 is_unit lead negative
unit3 [] [] h = refl
unit3 [] (x ∷ e) h = absurd h
unit3 (m ∷ ms) [] h = absurd h
unit3 (one ∷ ms) (zero ∷ e) h = unit3 ms e h.1
unit3 (one ∷ ms) (suc n ∷ e) h = absurd (omega arith)
unit3 (two ∷ ms) (zero ∷ e) h = unit3 ms e h.1
unit3 (two ∷ ms) (suc zero ∷ e) h =
    sym (ap (λ (b : Bool). eqb (lead ms e) 3 && b) (all_zero-negative ms e h.1) ∙ zero-lead ms e h.1)
unit3 (two ∷ ms) (suc (suc n) ∷ e) h = absurd (omega arith)
unit3 (four ∷ ms) (zero ∷ e) h = unit3 ms e h.1
unit3 (four ∷ ms) (suc zero ∷ e) h = refl
unit3 (four ∷ ms) (suc (suc zero) ∷ e) h = sym (and-false (eqb (lead ms e) 3))
unit3 (four ∷ ms) (suc (suc (suc zero)) ∷ e) h = sym (all_zero-negative ms e h.1)
unit3 (four ∷ ms) (suc (suc (suc (suc n))) ∷ e) h = absurd (omega arith)

-- no unit has the sign 3
pub unit-sign : (ms : List Modulus) (e : List ℕ) → Valid ms e → (eqb (lead ms e) 3 && is_unit e) ≡ false
unfolding is_unit lead
unit-sign [] [] h = refl
unit-sign [] (x ∷ e) h = absurd h
unit-sign (m ∷ ms) [] h = absurd h
unit-sign (one ∷ ms) (zero ∷ e) h = unit-sign ms e h.1
unit-sign (one ∷ ms) (suc n ∷ e) h = absurd (omega arith)
unit-sign (two ∷ ms) (zero ∷ e) h = unit-sign ms e h.1
unit-sign (two ∷ ms) (suc zero ∷ e) h = zero-lead ms e h.1
unit-sign (two ∷ ms) (suc (suc n) ∷ e) h = absurd (omega arith)
unit-sign (four ∷ ms) (zero ∷ e) h = unit-sign ms e h.1
unit-sign (four ∷ ms) (suc zero ∷ e) h = refl
unit-sign (four ∷ ms) (suc (suc zero) ∷ e) h = and-false (eqb (lead ms e) 3)
unit-sign (four ∷ ms) (suc (suc (suc n)) ∷ e) h = refl

-- ---- the negative under one more component in front, as the units have it
pub negative-zero-first : (m : Modulus) (ms : List Modulus) (e : List ℕ) → negative (m ∷ ms) (0 ∷ e) ≡ 0 ∷ negative ms e
unfolding negative
negative-zero-first one ms e = refl
negative-zero-first two ms e = refl
negative-zero-first four ms e = refl

pub negative-unit-two : (ms : List Modulus) → negative (two ∷ ms) (1 ∷ zeros ms) ≡ 1 ∷ zeros ms
unfolding negative
negative-unit-two ms = ap {B = List ℕ} (λ (r : List ℕ). 1 ∷ r) (negative-zeros ms)

pub negative-unit-four : (ms : List Modulus) → negative (four ∷ ms) (1 ∷ zeros ms) ≡ 3 ∷ zeros ms
unfolding negative
negative-unit-four ms = ap {B = List ℕ} (λ (r : List ℕ). 3 ∷ r) (negative-zeros ms)

pub zeros-cons : (m : Modulus) (ms : List Modulus) → zeros (m ∷ ms) ≡ 0 ∷ zeros ms
unfolding zeros
zeros-cons m ms = refl
