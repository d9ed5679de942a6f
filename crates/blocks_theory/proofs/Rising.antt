-- From an element to its index among those of its sign: the digits read from the highest on, each adding where its block starts. Assumes
-- nothing.
use mathlib.Core.Path.{◌≡◌, refl, sym, ap, ap₂, subst, ◌∙◌}
use mathlib.Core.List.{List, [], ◌∷◌, ◌++◌, append_assoc}
use mathlib.Core.Bool.{true, false, true≢false}
use Prim.Native.Nat.{ℕ, zero, suc, ◌+◌, ◌-◌, ◌*◌, ◌/◌, ◌%◌, ◌^◌, ◌<◌, ◌≤◌}
use native.Mathlib.Omega.{arith}
use lib.Dec.{eqb}
use lib.ListN.{length, get_or, take, drop, take-append-drop}
use lib.Seq.{drop-cons, drop-nil}
use Rattle.group_theory.specs.Group.{Modulus, one, two, four, radix, moduli_of, moduli, hd, tl, Valid, zeros, negative, times, number, element, size}
use Rattle.group_theory.specs.Sign.{lead, odd_or}
use Rattle.group_theory.proofs.Laws.{valid-times, times-one, times-three, negative-negative}
use Rattle.group_theory.proofs.Signs.{lead-negative}
use Rattle.group_theory.proofs.Numbers.{number_lt, size-moduli}
use Rattle.group_theory.proofs.Fill.{length-moduli, moduli-two, moduli-four, times-at, number-turn}
use Rattle.group_theory.proofs.Snoc.{element-behind}
use Rattle.layout_theory.proofs.Lists.{length_from}
use Rattle.blocks_theory.specs.Blocks.{level}
use Rattle.blocks_theory.specs.Indices.{digit_of, kind_of, factor_of, Signed, numbers, standing, ones, offset, kind_after, Based}
use Rattle.blocks_theory.specs.declared.Sign.{Sign}
use Rattle.blocks_theory.specs.declared.Sign.TheVariants.{Zero, One, Three}
use Rattle.blocks_theory.specs.declared.Kind.{Kind}
use Rattle.blocks_theory.specs.declared.Kind.TheVariants.{Even, Plus, Low}
use Rattle.blocks_theory.proofs.Levels.{level-none, low-none, even-none, plus-next, low-next, even-next}
use Rattle.blocks_theory.proofs.Splits.{size_low}
use Rattle.blocks_theory.proofs.Descents.{DigitFits, number-below, element-off, numbers-all, numbers-none, Counted, counted, take-element}

-- ---- components of an element
valid-drop : (ms : List Modulus) (x : List ℕ) (i : ℕ) → Valid ms x → Valid (drop i ms) (drop i x)
valid-drop [] [] i h = none i
  where
    none : (i : ℕ) → Valid (drop i []) (drop i [])
    none zero = tt
    none (suc i) = tt
valid-drop [] (y ∷ x) i h = absurd h
valid-drop (m ∷ ms) [] i h = absurd h
valid-drop (m ∷ ms) (y ∷ x) zero h = h
valid-drop (m ∷ ms) (y ∷ x) (suc i) h = valid-drop ms x i h.1

valid-length : (ms : List Modulus) (x : List ℕ) → Valid ms x → length x ≡ length ms
valid-length [] [] h = refl
valid-length [] (y ∷ x) h = absurd h
valid-length (m ∷ ms) [] h = absurd h
valid-length (m ∷ ms) (y ∷ x) h = ap suc (valid-length ms x h.1)

pub valid-at : (ms : List Modulus) (x : List ℕ) (i : ℕ) → Valid ms x → i < length ms → get_or x i 0 < radix (get_or ms i one)
valid-at [] x i h l = absurd (omega arith)
valid-at (m ∷ ms) [] i h l = absurd h
valid-at (m ∷ ms) (y ∷ x) zero h l = h.0
valid-at (m ∷ ms) (y ∷ x) (suc i) h l = valid-at ms x i h.1 (omega arith)

-- those that are not in use are 0
unused : (n a b : ℕ) (y : List ℕ) → Valid (drop (a + b) (moduli_of n a b)) y → (y ≡ zeros (drop (a + b) (moduli_of n a b))) × (lead (drop (a + b) (moduli_of n a b)) y ≡ 0)
unfolding zeros lead
unused zero a b y h = go (a + b) y h
  where
    go : (k : ℕ) (y : List ℕ) → Valid (drop k []) y → (y ≡ zeros (drop k [])) × (lead (drop k []) y ≡ 0)
    go zero [] h = (refl, refl)
    go zero (x ∷ y) h = absurd h
    go (suc k) [] h = (refl, refl)
    go (suc k) (x ∷ y) h = absurd h
unused (suc n) zero zero [] h = absurd h
unused (suc n) zero zero (x ∷ y) h =
    let i = unused n 0 0 y h.1 in
    let z : x ≡ 0 = omega (arith, h.0) in
    (ap₂ {C = List ℕ} ◌∷◌ z i.0, i.1)
unused (suc n) zero (suc b) y h =
    let e : 0 + suc b ≡ suc (0 + b) = omega arith in
    rw e (unused n 0 b y (rw e at h))
unused (suc n) (suc a) b y h =
    let e : suc a + b ≡ suc (a + b) = omega arith in
    rw e (unused n a b y (rw e at h))

-- the binary ones play no part in the sign
lead_bits : (n a b : ℕ) (x : List ℕ) → lead (drop a (moduli_of n a b)) (drop a x) ≡ lead (moduli_of n a b) x
unfolding lead
lead_bits n zero b x = refl
lead_bits zero (suc a) b x = refl
lead_bits (suc n) (suc a) b [] = ap (lead (drop a (moduli_of n a b))) (sym (drop-nil a)) ∙ lead_bits n a b []
lead_bits (suc n) (suc a) b (y ∷ x) = lead_bits n a b x

abbrev IsOne : Modulus → Type 0
IsOne one = Unit {0}
IsOne two = ⊥
IsOne four = ⊥

one≢four : one ≡ four → ⊥
one≢four e = subst IsOne e tt

-- where the sign is 0 every quaternary one is even
lead-even : (ms : List Modulus) (x : List ℕ) (i : ℕ) → Valid ms x → lead ms x ≡ 0 → get_or ms i one ≡ four → get_or x i 0 % 2 ≡ 0
unfolding lead
lead-even [] x i h l e = absurd (one≢four e)
lead-even (m ∷ ms) [] i h l e = absurd h
lead-even (m ∷ ms) (y ∷ x) zero h l e = first y (subst (λ (k : Modulus). y < radix k) e h.0) (subst (λ (k : Modulus). lead (k ∷ ms) (y ∷ x) ≡ 0) e l)
  where
    first : (y : ℕ) → y < 4 → odd_or y (lead ms x) ≡ 0 → y % 2 ≡ 0
    first zero h l = refl
    first (suc zero) h l = absurd (omega arith)
    first (suc (suc zero)) h l = refl
    first (suc (suc (suc y))) h l = absurd (omega arith)
lead-even (one ∷ ms) (y ∷ x) (suc i) h l e = lead-even ms x i h.1 l e
lead-even (two ∷ ms) (y ∷ x) (suc i) h l e = lead-even ms x i h.1 l e
lead-even (four ∷ ms) (zero ∷ x) (suc i) h l e = lead-even ms x i h.1 l e
lead-even (four ∷ ms) (suc zero ∷ x) (suc i) h l e = absurd (omega arith)
lead-even (four ∷ ms) (suc (suc zero) ∷ x) (suc i) h l e = lead-even ms x i h.1 l e
lead-even (four ∷ ms) (suc (suc (suc y)) ∷ x) (suc i) h l e = absurd (omega arith)

-- one quaternary component more, in front
lead-cons : (ms : List Modulus) (x : List ℕ) (i : ℕ) → i < length ms → i < length x → get_or ms i one ≡ four
    → lead (drop i ms) (drop i x) ≡ odd_or (get_or x i 0) (lead (drop (suc i) ms) (drop (suc i) x))
unfolding lead
lead-cons ms x i h k e = rw (drop-cons ms i one, drop-cons x i 0, e)

module _ (a b : ℕ) (h : a + b ≤ 12) (x : List ℕ) (v : Valid (moduli a b) x) where
  twelve : length x ≡ 12
  twelve = valid-length (moduli a b) x v ∙ length-moduli a b

  at-four : (j : ℕ) → j < b → get_or (moduli a b) (a + j) one ≡ four
  at-four j k = moduli-four a b (a + j) (omega arith) (omega arith) (omega arith)

  digit-small : (j : ℕ) → j < b → get_or x (a + j) 0 < 4
  digit-small j k =
      let l = length-moduli a b in
      subst (λ (m : Modulus). get_or x (a + j) 0 < radix m) (at-four j k) (valid-at (moduli a b) x (a + j) v (omega arith))

  -- the sign, read from the last component on
  pub lead-start : lead (drop (a + b) (moduli a b)) (drop (a + b) x) ≡ 0
  unfolding moduli
  lead-start = (unused 12 a b (drop (a + b) x) (valid-drop (moduli a b) x (a + b) v)).1

  unused-zero : drop (a + b) x ≡ zeros (drop (a + b) (moduli a b))
  unfolding moduli
  unused-zero = (unused 12 a b (drop (a + b) x) (valid-drop (moduli a b) x (a + b) v)).0

  lead-step : (j : ℕ) → j < b → lead (drop (a + j) (moduli a b)) (drop (a + j) x) ≡ odd_or (get_or x (a + j) 0) (lead (drop (a + suc j) (moduli a b)) (drop (a + suc j) x))
  lead-step j k =
      let e : a + suc j ≡ suc (a + j) = omega arith in
      let l = length-moduli a b in
      rw e (lead-cons (moduli a b) x (a + j) (omega arith) (omega (arith, twelve)) (at-four j k))

  pub lead-end : lead (drop (a + 0) (moduli a b)) (drop (a + 0) x) ≡ lead (moduli a b) x
  unfolding moduli
  lead-end = let e : a + 0 ≡ a = omega arith in rw e (lead_bits 12 a b x)

  -- the same for the loop's next component
  pub sign-turn : (j : ℕ) → 0 < j → j ≤ b
      → (get_or x (a + (j - 1)) 0 < 4)
      × (odd_or (get_or x (a + (j - 1)) 0) (lead (drop (a + j) (moduli a b)) (drop (a + j) x)) ≡ lead (drop (a + (j - 1)) (moduli a b)) (drop (a + (j - 1)) x))
  sign-turn zero l k = absurd (omega arith)
  sign-turn (suc j) l k = let c : suc j - 1 ≡ j = omega arith in rw c (digit-small j k, sym (lead-step j k))

-- ---- the binary digits
-- modulo 2 an odd factor changes nothing
low-digits : (n a b : ℕ) (s : Sign) (x : List ℕ) → take a (element (moduli_of n a 0) (number (moduli_of n a 0) x)) ≡ take a (times (moduli_of n a b) (factor_of s) x)
unfolding element number times
low-digits n zero b s x = refl
low-digits zero (suc a) b s x = refl
low-digits (suc n) (suc a) b s x =
    let y = number (moduli_of n a 0) (tl x) in
    let e : (hd x % 2 + 2 * y) % 2 ≡ factor_of s * hd x % 2 = odd s (hd x) in
    let g : (hd x % 2 + 2 * y) / 2 ≡ y = omega arith in
    ap₂ {C = List ℕ} ◌∷◌ e (ap (λ (k : ℕ). take a (element (moduli_of n a 0) k)) g ∙ low-digits n a b s (tl x))
  where
    odd : (s : Sign) (y : ℕ) → (y % 2 + 2 * number (moduli_of n a 0) (tl x)) % 2 ≡ factor_of s * y % 2
    odd Zero y = omega arith
    odd One y = omega arith
    odd Three y = omega arith

pub based-at : (a b : ℕ) (s : Sign) (x : List ℕ) (k u : ℕ) → Based a b (kind_of s) (times (moduli a b) (factor_of s) x) k → u ≡ number (moduli a 0) x → a ≤ 12
    → (k + u < length (numbers (kind_of s) (moduli a b))) × (element (moduli a b) (get_or (numbers (kind_of s) (moduli a b)) (k + u) 0) ≡ times (moduli a b) (factor_of s) x)
unfolding moduli
based-at a b s x k u w e l =
    let z = times (moduli a b) (factor_of s) x in
    let c : a + 2 * 0 ≡ a = omega arith in
    let d : a + 0 ≡ a = omega arith in
    let n : size (moduli a 0) ≡ 2 ^ a = size-moduli a 0 (omega arith) ∙ ap (λ (i : ℕ). 2 ^ i) c in
    let i : u < 2 ^ a = omega (arith, number_lt (moduli a 0) x) in
    let r = w u i in (
      r.0,
      r.1
          ∙ ap (λ (m : List ℕ). m ++ drop a z)
          (ap₂ (λ (m j : ℕ). element (take m (moduli a 0)) j) d e ∙ sym (take-element a (moduli a 0) (number (moduli a 0) x)) ∙ low-digits 12 a b s x)
          ∙ take-append-drop a z,
    )

-- a digit of a multiple
pub times-digit : (a b f : ℕ) (x : List ℕ) (j : ℕ) → a + b ≤ 12 → j < b → f * get_or x (a + j) 0 % 4 ≡ get_or (times (moduli a b) f x) (a + j) 0
times-digit a b f x j h k =
    let l = length-moduli a b in
    sym (times-at (moduli a b) f x (a + j) (omega arith) ∙ ap (λ (m : Modulus). f * get_or x (a + j) 0 % radix m) (moduli-four a b (a + j) (omega arith) (omega arith) (omega arith)))

-- ---- an element and the one that is sought, z: itself or its negative
odd-twice : (ms : List Modulus) (s : Sign) (x : List ℕ) → Valid ms x → times ms (factor_of s) (times ms (factor_of s) x) ≡ x
odd-twice ms Zero x v = ap (times ms 1) (times-one ms x v) ∙ times-one ms x v
odd-twice ms One x v = ap (times ms 1) (times-one ms x v) ∙ times-one ms x v
odd-twice ms Three x v = times-three ms (times ms 3 x) ∙ ap (negative ms) (times-three ms x) ∙ negative-negative ms x v

-- the sign of z
sought : Sign → ℕ
sought Zero = 0
sought One = 1
sought Three = 1

sign-sought : (ms : List Modulus) (s : Sign) (x : List ℕ) → Valid ms x → lead ms x ≡ digit_of s → lead ms (times ms (factor_of s) x) ≡ sought s
unfolding sought
sign-sought ms Zero x v e = ap (lead ms) (times-one ms x v) ∙ e
sign-sought ms One x v e = ap (lead ms) (times-one ms x v) ∙ e
sign-sought ms Three x v e = ap (lead ms) (times-three ms x) ∙ lead-negative ms x v ∙ ap (λ (c : ℕ). (4 - c) % 4) e

-- ---- the index where a block starts: the digits so far, and the numbers without them
-- which kind there is where the components read have sign l
abbrev pub SignFits : Kind → Kind → ℕ → Type 0
SignFits Even Even l = Unit {0}
SignFits Even Plus l = ⊥
SignFits Even Low l = ⊥
SignFits Plus Even l = ⊥
SignFits Plus Plus l = eqb l 1 ≡ false
SignFits Plus Low l = eqb l 1 ≡ true
SignFits Low c l = ⊥

abbrev EvenOnly : Kind → ℕ → Type 0
EvenOnly Even d = d % 2 ≡ 0
EvenOnly Plus d = Unit {0}
EvenOnly Low d = Unit {0}

-- an even number has an even digit, and its block is one of even numbers
fits-after : (c0 c : Kind) (l d : ℕ) → d < 4 → SignFits c0 c l → EvenOnly c0 d → DigitFits c d × SignFits c0 (kind_after c d) (odd_or d l)
fits-after Even Even l zero h f e = (tt, tt)
fits-after Even Even l (suc zero) h f e = absurd (omega arith)
fits-after Even Even l (suc (suc zero)) h f e = (tt, tt)
fits-after Even Even l (suc (suc (suc zero))) h f e = absurd (omega arith)
fits-after Even Even l (suc (suc (suc (suc d)))) h f e = absurd (omega arith)
fits-after Even Plus l d h f e = absurd f
fits-after Even Low l d h f e = absurd f
fits-after Plus Even l d h f e = absurd f
fits-after Plus Plus l zero h f e = (tt, f)
fits-after Plus Plus l (suc zero) h f e = (tt, refl)
fits-after Plus Plus l (suc (suc zero)) h f e = (tt, f)
fits-after Plus Plus l (suc (suc (suc d))) h f e = (tt, refl)
fits-after Plus Low l zero h f e = (tt, f)
fits-after Plus Low l (suc zero) h f e = (tt, refl)
fits-after Plus Low l (suc (suc zero)) h f e = (tt, f)
fits-after Plus Low l (suc (suc (suc d))) h f e = (tt, refl)
fits-after Low c l d h f e = absurd f

pub record Rising (a b : ℕ) (s : Sign) (z : List ℕ) (k : ℕ) (c : Kind) (j : ℕ) : Type 0 where
  pub down : j ≤ b
  pub fits : SignFits (kind_of s) c (lead (drop (a + j) (moduli a b)) (drop (a + j) z))
  pub room : k + length (numbers c (level a b j)) ≤ length (numbers (kind_of s) (moduli a b))
  pub made : (i : ℕ) → i < length (numbers c (level a b j))
      → element (moduli a b) (get_or (numbers (kind_of s) (moduli a b)) (k + i) 0)
      ≡ element (level a b j) (get_or (numbers c (level a b j)) i 0) ++ drop (a + j) z

pub numbers-few : (a b : ℕ) → a + b ≤ 12 → (s : Sign) → length (numbers (kind_of s) (moduli a b)) < 2 ^ 25
numbers-few a b h s = go s (ap length (numbers-all a b h s))
  where
    n : Counted a b h b (2 ^ (a + b)) ((2 ^ (a + 2 * b) + 2 ^ (a + b)) / 2)
    n = counted a b h b (omega arith)

    go : (s : Sign) → length (numbers (kind_of s) (level a b b)) ≡ length (numbers (kind_of s) (moduli a b)) → length (numbers (kind_of s) (moduli a b)) < 2 ^ 25
    go Zero y = omega (arith, n.less, n.small, n.evens)
    go One y = omega (arith, n.less, n.small, n.pluses)
    go Three y = omega (arith, n.less, n.small, n.pluses)

-- a block ends where the numbers do, or before
block_room : (a b : ℕ) → a + b ≤ 12 → (c : Kind) (j d : ℕ) → j < b → d < 4 → DigitFits c d
    → offset d (length (numbers c (level a b j))) (ones c (level a b j)) + length (numbers (kind_after c d) (level a b j)) ≤ length (numbers c (level a b (suc j)))
block_room a b h Low j zero k l f = let n = low-next a b h j k in omega arith
block_room a b h Low j (suc zero) k l f = let n = low-next a b h j k in omega arith
block_room a b h Low j (suc (suc zero)) k l f = let n = low-next a b h j k in omega arith
block_room a b h Low j (suc (suc (suc d))) k l f = let n = low-next a b h j k in omega arith
block_room a b h Plus j zero k l f = let n = plus-next a b h j k in omega arith
block_room a b h Plus j (suc zero) k l f = let n = plus-next a b h j k in omega arith
block_room a b h Plus j (suc (suc zero)) k l f = let n = plus-next a b h j k in omega arith
block_room a b h Plus j (suc (suc (suc d))) k l f = let n = plus-next a b h j k in omega arith
block_room a b h Even j zero k l f = let n = even-next a b h j k in omega arith
block_room a b h Even j (suc zero) k l f = absurd f
block_room a b h Even j (suc (suc zero)) k l f = let n = even-next a b h j k in omega arith
block_room a b h Even j (suc (suc (suc d))) k l f = absurd f

module _ (a b : ℕ) (s : Sign) (x : List ℕ) (y : Signed a b s x) where
  abbrev z : List ℕ
  z = times (moduli a b) (factor_of s) x

  h : a + b ≤ 12
  h = y.room

  v : Valid (moduli a b) z
  v = valid-times (moduli a b) (factor_of s) x

  q : lead (moduli a b) z ≡ sought s
  q = sign-sought (moduli a b) s x y.valid y.sign

  pub rising-start : Rising a b s z 0 (kind_of s) b
  rising-start =
      let ms = level a b b in
      let ns = drop (a + b) (moduli a b) in
      let e = numbers-all a b h s in
      record {
        down = omega arith;
        fits = go s;
        room = rw e (omega arith);
        made = λ i l.
            (let o : 0 + i ≡ i = omega arith in
            let n = get_or (numbers (kind_of s) ms) i 0 in
            ap₂ (λ (xs : List ℕ) (k : ℕ). element (moduli a b) (get_or xs k 0)) (sym e) o
            ∙ ap (λ (ks : List Modulus). element ks n) (sym (take-append-drop (a + b) (moduli a b)))
            ∙ element-behind ms ns n (number-below (kind_of s) ms i l)
            ∙ ap (λ (r : List ℕ). element ms n ++ r) (sym (unused-zero a b h z v)));
      }
    where
      none : eqb (lead (drop (a + b) (moduli a b)) (drop (a + b) z)) 1 ≡ false
      none = ap (λ (l : ℕ). eqb l 1) (lead-start a b h z v)

      go : (c : Sign) → SignFits (kind_of c) (kind_of c) (lead (drop (a + b) (moduli a b)) (drop (a + b) z))
      go Zero = tt
      go One = none
      go Three = none

  even-only : (j : ℕ) → j < b → EvenOnly (kind_of s) (get_or z (a + j) 0)
  unfolding sought
  even-only j k = go s q
    where
      go : (c : Sign) → lead (moduli a b) z ≡ sought c → EvenOnly (kind_of c) (get_or z (a + j) 0)
      go Zero e = lead-even (moduli a b) z (a + j) v e (at-four a b h z v j k)
      go One e = tt
      go Three e = tt

  pub rising_step : (k : ℕ) (c : Kind) (j d : ℕ) → Rising a b s z k c j → 0 < j → d ≡ factor_of s * get_or x (a + (j - 1)) 0 % 4
      → (d < 4) × Rising a b s z (k + offset d (length (numbers c (level a b (j - 1)))) (ones c (level a b (j - 1)))) (kind_after c d) (j - 1)
  rising_step k c zero d w l e = absurd (omega arith)
  rising_step k c (suc j) d w l e =
      let o : suc j - 1 ≡ j = omega arith in
      rw o (go (rw o at e))
    where
      go : d ≡ factor_of s * get_or x (a + j) 0 % 4
          → (d < 4) × Rising a b s z (k + offset d (length (numbers c (level a b j))) (ones c (level a b j))) (kind_after c d) j
      go e =
          let ms = level a b j in
          let jb : j < b = omega (arith, w.down) in
          let t : d ≡ get_or z (a + j) 0 = e ∙ times-digit a b (factor_of s) x j h jb in
          let u : d < 4 = subst (λ (i : ℕ). i < 4) (sym t) (digit-small a b h z v j jb) in
          let ls = lead (drop (a + suc j) (moduli a b)) (drop (a + suc j) z) in
          let f = fits-after (kind_of s) c ls d u w.fits (subst (EvenOnly (kind_of s)) (sym t) (even-only j jb)) in
          let n = offset d (length (numbers c ms)) (ones c ms) in
          let g = block_room a b h c j d jb u f.0 in
          let m = w.room in
          let l12 = twelve a b h z v in
          let a1 : a + suc j ≡ suc (a + j) = omega arith in
          let dr : drop (a + j) z ≡ d ∷ drop (suc (a + j)) z =
          drop-cons z (a + j) 0 (omega arith) ∙ ap {B = List ℕ} (λ (i : ℕ). i ∷ drop (suc (a + j)) z) (sym t) in
          let le : odd_or d ls ≡ lead (drop (a + j) (moduli a b)) (drop (a + j) z) =
          ap (λ (i : ℕ). odd_or i ls) t ∙ sym (lead-step a b h z v j jb) in (
            u,
            record {
              down = omega arith;
              fits = subst (SignFits (kind_of s) (kind_after c d)) le f.1;
              room = omega arith;
              made = λ i r.
                  (let k1 : k + n + i ≡ k + (n + i) = omega arith in
                  ap (λ (r : ℕ). element (moduli a b) (get_or (numbers (kind_of s) (moduli a b)) r 0)) k1
                  ∙ w.made (n + i) (omega arith)
                  ∙ ap₂ {C = List ℕ} ◌++◌ (element-off a b h c j d i jb u f.0 r) (ap (λ (m : ℕ). drop m z) a1)
                  ∙ append_assoc (element ms (get_or (numbers (kind_after c d) ms) i 0)) (d ∷ []) (drop (suc (a + j)) z)
                  ∙ ap (λ (r : List ℕ). element ms (get_or (numbers (kind_after c d) ms) i 0) ++ r) (sym dr));
            },
          )

  -- at the binary components every number is there
  none-length : (c : Kind) → SignFits (kind_of s) c (lead (moduli a b) z) → length (numbers c (level a b 0)) ≡ 2 ^ a
  unfolding sought
  none-length Low f = ap length (low-none a b) ∙ length_from (size (level a b 0)) 0 ∙ size_low a b h
  none-length Even f = ap length (even-none a b) ∙ length_from (size (level a b 0)) 0 ∙ size_low a b h
  none-length Plus f = absurd (go s q f)
    where
      go : (c : Sign) → lead (moduli a b) z ≡ sought c → SignFits (kind_of c) Plus (lead (moduli a b) z) → ⊥
      go Zero e f = f
      go One e f = true≢false (ap (λ (l : ℕ). eqb l 1) (sym e) ∙ f)
      go Three e f = true≢false (ap (λ (l : ℕ). eqb l 1) (sym e) ∙ f)

  pub rising-end : (k : ℕ) (c : Kind) (j : ℕ) → Rising a b s z k c j → j ≡ 0 → Based a b (kind_of s) z k
  rising-end k c (suc j) w l = absurd (omega arith)
  rising-end k c zero w l = λ u r.
      (let f : length (numbers c (level a b 0)) ≡ 2 ^ a = none-length c (subst (SignFits (kind_of s) c) (lead-end a b h z v) w.fits) in
      let m = w.room in
      let o : a + 0 ≡ a = omega arith in
      let i : u < length (numbers c (level a b 0)) = omega arith in (
        omega arith,
        w.made u i
            ∙ ap₂ {C = List ℕ} ◌++◌
            (ap (element (level a b 0)) (numbers-none a b h c u i).1 ∙ ap (λ (ms : List Modulus). element ms u) (level-none a b ∙ sym (level-none a 0)))
            (ap (λ (m : ℕ). drop m z) o),
      ))

  -- the index of an element: where its block starts, and the number of its binary digits
  pub index-found : (k u : ℕ) → Based a b (kind_of s) z k → u ≡ number (moduli a 0) x
      → (k + u < length (numbers (kind_of s) (moduli a b))) × (k + u < 2 ^ 25) × (standing s (moduli a b) (k + u) ≡ x)
  index-found k u w e =
      let t = based-at a b s x k u w e (omega (arith, h)) in
      let n = numbers-few a b h s in
      let t0 = t.0 in
      (t.0, omega arith, ap (times (moduli a b) (factor_of s)) t.1 ∙ odd-twice (moduli a b) s x y.valid)

-- where a block starts, computed
pub start-at : (d s m : ℕ) → d < 4 → (d + 1) / 2 * s + d / 2 * m ≡ offset d s m
start-at zero s m l = omega arith
start-at (suc zero) s m l = omega arith
start-at (suc (suc zero)) s m l = omega arith
start-at (suc (suc (suc zero))) s m l = omega arith
start-at (suc (suc (suc (suc d)))) s m l = absurd (omega arith)

-- ---- the number of the binary digits
number-unused : (n a : ℕ) (y : List ℕ) → number (drop a (moduli_of n a 0)) y ≡ 0
unfolding number
number-unused zero zero y = refl
number-unused zero (suc a) y = refl
number-unused (suc n) zero y = let i = number-unused n 0 (tl y) in omega arith
number-unused (suc n) (suc a) y = number-unused n a y

pub number-start : (a : ℕ) (y : List ℕ) → 0 ≡ number (drop a (moduli a 0)) y
unfolding moduli
number-start a y = sym (number-unused 12 a y)

-- the number of the binary digits, one more read
pub low_turn : (a : ℕ) (x : List ℕ) (u i : ℕ) → a ≤ 12 → length x ≡ 12 → 0 < i → i ≤ a → u ≡ number (drop i (moduli a 0)) (drop i x)
    → (2 * u + get_or x (i - 1) 0 % 2 ≡ number (drop (i - 1) (moduli a 0)) (drop (i - 1) x)) × (2 * u + get_or x (i - 1) 0 % 2 < 2 ^ 24)
low_turn a x u i h l p q e =
    let t = number-turn a 0 x u i l p (omega arith) e in
    let m : get_or (moduli a 0) (i - 1) one ≡ two = moduli-two a 0 (i - 1) (omega arith) (omega arith) in
    let r : u * 2 + get_or x (i - 1) 0 % 2 ≡ number (drop (i - 1) (moduli a 0)) (drop (i - 1) x) =
    subst (λ (k : Modulus). u * radix k + get_or x (i - 1) 0 % radix k ≡ number (drop (i - 1) (moduli a 0)) (drop (i - 1) x)) m t.0 in
    let s = t.1 in
    (omega arith, omega arith)
